-- Functions that may be run still may, where definitions without code enter.
use Rattle.std.specs.Prelude.{◌≡◌, List, [], ◌∷◌, ◌++◌}
use Rattle.std.specs.List.{AllByRecursion}
use Rattle.std.proofs.Common.{sym, ap, ◌∙◌, subst}
use Rattle.acl_heap.specs.Objects.{Objects}
use Rattle.model_terms.specs.Worlds.{World}
use Rattle.model_accepted.specs.Threaded.{IsThreaded}
use Rattle.model_lawful.proofs.LawfulLemmas.{lawful_worlds}
use Rattle.model_window.specs.Stands.{Origins, HoldsTrees}
use Rattle.model_fitting.specs.Steps.{AreOrigins}
use Rattle.model_macro_bodies.specs.Bodies.{AreRun}
use Rattle.model_made.specs.Lawful.{IsLawfulWorld}
use Rattle.model_origins.specs.Plain.{IsPlain}
use Rattle.model_origins.specs.Before as models
use Rattle.model_origins.specs.Before.{AreBefore}
use Rattle.model_origins.proofs.KeepLemmas.{plain_definitions_keep_origins}
use Rattle.model_origins.proofs.BeforeLemmas.{worlds_before_stay}
use Rattle.acl_terms.specs.declared.definition.Definition.{Definition}
use Rattle.acl_terms.specs.declared.definition.Definition.TheVariants as definition
use Rattle.acl_terms.specs.Definitions.{seen_definition, seen_definitions}
use Rattle.acl_worlds.specs.Contents.{Content, seen_world}
use Rattle.acl_code.specs.declared.term.Term.{Term}
use Rattle.acl_code.specs.Tables.{forest, Grown}
use Rattle.acl_machine.specs.Views.{code_with}
use Rattle.acl_definitions.proofs.LawLemmas.{are_added}
use Rattle.acl_tables.specs.Plain.{HasNoCode}
use Rattle.acl_tables.specs.Within.{AllWithin}
use Rattle.acl_tables.proofs.KeepLemmas.{plain_definitions_keep_trees}
use Rattle.acl_origins.specs.Were.{WereRun}
use Rattle.acl_origins.specs.Laws.{PlainDefinitionsKeepRuns, StobjsKeepRuns}

-- ---- definitions without code, as they are seen

plain_here : (h : Objects) (d : Definition) → IsPlain (seen_definition h d) → HasNoCode d
plain_here h (definition.Primitive name row arity) p = tt
plain_here h (definition.Function f) p = p
plain_here h (definition.Macro m) p = tt
plain_here h (definition.Constant name value) p = tt
plain_here h (definition.Object descriptor layout class) p = tt
plain_here h (definition.Generated f) p = tt
plain_here h (definition.Abstract descriptor) p = tt
plain_here h (definition.OfAbstract f) p = p
plain_here h (definition.Named name formals) p = tt
plain_here h (definition.Signed name formals signature executable) p = tt

pub all_plain : (h : Objects) (ds : List Definition) → AllByRecursion IsPlain (seen_definitions h ds) → AllByRecursion HasNoCode ds
all_plain h [] p = tt
all_plain h (d ∷ ds) p = (plain_here h d p.0, all_plain h ds p.1)

no_code : (h : Objects) (d : Definition) → HasNoCode d → models.HasNoCode (seen_definition h d)
no_code h (definition.Primitive name row arity) p = tt
no_code h (definition.Function f) p = p
no_code h (definition.Macro m) p = tt
no_code h (definition.Constant name value) p = tt
no_code h (definition.Object descriptor layout class) p = tt
no_code h (definition.Generated f) p = tt
no_code h (definition.Abstract descriptor) p = tt
no_code h (definition.OfAbstract f) p = p
no_code h (definition.Named name formals) p = tt
no_code h (definition.Signed name formals signature executable) p = tt

all_no_code : (h : Objects) (ds : List Definition) → AllByRecursion HasNoCode ds → AllByRecursion models.HasNoCode (seen_definitions h ds)
all_no_code h [] p = tt
all_no_code h (d ∷ ds) p = (no_code h d p.0, all_no_code h ds p.1)

-- ---- the world that they enter

pub seen_new : (h : Objects) (old new : Content) (ds : List Definition) → new.definitions ≡ old.definitions ++ ds → seen_world h new ≡ seen_world h old ++ seen_definitions h ds
seen_new h old new ds e = ap (seen_definitions h) e ∙ are_added.seen h old ds

module _ (h : Objects) (old new : Content) (ds : List Definition) (before after : List Term) (e : new.definitions ≡ old.definitions ++ ds) where
  abbrev w : World
  w = seen_world h old

  abbrev grown : World
  grown = w ++ seen_definitions h ds

  holds_still : AllByRecursion HasNoCode ds → AllWithin before old.definitions → Grown before after → (origins : Origins)
      → HoldsTrees w origins (code_with (forest h before) old.definitions) → HoldsTrees (seen_world h new) origins (code_with (forest h after) new.definitions)
  holds_still plain within longer origins holds =
      subst (λ (all : List Definition). HoldsTrees (seen_definitions h all) origins (code_with (forest h after) all)) (sym e)
      (plain_definitions_keep_trees.hold h old ds before after origins within longer plain holds)

  -- what holds of the world with the definitions holds of the new one
  of_new : (P : World → Type 0) → P grown → P (seen_world h new)
  of_new P p = subst P (sym (seen_new h old new ds e)) p

  module _ (plain : AllByRecursion IsPlain (seen_definitions h ds)) (within : AllWithin before old.definitions) (longer : Grown before after) where
    abbrev runs_plain : AreRun w (code_with (forest h before) old.definitions) → AreRun (seen_world h new) (code_with (forest h after) new.definitions)
    runs_plain r = record {
      threaded = of_new IsThreaded (plain_definitions_keep_origins.threaded w (seen_definitions h ds) plain r.threaded);
      origins = r.origins;
      are = of_new (λ (u : World). AreOrigins u r.origins) (plain_definitions_keep_origins.origins w (seen_definitions h ds) plain r.origins r.are);
      holds = holds_still (all_plain h ds plain) within longer r.origins r.holds;
    }

    were_plain : IsLawfulWorld w → WereRun w (code_with (forest h before) old.definitions) → WereRun (seen_world h new) (code_with (forest h after) new.definitions)
    were_plain l r = record {
      run = runs_plain r.run;
      before = of_new (λ (u : World). AreBefore u r.run.origins) (worlds_before_stay.before w (seen_definitions h ds) l (all_no_code h ds (all_plain h ds plain)) r.run.origins r.before);
    }

  were_still : AllByRecursion HasNoCode ds → AllWithin before old.definitions → Grown before after → IsLawfulWorld w → IsLawfulWorld (seen_world h new)
      → WereRun w (code_with (forest h before) old.definitions) → WereRun (seen_world h new) (code_with (forest h after) new.definitions)
  were_still plain within longer l k r =
      let none = all_no_code h ds plain in
      record {
        run = record {
          threaded = lawful_worlds.threaded (seen_world h new) k.lawful;
          origins = r.run.origins;
          are = of_new (λ (u : World). AreOrigins u r.run.origins) (worlds_before_stay.origins w (seen_definitions h ds) l none r.run.origins r.before r.run.are);
          holds = holds_still plain within longer r.run.origins r.run.holds;
        };
        before = of_new (λ (u : World). AreBefore u r.run.origins) (worlds_before_stay.before w (seen_definitions h ds) l none r.run.origins r.before);
      }

pub plain_definitions_keep_runs : PlainDefinitionsKeepRuns
plain_definitions_keep_runs = record { runs = runs_plain; were = were_plain }

pub stobjs_keep_runs : StobjsKeepRuns
stobjs_keep_runs = record { were = were_still }
