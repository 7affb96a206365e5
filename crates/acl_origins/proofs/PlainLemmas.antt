-- Worlds in which there is nothing to be run.
use Rattle.std.specs.Prelude.{◌≡◌, List, [], ◌∷◌}
use Rattle.std.specs.List.{AllByRecursion}
use Rattle.std.proofs.Common.{sym, subst}
use Rattle.acl_heap.specs.Objects.{Objects}
use Rattle.model_terms.specs.Worlds.{World}
use Rattle.model_accepted.specs.Threaded.{IsThreaded}
use Rattle.model_window.specs.Tables.{all_in}
use Rattle.model_books.specs.Opening.{opening_world}
use Rattle.model_origins.specs.Plain.{IsPlain, IsBare}
use Rattle.model_origins.proofs.BeginLemmas.{plain_worlds_have_origins}
use Rattle.model_origins.proofs.BeforeLemmas.{worlds_before_stay}
use Rattle.acl_terms.specs.declared.definition.Definition.{Definition}
use Rattle.acl_terms.specs.declared.definition.Definition.TheVariants as definition
use Rattle.acl_terms.specs.Definitions.{seen_definition, seen_definitions}
use Rattle.acl_worlds.specs.Contents.{Content, seen_world}
use Rattle.acl_code.specs.declared.term.Term.{Term}
use Rattle.acl_code.specs.Tables.{forest}
use Rattle.acl_machine.specs.Views.{code_with}
use Rattle.acl_tables.specs.Within.{AllWithin}
use Rattle.acl_tables.proofs.PlainLemmas.{plain_worlds_are_held}
use Rattle.acl_origins.specs.Bodies.{MacrosWithin, HasNoBody, HadBodies}
use Rattle.acl_origins.specs.Were.{WereRun}
use Rattle.acl_origins.specs.Laws.{PlainWorldsAreRun}
use Rattle.acl_origins.proofs.RunLemmas.{all_plain}
use Rattle.acl_origins.proofs.BodyLemmas.{bodies_are_kept}

were_plain : (h : Objects) (w : Content) (ts : List Term) → AllByRecursion IsPlain (seen_world h w) → IsThreaded (seen_world h w) → WereRun (seen_world h w) (code_with (forest h ts) w.definitions)
were_plain h w ts plain threaded = record {
  run = record {
    threaded = threaded;
    origins = all_in (seen_world h w);
    are = plain_worlds_have_origins.origins (seen_world h w) plain (all_in (seen_world h w));
    holds = plain_worlds_are_held.hold h w ts (all_plain h w.definitions plain);
  };
  before = worlds_before_stay.plain (seen_world h w) plain (all_in (seen_world h w));
}

-- ---- primitives and constants

bare_plain : (h : Objects) (d : Definition) → IsBare (seen_definition h d) → IsPlain (seen_definition h d) × HasNoBody d
bare_plain h (definition.Primitive name row arity) p = (tt, tt)
bare_plain h (definition.Function f) p = absurd p
bare_plain h (definition.Macro m) p = absurd p
bare_plain h (definition.Constant name value) p = (tt, tt)
bare_plain h (definition.Object descriptor layout class) p = absurd p
bare_plain h (definition.Generated f) p = absurd p
bare_plain h (definition.Abstract descriptor) p = absurd p
bare_plain h (definition.OfAbstract f) p = absurd p
bare_plain h (definition.Named name formals) p = absurd p
bare_plain h (definition.Signed name formals signature executable) p = absurd p

all_bare : (h : Objects) (ds : List Definition) → AllByRecursion IsBare (seen_definitions h ds) → AllByRecursion IsPlain (seen_definitions h ds) × AllByRecursion HasNoBody ds
all_bare h [] p = (tt, tt)
all_bare h (d ∷ ds) p = let one = bare_plain h d p.0 in let others = all_bare h ds p.1 in ((one.0, others.0), (one.1, others.1))

opening : (h : Objects) (w : Content) (ts : List Term) → seen_world h w ≡ opening_world
    → WereRun (seen_world h w) (code_with (forest h ts) w.definitions) × HadBodies h (seen_world h w) ts w.definitions × AllWithin ts w.definitions × MacrosWithin ts w.definitions
opening h w ts e =
    let bare = all_bare h w.definitions (subst (λ (u : World). AllByRecursion IsBare u) (sym e) plain_worlds_have_origins.opening) in (
      were_plain h w ts bare.0 (subst IsThreaded (sym e) plain_worlds_have_origins.threaded),
      bodies_are_kept.none h (seen_world h w) ts w.definitions bare.1,
      plain_worlds_are_held.within ts w.definitions (all_plain h w.definitions bare.0),
      bodies_are_kept.none_within ts w.definitions bare.1,
    )

pub plain_worlds_are_run : PlainWorldsAreRun
plain_worlds_are_run = record { were = were_plain; opening = opening }
