-- A table without terms fits the opening world, and any goes on to fit as heap and symbols grow.
use Rattle.std.specs.Prelude.{◌≡◌, ℕ, zero, suc, ◌<◌, ◌≤◌, List, [], ◌∷◌, length, max, get_or}
use Rattle.std.specs.List.{AllByRecursion, Contains}
use Rattle.std.proofs.Common.{sym, subst, arith}
use Rattle.model_symbols.specs.Symbols.{Table}
use Rattle.model_symbols.specs.Growth as tables
use Rattle.model_symbols.specs.Opening.{opening}
use Rattle.model_symbols.proofs.LawLemmas.{opens_right}
use Rattle.model_terms.specs.Cores as cores
use Rattle.model_terms.specs.Worlds as worlds
use Rattle.model_terms.specs.Worlds.{World, Primitive, Defined, Macro, Constant, Concrete, Generated, Abstract, OfAbstract, Named, Signed}
use Rattle.model_slots.specs.Trees.{Tree}
use Rattle.model_books.specs.Opening.{opening_world}
use Rattle.model_origins.specs.Plain.{IsOfNoStobj, IsBare}
use Rattle.model_origins.specs.Before.{HadBody}
use Rattle.model_origins.proofs.BeginLemmas.{plain_worlds_have_origins}
use Rattle.acl_heap.specs.Objects.{Objects, Extends}
use Rattle.acl_terms.specs.Definitions.{seen_formals, definition_reach, definitions_reach}
use Rattle.acl_terms.specs.Forms.{seen_core}
use Rattle.acl_terms.specs.Growth.{seen_core-later, seen_formals-later, seen_definitions-later}
use Rattle.acl_terms.specs.declared.definition.Definition.{Definition}
use Rattle.acl_terms.specs.declared.definition.Definition.TheVariants as definition
use Rattle.acl_terms.specs.declared.definition.Macro as coded
use Rattle.acl_worlds.specs.Contents.{Content, IsWorld, WorldLies, seen_world}
use Rattle.acl_code.specs.declared.term.Term.{Term}
use Rattle.acl_code.specs.Tables.{forest, tree_in, tree_at}
use Rattle.acl_code.proofs.LawLemmas.{heaps_grow}
use Rattle.acl_machine.specs.Views.{code_with}
use Rattle.acl_exec_turns.proofs.ReadLemmas.{primitives_stand}
use Rattle.acl_origins.specs.Were.{WereRun}
use Rattle.acl_origins.proofs.PlainLemmas.{plain_worlds_are_run}
use Rattle.acl_pure.specs.Stays.{fits_later}
use Rattle.acl_fitting.specs.Going.{FitsOn}
use Rattle.acl_fitting.specs.Laws.{OpeningFits, GrowthFits}
use Rattle.acl_fitting.proofs.WorldLemmas.{none_typed, none_known}

-- ---- the opening world

bare_no_stobj : (d : worlds.Definition) → IsBare d → IsOfNoStobj d
bare_no_stobj (Primitive name row) p = tt
bare_no_stobj (Defined f) p = tt
bare_no_stobj (Macro name formals body) p = tt
bare_no_stobj (Constant name value) p = tt
bare_no_stobj (Concrete d class) p = p
bare_no_stobj (Generated g) p = p
bare_no_stobj (Abstract d) p = p
bare_no_stobj (OfAbstract f) p = p
bare_no_stobj (Named name formals) p = tt
bare_no_stobj (Signed name formals signature executable) p = tt

all_no_stobj : (w : World) → AllByRecursion IsBare w → AllByRecursion IsOfNoStobj w
all_no_stobj [] p = tt
all_no_stobj (d ∷ w) p = (bare_no_stobj d p.0, all_no_stobj w p.1)

opening_in : (t : Table) (h : Objects) (w : Content) → IsWorld w → seen_world h w ≡ opening_world → WorldLies h w → tables.Extends opening t → FitsOn [] h w t
opening_in t h w world e lies opens =
    let many : length opening.symbols ≡ 196 = opens_right.symbols in
    let longer = opens.longer in
    let some : 1 < length t.symbols = omega (arith, many, longer) in
    let all = plain_worlds_are_run.opening h w [] e in
    let none = subst (λ (u : World). AllByRecursion IsOfNoStobj u) (sym e) (all_no_stobj opening_world plain_worlds_have_origins.opening) in
    record {
      fits = record {
        lie = record { all = omega arith };
        known = record { known = λ i x f. absurd (cc) };
        primitives = primitives_stand w world;
        opens = opens;
        world = record { lies = lies; accepts = none_typed (seen_world h w) none; knows = none_known (length t.symbols) (seen_world h w) none; some = some };
        runs = all.0.run;
        bodies = λ m c. (all.1.each m c).has;
      };
      runs = all.0;
      bodies = all.1;
      within = all.2;
      macros = all.3;
    }

pub opening_fits : OpeningFits
opening_fits = record { fit = opening_in }

-- ---- growth

lies_in : (ds : List Definition) (n : ℕ) (d : Definition) → n < length ds → get_or ds n d ≡ d → definition_reach d ≤ definitions_reach ds
lies_in [] n d l e = absurd (omega (arith, l))
lies_in (x ∷ ds) zero d l e = subst (λ y. definition_reach y ≤ max (definition_reach x) (definitions_reach ds)) e (omega arith)
lies_in (x ∷ ds) (suc n) d l e = let r : definition_reach d ≤ definitions_reach ds = lies_in ds n d (omega (arith, l)) e in omega (arith, r)

module _ (t t' : Table) (h h' : Objects) (w : Content) (terms : List Term) (e : Extends h h') (g : tables.Extends t t') (f : FitsOn terms h w t) where
  same_world : seen_world h' w ≡ seen_world h w
  same_world = seen_definitions-later e w.definitions f.fits.world.lies

  same_trees : forest h' terms ≡ forest h terms
  same_trees = heaps_grow.trees h h' terms e f.fits.lie

  body_later : (m : coded.Macro) → Contains w.definitions (definition.Macro m) → HadBody (seen_world h' w) (seen_formals h' m.formals) (seen_core h' m.body) (tree_at h' terms m.body_term)
  body_later m c =
      let r : definition_reach (definition.Macro m) ≤ definitions_reach w.definitions = lies_in w.definitions c.0 (definition.Macro m) c.1 c.2 in
      let l = f.fits.world.lies in
      let formals : seen_formals h' m.formals ≡ seen_formals h m.formals = seen_formals-later e m.formals (omega (arith, r, l)) in
      let body : seen_core h' m.body ≡ seen_core h m.body = seen_core-later e m.body (omega (arith, r, l)) in
      let one : HadBody (seen_world h' w) (seen_formals h m.formals) (seen_core h m.body) (tree_at h terms m.body_term) =
      subst (λ (x : World). HadBody x (seen_formals h m.formals) (seen_core h m.body) (tree_at h terms m.body_term)) (sym same_world) (f.bodies.each m c) in
      let two : HadBody (seen_world h' w) (seen_formals h' m.formals) (seen_core h m.body) (tree_at h terms m.body_term) =
      subst (λ (x : worlds.MacroFormals). HadBody (seen_world h' w) x (seen_core h m.body) (tree_at h terms m.body_term)) (sym formals) one in
      let three : HadBody (seen_world h' w) (seen_formals h' m.formals) (seen_core h' m.body) (tree_at h terms m.body_term) =
      subst (λ (x : cores.Core). HadBody (seen_world h' w) (seen_formals h' m.formals) x (tree_at h terms m.body_term)) (sym body) two in
      subst (λ (ts : List Tree). HadBody (seen_world h' w) (seen_formals h' m.formals) (seen_core h' m.body) (tree_in ts m.body_term)) (sym same_trees) three

  grown_fits : FitsOn terms h' w t'
  grown_fits = record {
    fits = fits_later terms h h' w t t' e g f.fits;
    runs = subst (λ (x : World). WereRun x (code_with (forest h' terms) w.definitions)) (sym same_world)
        (subst (λ (ts : List Tree). WereRun (seen_world h w) (code_with ts w.definitions)) (sym same_trees) f.runs);
    bodies = record { each = body_later };
    within = f.within;
    macros = f.macros;
  }

pub growth_fits : GrowthFits
growth_fits = record { fit = grown_fits }
