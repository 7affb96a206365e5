-- What a table of terms is to a world stays as heap and symbols grow.
use Rattle.std.specs.Prelude.{◌≡◌, ℕ, zero, suc, ◌<◌, ◌≤◌, List, [], ◌∷◌, length, max, get_or}
use Rattle.std.specs.List.{Contains}
use Rattle.std.proofs.Common.{sym, subst, arith}
use Rattle.model_symbols.specs.Symbols.{Table}
use Rattle.model_symbols.specs.Growth as tables
use Rattle.model_symbols.proofs.TableLemmas.{Extends-then}
use Rattle.model_terms.specs.Cores as cores
use Rattle.model_terms.specs.Worlds as worlds
use Rattle.model_slots.specs.Trees.{Tree}
use Rattle.model_macro_bodies.specs.Bodies.{AreRun, HasBody}
use Rattle.acl_heap.specs.Objects.{Objects, Extends}
use Rattle.acl_terms.specs.Definitions.{seen_formals, definition_reach, definitions_reach}
use Rattle.acl_terms.specs.Forms.{seen_core}
use Rattle.acl_terms.specs.Growth.{seen_core-later, seen_formals-later, seen_definitions-later}
use Rattle.acl_terms.specs.declared.definition.Definition.{Definition}
use Rattle.acl_terms.specs.declared.definition.Definition.TheVariants as definition
use Rattle.acl_terms.specs.declared.definition.Macro.{Macro}
use Rattle.acl_worlds.specs.Contents.{Content, seen_world}
use Rattle.acl_code.specs.declared.term.Term.{Term}
use Rattle.acl_code.specs.Tables.{forest, tree_in, tree_at}
use Rattle.acl_code.proofs.LawLemmas.{heaps_grow, constants_stay_known}
use Rattle.acl_machine.specs.Views.{code_with}
use Rattle.acl_list_keeper.specs.Stays.{world_fits_later}
use Rattle.acl_pure.specs.Fitting.{Fits}

lies_in : (ds : List Definition) (n : ℕ) (d : Definition) → n < length ds → get_or ds n d ≡ d → definition_reach d ≤ definitions_reach ds
lies_in [] n d l e = absurd (omega (arith, l))
lies_in (x ∷ ds) zero d l e = subst (λ y. definition_reach y ≤ max (definition_reach x) (definitions_reach ds)) e (omega arith)
lies_in (x ∷ ds) (suc n) d l e = let r : definition_reach d ≤ definitions_reach ds = lies_in ds n d (omega (arith, l)) e in omega (arith, r)

module _ (terms : List Term) (h h' : Objects) (w : Content) (t t' : Table) (e : Extends h h') (g : tables.Extends t t') (f : Fits terms h w t) where
  same_world : seen_world h' w ≡ seen_world h w
  same_world = seen_definitions-later e w.definitions f.world.lies

  same_trees : forest h' terms ≡ forest h terms
  same_trees = heaps_grow.trees h h' terms e f.lie

  body_later : (m : Macro) → Contains w.definitions (definition.Macro m) → HasBody (seen_world h' w) (seen_formals h' m.formals) (seen_core h' m.body) (tree_at h' terms m.body_term)
  body_later m c =
      let r : definition_reach (definition.Macro m) ≤ definitions_reach w.definitions = lies_in w.definitions c.0 (definition.Macro m) c.1 c.2 in
      let l = f.world.lies in
      let formals : seen_formals h' m.formals ≡ seen_formals h m.formals = seen_formals-later e m.formals (omega (arith, r, l)) in
      let body : seen_core h' m.body ≡ seen_core h m.body = seen_core-later e m.body (omega (arith, r, l)) in
      let one : HasBody (seen_world h' w) (seen_formals h m.formals) (seen_core h m.body) (tree_at h terms m.body_term) =
      subst (λ (x : worlds.World). HasBody x (seen_formals h m.formals) (seen_core h m.body) (tree_at h terms m.body_term)) (sym same_world) (f.bodies m c) in
      let two : HasBody (seen_world h' w) (seen_formals h' m.formals) (seen_core h m.body) (tree_at h terms m.body_term) =
      subst (λ (x : worlds.MacroFormals). HasBody (seen_world h' w) x (seen_core h m.body) (tree_at h terms m.body_term)) (sym formals) one in
      let three : HasBody (seen_world h' w) (seen_formals h' m.formals) (seen_core h' m.body) (tree_at h terms m.body_term) =
      subst (λ (x : cores.Core). HasBody (seen_world h' w) (seen_formals h' m.formals) x (tree_at h terms m.body_term)) (sym body) two in
      subst (λ (ts : List Tree). HasBody (seen_world h' w) (seen_formals h' m.formals) (seen_core h' m.body) (tree_in ts m.body_term)) (sym same_trees) three

  pub fits_later : Fits terms h' w t'
  fits_later = record {
    lie = heaps_grow.words h h' terms e f.lie;
    known = constants_stay_known.symbols (length t.symbols) (length t'.symbols) h' terms g.longer (heaps_grow.words h h' terms e f.lie)
        (constants_stay_known.heap (length t.symbols) h h' terms e f.lie f.known);
    primitives = f.primitives;
    opens = Extends-then f.opens g;
    world = world_fits_later h h' w (length t.symbols) (length t'.symbols) e g.longer f.world;
    runs = subst (λ (x : worlds.World). AreRun x (code_with (forest h' terms) w.definitions)) (sym same_world)
        (subst (λ (ts : List Tree). AreRun (seen_world h w) (code_with ts w.definitions)) (sym same_trees) f.runs);
    bodies = body_later;
  }
