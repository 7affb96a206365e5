-- Definitions without code enter a world whose trees a table holds.
use Rattle.std.specs.Prelude.{◌≡◌, ℕ, ◌+◌, ◌-◌, ◌<◌, List, [], ◌++◌, length, true, Option, Some, None, slice_get, refl}
use Rattle.std.specs.List.{AllByRecursion}
use Rattle.std.proofs.Common.{sym, ap, ◌∙◌, subst, arith}
use Rattle.std.proofs.lemmas.List.{length-map}
use Rattle.acl_heap.specs.Objects.{Objects}
use Rattle.model_terms.specs.Worlds as worlds
use Rattle.model_terms.specs.Worlds.{World, Function, FunctionOfAbstract, Defined, OfAbstract}
use Rattle.model_terms.specs.declared.role.AbstractRole.TheVariants as abstract_role
use Rattle.model_slots.specs.Resolved.{number_in}
use Rattle.model_slots.proofs.WorldLemmas.{keeps_numbers}
use Rattle.model_window.specs.Stands.{Origins, IsEarlier, HoldsTrees}
use Rattle.acl_terms.specs.declared.definition.Definition.{Definition}
use Rattle.acl_terms.specs.Definitions.{seen_definition, seen_definitions}
use Rattle.acl_worlds.specs.Contents.{Content, seen_world}
use Rattle.acl_code.specs.declared.term.Term.{Term}
use Rattle.acl_code.specs.Tables.{forest, Grown}
use Rattle.acl_translate.specs.Functions.{formal_tree}
use Rattle.acl_machine.specs.Views.{guard_of, body_of, code_with}
use Rattle.acl_definitions.specs.Added.{with_definitions}
use Rattle.acl_definitions.proofs.LawLemmas.{are_added}
use Rattle.acl_tables.specs.Laws.{PlainDefinitionsKeepTrees}
use Rattle.acl_tables.specs.Plain.{HasNoCode}
use Rattle.acl_tables.specs.Within.{TermsWithin, AllWithin}
use Rattle.acl_tables.proofs.ListLemmas.{get_left, get_right, number_within, number_behind, all_joined}
use Rattle.acl_tables.proofs.OldLemmas.{old_guard, old_body, old_within}
use Rattle.acl_tables.proofs.PlainLemmas.{HasCode, none_there, plain_worlds_are_held}

some_same : {A : Type 0} {a b : A} → Some a ≡ Some b → a ≡ b
some_same e = cc

module _ (h : Objects) (old : Content) (ds : List Definition) (before after : List Term) (origins : Origins) (within : AllWithin before old.definitions) (grown : Grown before after)
    (plain : AllByRecursion HasNoCode ds) (holds : HoldsTrees (seen_world h old) origins (code_with (forest h before) old.definitions)) where
  abbrev w : World
  w = seen_world h old

  abbrev v : World
  v = w ++ seen_definitions h ds

  as_long : length w ≡ length old.definitions
  as_long = length-map old.definitions (seen_definition h)

  -- a definition to whose calls terms belong stood before
  record StoodBefore (x n : ℕ) (d : worlds.Definition) : Type 0 where
    pub number : number_in w x ≡ Some n
    pub there : slice_get w n ≡ Some d
    pub place : n < length old.definitions

  stood : (x n : ℕ) (d : worlds.Definition) → HasCode d → number_in v x ≡ Some n → slice_get v n ≡ Some d → StoodBefore x n d
  stood x n d t i e = go (number_in w x) refl
    where
      go : (o : Option ℕ) → number_in w x ≡ o → StoodBefore x n d
      go (Some m) f =
          let same : n ≡ m = some_same (sym i ∙ keeps_numbers.number w (seen_definitions h ds) x m f) in
          let l = number_within w x m f in
          let a = as_long in
          record { number = f ∙ ap Some (sym same); there = sym (get_left w (seen_definitions h ds) n (omega (arith, l, same))) ∙ e; place = omega (arith, l, a, same) }
      go None f =
          let l = number_behind w (seen_definitions h ds) x n f i in
          let p : n ≡ length w + (n - length w) = omega (arith, l) in
          absurd (none_there h ds (n - length w) d plain (sym (get_right w (seen_definitions h ds) n (n - length w) p) ∙ e) t)

  still : (a : World) → IsEarlier a w → IsEarlier a v
  still a i = record { number = λ f n e. keeps_numbers.number w (seen_definitions h ds) f n (i.number f n e) }

  code_guard : (n : ℕ) → n < length old.definitions → guard_of (forest h before) (slice_get old.definitions n) ≡ guard_of (forest h after) (slice_get (old.definitions ++ ds) n)
  code_guard n l = old_guard h before after grown old.definitions n within ∙ ap (guard_of (forest h after)) (sym (get_left old.definitions ds n l))

  code_body : (n : ℕ) → n < length old.definitions → body_of (forest h before) (slice_get old.definitions n) ≡ body_of (forest h after) (slice_get (old.definitions ++ ds) n)
  code_body n l = old_body h before after grown old.definitions n within ∙ ap (body_of (forest h after)) (sym (get_left old.definitions ds n l))

  guard_held : (x n : ℕ) (f : Function) → number_in v x ≡ Some n → slice_get v n ≡ Some (Defined f) → f.executable ≡ true
      → formal_tree (origins.guard x) f.formals f.guard ≡ Some (guard_of (forest h after) (slice_get (old.definitions ++ ds) n))
  guard_held x n f i e r = let s = stood x n (Defined f) tt i e in holds.guard x n f s.number s.there r ∙ ap Some (code_guard n s.place)

  body_held : (x n : ℕ) (f : Function) → number_in v x ≡ Some n → slice_get v n ≡ Some (Defined f) → f.executable ≡ true
      → formal_tree (origins.body x) f.formals f.body ≡ Some (body_of (forest h after) (slice_get (old.definitions ++ ds) n))
  body_held x n f i e r = let s = stood x n (Defined f) tt i e in holds.body x n f s.number s.there r ∙ ap Some (code_body n s.place)

  export_held : (x n : ℕ) (f : FunctionOfAbstract) → number_in v x ≡ Some n → slice_get v n ≡ Some (OfAbstract f) → f.role ≡ abstract_role.Export
      → formal_tree (origins.guard x) f.formals f.guard ≡ Some (guard_of (forest h after) (slice_get (old.definitions ++ ds) n))
  export_held x n f i e r = let s = stood x n (OfAbstract f) tt i e in holds.export x n f s.number s.there r ∙ ap Some (code_guard n s.place)

  kept : HoldsTrees (seen_world h (with_definitions old ds)) origins (code_with (forest h after) (old.definitions ++ ds))
  kept = subst (λ (u : World). HoldsTrees u origins (code_with (forest h after) (old.definitions ++ ds))) (sym (are_added.seen h old ds)) (record {
    guards = λ f. still (origins.guard f) (holds.guards f);
    bodies = λ f. still (origins.body f) (holds.bodies f);
    guard = guard_held;
    body = body_held;
    export = export_held;
  })

pub plain_definitions_keep_trees : PlainDefinitionsKeepTrees
plain_definitions_keep_trees = record {
  hold = kept;
  within = λ ds others before after w g p. all_joined (TermsWithin after) ds others (old_within [] before after g ds w) (plain_worlds_are_held.within after others p);
}
