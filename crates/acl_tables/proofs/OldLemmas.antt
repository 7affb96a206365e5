-- The trees of functions that stood before, in a table that has grown.
use Rattle.std.specs.Prelude.{◌≡◌, ℕ, zero, suc, List, [], ◌∷◌, Some, slice_get, refl}
use Rattle.std.proofs.Common.{sym, arith}
use Rattle.acl_heap.specs.Objects.{Objects}
use Rattle.acl_terms.specs.declared.definition.Definition.{Definition}
use Rattle.acl_terms.specs.declared.definition.Definition.TheVariants as definition
use Rattle.acl_code.specs.declared.term.Term.{Term}
use Rattle.acl_code.specs.Tables.{forest, Grown}
use Rattle.acl_code.proofs.LawLemmas.{tables_grow}
use Rattle.acl_machine.specs.Views.{guard_of, body_of}
use Rattle.acl_tables.specs.Within.{TermsWithin, AllWithin}

module _ (h : Objects) (before after : List Term) (grown : Grown before after) where
  guard_stays : (d : Definition) → TermsWithin before d → guard_of (forest h before) (Some d) ≡ guard_of (forest h after) (Some d)
  guard_stays (definition.Primitive name row arity) w = refl
  guard_stays (definition.Function f) w = sym (tables_grow.tree h before after f.guard_term grown w.0)
  guard_stays (definition.Macro m) w = refl
  guard_stays (definition.Constant name value) w = refl
  guard_stays (definition.Object descriptor layout class) w = refl
  guard_stays (definition.Generated f) w = refl
  guard_stays (definition.Abstract descriptor) w = refl
  guard_stays (definition.OfAbstract f) w = sym (tables_grow.tree h before after f.guard_term grown w)
  guard_stays (definition.Named name formals) w = refl
  guard_stays (definition.Signed name formals signature executable) w = refl

  body_stays : (d : Definition) → TermsWithin before d → body_of (forest h before) (Some d) ≡ body_of (forest h after) (Some d)
  body_stays (definition.Primitive name row arity) w = refl
  body_stays (definition.Function f) w = sym (tables_grow.tree h before after f.body_term grown w.1)
  body_stays (definition.Macro m) w = refl
  body_stays (definition.Constant name value) w = refl
  body_stays (definition.Object descriptor layout class) w = refl
  body_stays (definition.Generated f) w = refl
  body_stays (definition.Abstract descriptor) w = refl
  body_stays (definition.OfAbstract f) w = refl
  body_stays (definition.Named name formals) w = refl
  body_stays (definition.Signed name formals signature executable) w = refl

  pub old_guard : (ds : List Definition) (n : ℕ) → AllWithin before ds → guard_of (forest h before) (slice_get ds n) ≡ guard_of (forest h after) (slice_get ds n)
  old_guard [] n w = refl
  old_guard (d ∷ ds) zero w = guard_stays d w.0
  old_guard (d ∷ ds) (suc n) w = old_guard ds n w.1

  pub old_body : (ds : List Definition) (n : ℕ) → AllWithin before ds → body_of (forest h before) (slice_get ds n) ≡ body_of (forest h after) (slice_get ds n)
  old_body [] n w = refl
  old_body (d ∷ ds) zero w = body_stays d w.0
  old_body (d ∷ ds) (suc n) w = old_body ds n w.1

  still_within : (d : Definition) → TermsWithin before d → TermsWithin after d
  still_within (definition.Primitive name row arity) w = tt
  still_within (definition.Function f) w = let l = grown.longer in (omega (arith, l, w.0), omega (arith, l, w.1))
  still_within (definition.Macro m) w = tt
  still_within (definition.Constant name value) w = tt
  still_within (definition.Object descriptor layout class) w = tt
  still_within (definition.Generated f) w = tt
  still_within (definition.Abstract descriptor) w = tt
  still_within (definition.OfAbstract f) w = let l = grown.longer in omega (arith, l, w)
  still_within (definition.Named name formals) w = tt
  still_within (definition.Signed name formals signature executable) w = tt

  pub old_within : (ds : List Definition) → AllWithin before ds → AllWithin after ds
  old_within [] w = tt
  old_within (d ∷ ds) w = (still_within d w.0, old_within ds w.1)
