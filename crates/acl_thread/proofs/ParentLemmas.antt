-- The parent that the first binding of a `STOBJ-LET` names.
use Rattle.std.specs.Prelude.{◌≡◌, ℕ, ◌<◌, List, [], ◌∷◌, length, Option, Some, None, option_map, refl}
use Rattle.std.proofs.Common.{sym, ap, ◌∙◌, arith, get_or}
use Rattle.acl_base.specs.declared.SymId.{SymId}
use Rattle.acl_heap.specs.Objects.{Objects}
use Rattle.model_terms.specs.Cores as cores
use Rattle.model_terms.specs.Cores.{reached}
use Rattle.model_terms.specs.Sites.{parent_in}
use Rattle.acl_terms.specs.declared.form.Core.{Core}
use Rattle.acl_terms.specs.Forms.{seen_core, seen_bound}
use Rattle.acl_nest.specs.declared.bindings.Reached.{Reached}
use Rattle.acl_nest.specs.Bindings.{plain_reached, seen_reached}

plain_parent : (o : Option cores.Reached) → option_map (λ (r : cores.Reached). r.parent) (option_map plain_reached o) ≡ option_map (λ (r : cores.Reached). r.parent) o
plain_parent None = refl
plain_parent (Some r) = refl

module _ (h : Objects) where
  pub parent_none : (bs : List (SymId × Core)) → length bs ≡ 0 → parent_in (cores.cores (seen_bound h bs)) ≡ None
  parent_none [] l = refl
  parent_none (b ∷ bs) l = absurd (omega (arith, l))

  first_is : (bs : List (SymId × Core)) (d : SymId × Core) → 0 < length bs → parent_in (cores.cores (seen_bound h bs)) ≡ option_map (λ (r : cores.Reached). r.parent) (reached (seen_core h (get_or bs 0 d).1))
  first_is [] d l = absurd (omega (arith, l))
  first_is (b ∷ bs) d l = refl

  pub parent_there : (bs : List (SymId × Core)) (d : SymId × Core) (r : Reached) → 0 < length bs → Some (seen_reached r) ≡ option_map plain_reached (reached (seen_core h (get_or bs 0 d).1))
      → parent_in (cores.cores (seen_bound h bs)) ≡ Some r.parent.0
  parent_there bs d r l e =
      first_is bs d l ∙ (sym (plain_parent (reached (seen_core h (get_or bs 0 d).1))) ∙ ap (option_map (λ (r : cores.Reached). r.parent)) (sym e))

  pub parent_other : (bs : List (SymId × Core)) (d : SymId × Core) → 0 < length bs → None ≡ option_map plain_reached (reached (seen_core h (get_or bs 0 d).1))
      → parent_in (cores.cores (seen_bound h bs)) ≡ None
  parent_other bs d l e =
      first_is bs d l ∙ (sym (plain_parent (reached (seen_core h (get_or bs 0 d).1))) ∙ ap (option_map (λ (r : cores.Reached). r.parent)) (sym e))
