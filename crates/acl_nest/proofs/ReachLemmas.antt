-- Words of parts lie where those of a form lie.
use Rattle.std.specs.Prelude.{◌≡◌, ℕ, ◌<◌, ◌≤◌, zero, suc, List, [], ◌∷◌, map, max, length, refl}
use Rattle.std.proofs.Common.{sym, ap, subst, ◌∙◌, arith, get_or}
use Rattle.acl_base.specs.declared.SymId.{SymId}
use Rattle.acl_base.specs.declared.Word.{Word}
use Rattle.acl_heap.specs.Objects.{Objects, Lies, reach}
use Rattle.acl_terms.specs.declared.form.Core.{Core}
use Rattle.acl_terms.specs.declared.form.Core.TheOpen as layer
use Rattle.acl_terms.specs.declared.form.Core.TheShapes as shapes
use Rattle.acl_terms.specs.declared.form.Core.TheViews as views
use Rattle.acl_terms.specs.declared.form.Core.TheVariants as variants
use Rattle.acl_terms.specs.declared.form.Core.TheFolds.{fold-roll-Core}
use Rattle.acl_terms.specs.Forms.{core_reach, layer_reach, bound_parts, most, CoreLies}
use Rattle.acl_nest.specs.Bindings.{FormsLie, BoundLie}

const_reach : (w : Word) → core_reach (variants.Const w) ≡ reach w
const_reach w = ap core_reach (sym (variants.rolls-Const w)) ∙ fold-roll-Core ℕ layer_reach (layer.Const w)

call_reach : (f : SymId) (parts : List Core) → core_reach (views.Call f parts) ≡ most (map core_reach parts)
call_reach f parts = ap core_reach (sym (variants.rolls-Call f parts)) ∙ fold-roll-Core ℕ layer_reach (layer.Call f parts)

abbrev reaches : List (SymId × Core) → List ℕ
reaches bs = bound_parts (map (shapes.former-Core-Let-0-at-2.map Core ℕ core_reach) bs)

same_reaches : (bs : List (SymId × Core)) → reaches bs ≡ map (λ (b : SymId × Core). core_reach b.1) bs
same_reaches [] = refl
same_reaches (b ∷ bs) = ap (λ ns. core_reach b.1 ∷ ns) (same_reaches bs)

let_reach : (bs : List (SymId × Core)) (vars : List SymId) (p c : Core)
    → core_reach (views.StobjLet bs vars p c) ≡ max (most (map (λ (b : SymId × Core). core_reach b.1) bs)) (max (core_reach p) (core_reach c))
let_reach bs vars p c =
    ap core_reach (sym (variants.rolls-StobjLet bs vars p c)) ∙ (fold-roll-Core ℕ layer_reach (layer.StobjLet bs vars p c)
    ∙ ap (λ ns. max (most ns) (max (core_reach p) (core_reach c))) (same_reaches bs))

-- the largest is no smaller than each
most_at : {X : Type 0} (reach_of : X → ℕ) (xs : List X) (i : ℕ) (d : X) → i < length xs → reach_of (get_or xs i d) ≤ most (map reach_of xs)
most_at reach_of [] i d l = absurd (omega (arith, l))
most_at reach_of (x ∷ xs) zero d l = omega arith
most_at reach_of (x ∷ xs) (suc i) d l =
    let inner : reach_of (get_or xs i d) ≤ most (map reach_of xs) = most_at reach_of xs i d (omega (arith, l)) in
    omega (arith, inner)

module _ (h : Objects) where
  pub const_lies : (w : Word) → CoreLies h (variants.Const w) → Lies h w
  const_lies w l = subst (λ n. n ≤ length h) (const_reach w) l

  pub actuals_lie : (f : SymId) (parts : List Core) → CoreLies h (views.Call f parts) → FormsLie h parts
  actuals_lie f parts l = subst (λ n. n ≤ length h) (call_reach f parts) l

  pub bindings_lie : (bs : List (SymId × Core)) (vars : List SymId) (p c : Core) → CoreLies h (views.StobjLet bs vars p c) → BoundLie h bs
  bindings_lie bs vars p c l = omega (arith, l, let_reach bs vars p c)

  pub first_lies : (parts : List Core) (i : ℕ) (d : Core) → FormsLie h parts → i < length parts → CoreLies h (get_or parts i d)
  first_lies parts i d l m = omega (arith, l, most_at core_reach parts i d m)

  pub bound_lies : (bs : List (SymId × Core)) (i : ℕ) (d : SymId × Core) → BoundLie h bs → i < length bs → CoreLies h (get_or bs i d).1
  bound_lies bs i d l m = omega (arith, l, most_at (λ (b : SymId × Core). core_reach b.1) bs i d m)
