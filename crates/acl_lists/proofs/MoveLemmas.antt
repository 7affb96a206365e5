-- Cells that are moved.
use Rattle.std.specs.Prelude.{◌≡◌, ℕ, zero, suc, ◌+◌, ◌<◌, ◌≤◌, ◌≢◌, List, [], ◌∷◌, ◌++◌, length, map, take, drop, Some, slice_get, refl}
use Rattle.std.proofs.Common.{sym, ap, ◌∙◌, arith, add-one, get_or, set, length-set}
use Rattle.std.proofs.lemmas.List.{take-set-le, take_more_set}
use Rattle.acl_lists.specs.declared.cell.Cell.{Cell}
use Rattle.acl_lists.specs.Compacting.{renumbered}

get_set_other : {X : Type 0} (xs : List X) (i j : ℕ) (x : X) → j ≢ i → slice_get (set xs i x) j ≡ slice_get xs j
get_set_other [] i j x d = refl
get_set_other (y ∷ xs) zero zero x d = absurd (d refl)
get_set_other (y ∷ xs) zero (suc j) x d = refl
get_set_other (y ∷ xs) (suc i) zero x d = refl
get_set_other (y ∷ xs) (suc i) (suc j) x d = get_set_other xs i j x (λ e. d (ap suc e))

pub moved_long : (old mid new : List Cell) (from to : ℕ) (a b : Cell) → mid ≡ set old from a → new ≡ set mid to b → length new ≡ length old
moved_long old mid new from to a b e f = ap length f ∙ (length-set mid to b ∙ (ap length e ∙ length-set old from a))

pub moved_left : (old mid new : List Cell) (from to : ℕ) (a b : Cell) → to ≤ from → mid ≡ set old from a → new ≡ set mid to b → (j : ℕ) → from < j → slice_get new j ≡ slice_get old j
moved_left old mid new from to a b l e f j h =
    let d : j ≢ from = λ s. absurd (omega (arith, s, h)) in
    let g : j ≢ to = λ s. absurd (omega (arith, s, h, l)) in
    ap (λ xs. slice_get xs j) f ∙ (get_set_other mid to j b g ∙ (ap (λ xs. slice_get xs j) e ∙ get_set_other old from j a d))

pub moved_in : (old mid new : List Cell) (marks : List ℕ) (from to : ℕ) (a b c d : Cell) → to ≤ from → from < length old → mid ≡ set old from a → new ≡ set mid to b
    → slice_get old from ≡ Some d → b ≡ renumbered marks d → slice_get old from ≡ Some c → take (to + 1) new ≡ take to old ++ renumbered marks c ∷ []
moved_in old mid new marks from to a b c d l h e f g r i =
    let s : Some d ≡ Some c = sym g ∙ i in
    let same : d ≡ c = cc in
    let fits : to < length mid = omega (arith, l, h, ap length e, length-set old from a) in
    ap (take (to + 1)) f
    ∙ (take_more_set mid to b fits
    ∙ (ap (λ xs. xs ++ b ∷ []) (ap (take to) e ∙ take-set-le to old from a l)
    ∙ ap (λ x. take to old ++ x ∷ []) (r ∙ ap (renumbered marks) same)))

-- ---- items in place

placed_suc : {X : Type 0} (f : X → X) (xs : List X) (i : ℕ) (d y : X) → i < length xs → y ≡ f (get_or xs i d)
    → set (map f (take i xs) ++ drop i xs) i y ≡ map f (take (suc i) xs) ++ drop (suc i) xs
placed_suc f [] i d y l e = absurd (omega (arith, l))
placed_suc f (x ∷ xs) zero d y l e = ap (λ z. z ∷ xs) e
placed_suc f (x ∷ xs) (suc i) d y l e = let m : i < length xs = omega (arith, l) in ap (λ ys. f x ∷ ys) (placed_suc f xs i d y m e)

pub placed : {X : Type 0} (f : X → X) (xs : List X) (i : ℕ) (d y : X) → i < length xs → y ≡ f (get_or xs i d)
    → set (map f (take i xs) ++ drop i xs) i y ≡ map f (take (i + 1) xs) ++ drop (i + 1) xs
placed f xs i d y l e = placed_suc f xs i d y l e ∙ ap (λ k. map f (take k xs) ++ drop k xs) (sym (add-one i))

pub unplaced : {X : Type 0} (f : X → X) (xs : List X) (i : ℕ) (d : X) → i < length xs → get_or (map f (take i xs) ++ drop i xs) i d ≡ get_or xs i d
unplaced f [] i d l = absurd (omega (arith, l))
unplaced f (x ∷ xs) zero d l = refl
unplaced f (x ∷ xs) (suc i) d l = let m : i < length xs = omega (arith, l) in unplaced f xs i d m
