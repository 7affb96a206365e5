-- Names that are all different, and one more.
use Rattle.std.specs.Prelude.{◌≡◌, ℕ, zero, suc, ◌+◌, List, [], ◌∷◌, ◌++◌, map, Bool, true, false, Some, None, nat_eq, position, slice_get, take, refl, cond, option_and_then}
use Rattle.std.specs.List.{AllByRecursion, IsDistinct, list_any, position_from, find}
use Rattle.std.proofs.Common.{sym, ap, ◌∙◌, arith}
use Rattle.std.proofs.lemmas.Iterator.Adapters.{position_from-zero}
use Rattle.std.proofs.lemmas.Bool.Decides.{nat_tests}
use Rattle.model_symbols.proofs.Positions.{unfound, none_later}

all_push : {X : Type 0} (P : X → Type 0) (xs : List X) (y : X) → AllByRecursion P xs → P y → AllByRecursion P (xs ++ y ∷ [])
all_push P [] y a p = (p, tt)
all_push P (x ∷ xs) y a p = (a.0, all_push P xs y a.1 p)

eq_swap : (a b : ℕ) → nat_eq a b ≡ nat_eq b a
eq_swap a b = grind (arith, nat_tests)

pub distinct_push : (xs : List ℕ) (y : ℕ) → IsDistinct nat_eq xs → position (nat_eq y) xs ≡ None → IsDistinct nat_eq (xs ++ y ∷ [])
unfolding IsDistinct
distinct_push [] y d h = (tt, tt)
distinct_push (x ∷ xs) y d h =
    let apart : nat_eq y x ≡ false = unfound (nat_eq y) (x ∷ xs) 0 x h refl in
    (all_push (λ z. nat_eq x z ≡ false) xs y d.0 (eq_swap x y ∙ apart), distinct_push xs y d.1 (none_later (nat_eq y) x xs apart h))

-- a name that stands nowhere
pub absent : (xs : List ℕ) (y : ℕ) → position (nat_eq y) xs ≡ None → list_any (nat_eq y) xs ≡ false
absent [] y h = refl
absent (x ∷ xs) y h =
    let apart : nat_eq y x ≡ false = unfound (nat_eq y) (x ∷ xs) 0 x h refl in
    rw apart (absent xs y (none_later (nat_eq y) x xs apart h))

all_before : (P : ℕ → Type 0) (xs ys : List ℕ) (y : ℕ) → AllByRecursion P (xs ++ y ∷ ys) → P y
all_before P [] ys y a = a.0
all_before P (x ∷ xs) ys y a = all_before P xs ys y a.1

none_from : (i : ℕ) (xs ys : List ℕ) (y : ℕ) → IsDistinct nat_eq (xs ++ y ∷ ys) → position_from (nat_eq y) i xs ≡ None
unfolding IsDistinct
none_from i [] ys y d = refl
none_from i (x ∷ xs) ys y d =
    let apart : nat_eq y x ≡ false = eq_swap y x ∙ all_before (λ z. nat_eq x z ≡ false) xs ys y d.0 in
    rw apart (none_from (i + 1) xs ys y d.1)

-- of names that are all different none stands before itself
pub none_before : (xs ys : List ℕ) (y : ℕ) → IsDistinct nat_eq (xs ++ y ∷ ys) → position (nat_eq y) xs ≡ None
none_before xs ys y d = position_from-zero (nat_eq y) xs ∙ none_from 0 xs ys y d

all_take : {X : Type 0} (P : X → Type 0) (n : ℕ) (xs : List X) → AllByRecursion P xs → AllByRecursion P (take n xs)
all_take P zero xs a = tt
all_take P (suc n) [] a = tt
all_take P (suc n) (x ∷ xs) a = (a.0, all_take P n xs a.1)

pub distinct_take : (n : ℕ) (xs : List ℕ) → IsDistinct nat_eq xs → IsDistinct nat_eq (take n xs)
unfolding IsDistinct
distinct_take zero xs d = tt
distinct_take (suc n) [] d = tt
distinct_take (suc n) (x ∷ xs) d = (all_take (λ z. nat_eq x z ≡ false) n xs d.0, distinct_take n xs d.1)

-- ---- what stands at the place of a name

module _ {X : Type 0} (name : X → ℕ) (x : ℕ) where
  found_from : (i : ℕ) (all ds : List X) → ((k : ℕ) → slice_get all (i + k) ≡ slice_get ds k)
      → find (λ d. nat_eq x (name d)) ds ≡ option_and_then (slice_get all) (position_from (nat_eq x) i (map name ds))
  found_from i all [] at = refl
  found_from i all (d ∷ ds) at = go (nat_eq x (name d)) (found_from (i + 1) all ds (λ k. let e : (i + 1) + k ≡ i + (suc k) = omega arith in ap (slice_get all) e ∙ at (suc k)))
    where
      go : (b : Bool) → find (λ d. nat_eq x (name d)) ds ≡ option_and_then (slice_get all) (position_from (nat_eq x) (i + 1) (map name ds))
          → cond b (Some d) (find (λ d. nat_eq x (name d)) ds) ≡ option_and_then (slice_get all) (cond b (Some i) (position_from (nat_eq x) (i + 1) (map name ds)))
      go true h = let e : i ≡ i + 0 = omega arith in sym (ap (slice_get all) e ∙ at 0)
      go false h = h

  -- what has the name is what stands at the place of the name
  pub found_at : (ds : List X) → find (λ d. nat_eq x (name d)) ds ≡ option_and_then (slice_get ds) (position (nat_eq x) (map name ds))
  found_at ds =
      found_from 0 ds ds (λ k. let e : 0 + k ≡ k = omega arith in ap (slice_get ds) e)
      ∙ ap (option_and_then (slice_get ds)) (sym (position_from-zero (nat_eq x) (map name ds)))
