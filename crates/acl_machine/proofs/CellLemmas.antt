-- Cells that are read and written.
use Rattle.std.proofs.Common.{◌≡◌, ◌≢◌, ℕ, zero, suc, ◌+◌, ◌-◌, ◌<◌, ◌≤◌, List, [], ◌∷◌, ◌++◌, length, take, replicate, set, refl, sym, ap, ◌∙◌, arith}
use Rattle.std.specs.Prelude.{nat_eq, if◌then◌else◌, true, false, Bool, slice_set, slice_index_or}
use Rattle.std.proofs.lemmas.List.{append-nil, append_assoc, get_or-set_same, get_or-set_other, get_or_past}
use Rattle.std.proofs.lemmas.Bool.Decides.{nat_tests}
use Rattle.acl_terms.specs.declared.outcome.Shown.{Shown}
use Rattle.acl_machine.specs.Cells.{nil_there, cell, cells_from, Writes}

same_number : (i at : ℕ) → nat_eq i at ≡ true → i ≡ at
same_number i at e = grind (arith, nat_tests)

other_number : (i at : ℕ) → nat_eq i at ≡ false → i ≢ at
other_number i at e = grind (arith, nat_tests)

pub cell_there : (xs : List Shown) (at : ℕ) (d : Shown) → at < length xs → slice_index_or xs at d ≡ cell xs at
cell_there [] at d h = absurd (omega arith)
cell_there (x ∷ xs) zero d h = refl
cell_there (x ∷ xs) (suc at) d h = cell_there xs at d (omega arith)

pub cell_behind : (xs : List Shown) (at : ℕ) → length xs ≤ at → nil_there ≡ cell xs at
cell_behind xs at h = sym (get_or_past xs at nil_there h)

-- one cell by two facts
by_cells : (at : ℕ) (v : Shown) (old new : List Shown) → cell new at ≡ v → ((i : ℕ) → i ≢ at → cell new i ≡ cell old i) → Writes at v old new
by_cells at v old new here there = record { cells = λ i. go i (nat_eq i at) refl }
  where
    go : (i : ℕ) (b : Bool) → nat_eq i at ≡ b → cell new i ≡ (if b then v else cell old i)
    go i true e = ap (cell new) (same_number i at e) ∙ here
    go i false e = there i (other_number i at e)

pub writes_there : (xs : List Shown) (at : ℕ) (v : Shown) → at < length xs → Writes at v xs (slice_set xs at v)
writes_there xs at v h = by_cells at v xs (set xs at v) (get_or-set_same xs at v nil_there h) (λ i n. get_or-set_other xs at i v nil_there n)

filled : (xs : List Shown) (n i : ℕ) → cell (xs ++ replicate n nil_there) i ≡ cell xs i
filled [] zero i = refl
filled [] (suc n) zero = refl
filled [] (suc n) (suc i) = filled [] n i
filled (x ∷ xs) n zero = refl
filled (x ∷ xs) n (suc i) = filled xs n i

all_taken : (xs : List Shown) (n : ℕ) → length xs ≤ n → take n xs ≡ xs
all_taken [] zero h = refl
all_taken [] (suc n) h = refl
all_taken (x ∷ xs) zero h = absurd (omega arith)
all_taken (x ∷ xs) (suc n) h = ap (λ l. x ∷ l) (all_taken xs n (omega arith))

last_cell : (xs : List Shown) (v : Shown) (i : ℕ) → i ≡ length xs → cell (xs ++ v ∷ []) i ≡ v
last_cell xs v i e = go xs i e
  where
    go : (xs : List Shown) (i : ℕ) → i ≡ length xs → cell (xs ++ v ∷ []) i ≡ v
    go [] zero e = refl
    go [] (suc i) e = absurd (omega arith)
    go (x ∷ xs) zero e = absurd (omega arith)
    go (x ∷ xs) (suc i) e = go xs i (omega arith)

other_cell : (xs : List Shown) (v : Shown) (i : ℕ) → i ≢ length xs → cell (xs ++ v ∷ []) i ≡ cell xs i
other_cell [] v zero n = absurd (n refl)
other_cell [] v (suc i) n = refl
other_cell (x ∷ xs) v zero n = refl
other_cell (x ∷ xs) v (suc i) n = other_cell xs v i (λ e. n (ap suc e))

pub writes_behind : (xs ys zs : List Shown) (at : ℕ) (v : Shown) → length xs ≤ at → length ys ≡ at → ys ≡ take at xs ++ replicate (at - length xs) nil_there → zs ≡ ys ++ v ∷ [] → Writes at v xs zs
writes_behind xs ys zs at v h l e f = by_cells at v xs zs
    (ap (λ z. cell z at) f ∙ last_cell ys v at (sym l))
    (λ i n. ap (λ z. cell z i) f ∙ other_cell ys v i (λ g. n (g ∙ l)) ∙ ap (λ y. cell y i) (e ∙ ap (λ t. t ++ replicate (at - length xs) nil_there) (all_taken xs at h)) ∙ filled xs (at - length xs) i)

-- ---- copies

pub copy_start : (xs : List Shown) (at count : ℕ) → [] ++ cells_from xs (at + 0) (count - 0) ≡ cells_from xs at count
copy_start xs at count =
    let one : at + 0 ≡ at = omega arith in
    let two : count - 0 ≡ count = omega arith in
    ap (λ n. cells_from xs n (count - 0)) one ∙ ap (λ n. cells_from xs at n) two

pub copy_step : (xs done all : List Shown) (at k count : ℕ) → k < count → done ++ cells_from xs (at + k) (count - k) ≡ all → (done ++ cell xs (at + k) ∷ []) ++ cells_from xs (at + (k + 1)) (count - (k + 1)) ≡ all
copy_step xs done all at k count h e =
    append_assoc done (cell xs (at + k) ∷ []) (cells_from xs (at + (k + 1)) (count - (k + 1)))
    ∙ ap (λ l. done ++ l) (sym (one_more h)) ∙ e
  where
    one_more : k < count → cells_from xs (at + k) (count - k) ≡ cell xs (at + k) ∷ cells_from xs (at + (k + 1)) (count - (k + 1))
    one_more h =
        let n : count - k ≡ suc (count - (k + 1)) = omega arith in
        let m : (at + k) + 1 ≡ at + (k + 1) = omega arith in
        ap (cells_from xs (at + k)) n ∙ ap (λ i. cell xs (at + k) ∷ cells_from xs i (count - (k + 1))) m

pub copy_end : (xs done : List Shown) (at k count : ℕ) → count ≤ k → done ++ cells_from xs (at + k) (count - k) ≡ done
copy_end xs done at k count h = let n : count - k ≡ 0 = omega arith in ap (λ m. done ++ cells_from xs (at + k) m) n ∙ append-nil done

-- ---- the first places with other values, and no more

pub one_kept : (xs : List Shown) (v : Shown) → 0 < length xs → take 1 (set xs 0 v) ≡ v ∷ []
one_kept [] v h = absurd (omega arith)
one_kept (x ∷ []) v h = refl
one_kept (x ∷ y ∷ xs) v h = refl

pub two_kept : (xs : List Shown) (v u : Shown) → 1 < length xs → take 2 (set (set xs 0 v) 1 u) ≡ v ∷ u ∷ []
two_kept [] v u h = absurd (omega arith)
two_kept (x ∷ []) v u h = absurd (omega arith)
two_kept (x ∷ y ∷ []) v u h = refl
two_kept (x ∷ y ∷ z ∷ xs) v u h = refl
