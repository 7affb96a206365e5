-- Written cells are written memory.
use Rattle.std.proofs.Common.{◌≡◌, ℕ, zero, suc, ◌+◌, ◌-◌, ◌<◌, ◌≤◌, List, [], ◌∷◌, length, drop, refl, sym, ap, ◌∙◌, arith}
use Rattle.std.proofs.Math.Path.{fun_ext}
use Rattle.std.specs.Prelude.{nat_eq, if◌then◌else◌, true, false, Bool}
use Rattle.acl_heap.specs.Objects.{Objects}
use Rattle.acl_terms.specs.declared.outcome.Shown.{Shown}
use Rattle.model_prims.specs.Kinds.{by_number}
use Rattle.model_eval.specs.Variables.{single}
use Rattle.model_window.specs.Windows.{written, all_written}
use Rattle.acl_keep.specs.Seen.{seen_shown, all_seen}
use Rattle.acl_machine.specs.Cells.{cell, memory_of, Writes, all_cells, WritesAll}

pub single_cell : (h : Objects) (vs : List Shown) → single by_number (all_seen h vs) ≡ seen_shown h (cell vs 0)
single_cell h [] = refl
single_cell h (v ∷ vs) = refl

seen_if : (h : Objects) (b : Bool) (v u : Shown) → seen_shown h (if b then v else u) ≡ (if b then seen_shown h v else seen_shown h u)
seen_if h true v u = refl
seen_if h false v u = refl

pub memory_written : (h : Objects) (at : ℕ) (v : Shown) (old new : List Shown) → Writes at v old new → memory_of h new ≡ written at (seen_shown h v) (memory_of h old)
memory_written h at v old new w = fun_ext (λ i. ap (seen_shown h) (w.cells i) ∙ seen_if h (nat_eq i at) v (cell old i))

seen_all : (h : Objects) (at : ℕ) (vs : List Shown) (old : List Shown) (i : ℕ) → seen_shown h (all_cells at vs (cell old) i) ≡ all_written at (all_seen h vs) (memory_of h old) i
seen_all h at [] old i = refl
seen_all h at (v ∷ vs) old i =
    seen_if h (nat_eq i at) v (all_cells (at + 1) vs (cell old) i)
    ∙ ap (λ u. if nat_eq i at then seen_shown h v else u) (seen_all h (at + 1) vs old i)

pub memory_all_written : (h : Objects) (at : ℕ) (vs : List Shown) (old new : List Shown) → WritesAll at vs old new → memory_of h new ≡ all_written at (all_seen h vs) (memory_of h old)
memory_all_written h at vs old new w = fun_ext (λ i. ap (seen_shown h) (w.cells i) ∙ seen_all h at vs old i)

-- ---- the loop that writes, the last value first

drop_all : (vs : List Shown) (n : ℕ) → length vs ≤ n → drop n vs ≡ []
drop_all [] zero h = refl
drop_all [] (suc n) h = refl
drop_all (v ∷ vs) zero h = absurd (omega arith)
drop_all (v ∷ vs) (suc n) h = drop_all vs n (omega arith)

drop_cell : (vs : List Shown) (k : ℕ) → k < length vs → drop k vs ≡ cell vs k ∷ drop (k + 1) vs
drop_cell [] k h = absurd (omega arith)
drop_cell (v ∷ vs) zero h = refl
drop_cell (v ∷ vs) (suc k) h =
    let e : suc (k + 1) ≡ suc k + 1 = omega arith in
    drop_cell vs k (omega arith) ∙ ap (λ n. cell vs k ∷ drop n (v ∷ vs)) e

-- written from this place on
pub record WritesFrom (at k : ℕ) (vs old new : List Shown) : Type 0 where
  pub cells : (i : ℕ) → cell new i ≡ all_cells (at + k) (drop k vs) (cell old) i

pub writes_none : (at k : ℕ) (vs old : List Shown) → k ≡ length vs → WritesFrom at k vs old old
writes_none at k vs old e = record { cells = λ i. ap (λ ds. all_cells (at + k) ds (cell old) i) (sym (drop_all vs k (omega (arith, e)))) }

pub writes_one : (at k : ℕ) (vs old new newer : List Shown) → 0 < k → k ≤ length vs → WritesFrom at k vs old new → Writes (at + (k - 1)) (cell vs (k - 1)) new newer → WritesFrom at (k - 1) vs old newer
writes_one at k vs old new newer h g w x = record { cells = λ i. x.cells i ∙ ap (λ u. if nat_eq i (at + (k - 1)) then cell vs (k - 1) else u) (w.cells i) ∙ sym (one i) }
  where
    one : (i : ℕ) → all_cells (at + (k - 1)) (drop (k - 1) vs) (cell old) i ≡ (if nat_eq i (at + (k - 1)) then cell vs (k - 1) else all_cells (at + k) (drop k vs) (cell old) i)
    one i =
        let e : (k - 1) + 1 ≡ k = omega arith in
        let f : (at + (k - 1)) + 1 ≡ at + k = omega arith in
        ap (λ ds. all_cells (at + (k - 1)) ds (cell old) i) (drop_cell vs (k - 1) (omega arith))
        ∙ ap (λ n. if nat_eq i (at + (k - 1)) then cell vs (k - 1) else all_cells n (drop ((k - 1) + 1) vs) (cell old) i) f
        ∙ ap (λ n. if nat_eq i (at + (k - 1)) then cell vs (k - 1) else all_cells (at + k) (drop n vs) (cell old) i) e

pub writes_ended : (at : ℕ) (vs old new : List Shown) → WritesFrom at 0 vs old new → WritesAll at vs old new
writes_ended at vs old new w = let e : at + 0 ≡ at = omega arith in record { cells = λ i. w.cells i ∙ ap (λ n. all_cells n vs (cell old) i) e }
