-- What holds of a machine between its turns stays.
use Rattle.std.proofs.Common.{◌≡◌, ℕ, zero, suc, ◌+◌, List, [], ◌∷◌, length, refl, sym, subst}
use Rattle.std.specs.Prelude.{Option, Some, None}
use Rattle.model_symbols.specs.Symbols.{Table}
use Rattle.acl_base.specs.declared.Word.{Word}
use Rattle.acl_heap.specs.Objects.{Objects}
use Rattle.acl_forms.specs.Forms.{IsWhole, Grown}
use Rattle.acl_terms.specs.declared.outcome.Shown.{Shown}
use Rattle.acl_terms.specs.declared.outcome.Shown.TheVariants as shown
use Rattle.acl_machine.specs.declared.frame.Step.{Step}
use Rattle.acl_machine.specs.declared.frame.Halt.{Halt}
use Rattle.acl_machine.specs.declared.frame.Borrowed.{Borrowed}
use Rattle.acl_machine.specs.declared.machine.Machine.{Machine}
use Rattle.acl_machine.specs.Cells.{cell, cells_from, ShownWhole, AreWholeCells}
use Rattle.acl_machine.specs.Steps.{stopped, giving, replaced, counted, holding, LoanWhole, LoansWhole, IsSound}

pub nil_whole : (t : Table) (h : Objects) (vs : List Shown) → AreWholeCells t h vs → (i : ℕ) → ShownWhole t h (cell [] i)
nil_whole t h vs a i = subst (ShownWhole t h) (past vs) (a.whole (length vs))
  where
    past : (vs : List Shown) → cell vs (length vs) ≡ cell [] i
    past [] = refl
    past (v ∷ vs) = past vs

pub one_whole : (t : Table) (h : Objects) (vs : List Shown) (v : Shown) → AreWholeCells t h vs → ShownWhole t h v → AreWholeCells t h (v ∷ [])
one_whole t h vs v a p = record { whole = go }
  where
    go : (i : ℕ) → ShownWhole t h (cell (v ∷ []) i)
    go zero = p
    go (suc i) = nil_whole t h vs a i

pub copied_whole : (t : Table) (h : Objects) (vs : List Shown) (at n : ℕ) → AreWholeCells t h vs → AreWholeCells t h (cells_from vs at n)
copied_whole t h vs at n a = record { whole = go at n }
  where
    go : (at n i : ℕ) → ShownWhole t h (cell (cells_from vs at n) i)
    go at zero i = nil_whole t h vs a i
    go at (suc n) zero = a.whole at
    go at (suc n) (suc i) = go (at + 1) n i

pub cells_grown : (t t' : Table) (h h' : Objects) (vs : List Shown) → Grown t t' h h' → AreWholeCells t h vs → AreWholeCells t' h' vs
cells_grown t t' h h' vs g a = record { whole = λ i. by_value (cell vs i) (a.whole i) }
  where
    by_value : (v : Shown) → ShownWhole t h v → ShownWhole t' h' v
    by_value (shown.Value w) p = g.whole w p
    by_value (shown.Object x) p = tt

pub loans_grown : (t t' : Table) (h h' : Objects) (bs : List Borrowed) → Grown t t' h h' → LoansWhole t h bs → LoansWhole t' h' bs
loans_grown t t' h h' [] g l = tt
loans_grown t t' h h' (b ∷ bs) g l = (by_index b.loan.index l.0, loans_grown t t' h h' bs g l.1)
  where
    by_index : (i : Option Word) → LoanWhole t h i → LoanWhole t' h' i
    by_index None p = tt
    by_index (Some w) p = g.whole w p

pub sound_gives : (t t' : Table) (h h' : Objects) (m n : Machine) (s : Step) (base : ℕ) (w : Word) → Grown t t' h h' → IsSound t h m → IsWhole t' h' w → n ≡ giving (shown.Value w ∷ []) (counted (replaced s base m)) → IsSound t' h' n
sound_gives t t' h h' m n s base w g i p q = subst (IsSound t' h') (sym q) (record {
  values = cells_grown t t' h h' m.values g i.values;
  given = one_whole t' h' m.values (shown.Value w) (cells_grown t t' h h' m.values g i.values) p;
  loans = loans_grown t t' h h' m.loans g i.loans;
})

pub sound_stops : (t t' : Table) (h h' : Objects) (m n : Machine) (s : Step) (base at count : ℕ) (why : Halt) → Grown t t' h h' → IsSound t h m → n ≡ stopped why (counted (holding (cells_from m.values at count) (replaced s base m))) → IsSound t' h' n
sound_stops t t' h h' m n s base at count why g i q = subst (IsSound t' h') (sym q) (record {
  values = cells_grown t t' h h' m.values g i.values;
  given = copied_whole t' h' m.values at count (cells_grown t t' h h' m.values g i.values);
  loans = loans_grown t t' h h' m.loans g i.loans;
})
