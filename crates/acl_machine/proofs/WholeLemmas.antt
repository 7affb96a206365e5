-- Actuals as a callee or a caller has them: their words lie in the heap, and their symbols are known.
use Rattle.std.proofs.Common.{◌≡◌, ℕ, zero, suc, List, [], ◌∷◌, map, length, refl, subst}
use Rattle.model_symbols.specs.Symbols.{Table}
use Rattle.acl_base.specs.declared.SymId.{SymId}
use Rattle.acl_heap.specs.Objects.{Objects}
use Rattle.acl_terms.specs.declared.outcome.Shown.{Shown}
use Rattle.acl_terms.specs.declared.outcome.Shown.TheVariants as shown
use Rattle.acl_machine.specs.declared.machine.Machine.{Machine}
use Rattle.acl_machine.specs.Cells.{cell, cells_from, WritesAll, ShownWhole, AreWholeCells}
use Rattle.acl_machine.specs.Actuals.{with_names, under_formal, under_formals, outer_shown, actuals_in}
use Rattle.acl_machine.proofs.SoundLemmas.{copied_whole}
use Rattle.acl_machine.proofs.StaysLemmas.{written_whole}

module _ (t : Table) (h : Objects) where
  pub named_whole : (vs : List Shown) (ns : List SymId) → AreWholeCells t h vs → AreWholeCells t h (with_names vs ns)
  named_whole vs ns a = record { whole = go vs ns a.whole }
    where
      go : (vs : List Shown) (ns : List SymId) → ((i : ℕ) → ShownWhole t h (cell vs i)) → (i : ℕ) → ShownWhole t h (cell (with_names vs ns) i)
      go [] ns a i = a i
      go (shown.Value w ∷ vs) ns a zero = a 0
      go (shown.Value w ∷ vs) ns a (suc i) = go vs ns (λ k. a (suc k)) i
      go (shown.Object x ∷ vs) [] a zero = tt
      go (shown.Object x ∷ vs) [] a (suc i) = go vs [] (λ k. a (suc k)) i
      go (shown.Object x ∷ vs) (y ∷ ys) a zero = tt
      go (shown.Object x ∷ vs) (y ∷ ys) a (suc i) = go vs ys (λ k. a (suc k)) i

  pub actuals_whole : (m : Machine) (base count n : ℕ) → AreWholeCells t h m.values → AreWholeCells t h (actuals_in m base count n)
  actuals_whole m base count n a = named_whole (cells_from m.values base count) _ (copied_whole t h m.values base count a)

  pub outer_whole : (fs : List SymId) (xs vs : List Shown) → AreWholeCells t h vs → AreWholeCells t h (map (outer_shown fs xs) vs)
  outer_whole fs xs vs a = record { whole = go vs a.whole }
    where
      go : (vs : List Shown) → ((i : ℕ) → ShownWhole t h (cell vs i)) → (i : ℕ) → ShownWhole t h (cell (map (outer_shown fs xs) vs) i)
      go [] a i = a i
      go (shown.Value w ∷ vs) a zero = a 0
      go (shown.Object x ∷ vs) a zero = tt
      go (v ∷ vs) a (suc i) = go vs (λ k. a (suc k)) i

  -- values that are written
  under_one : (f : SymId) (v : Shown) → ShownWhole t h v → ShownWhole t h (under_formal f v)
  under_one f (shown.Value w) p = p
  under_one f (shown.Object x) p = tt

  under_whole : (fs : List SymId) (vs : List Shown) (old : List Shown) → AreWholeCells t h old → ((i : ℕ) → ShownWhole t h (cell vs i)) → (i : ℕ) → ShownWhole t h (cell (under_formals fs vs) i)
  under_whole [] vs old a b i = nil i
    where
      past : (xs : List Shown) → cell xs (length xs) ≡ cell [] 0
      past [] = refl
      past (x ∷ xs) = past xs

      nil : (i : ℕ) → ShownWhole t h (cell [] i)
      nil i = subst (ShownWhole t h) (past old) (a.whole (length old))
  under_whole (f ∷ fs) [] old a b i = b i
  under_whole (f ∷ fs) (v ∷ vs) old a b zero = under_one f v (b 0)
  under_whole (f ∷ fs) (v ∷ vs) old a b (suc i) = under_whole fs vs old a (λ k. b (suc k)) i

  pub formals_whole : (at : ℕ) (fs : List SymId) (xs old new : List Shown) → AreWholeCells t h xs → AreWholeCells t h old → WritesAll at (under_formals fs xs) old new → AreWholeCells t h new
  formals_whole at fs xs old new a o w = written_whole t h at (under_formals fs xs) old new (record { whole = under_whole fs xs old o a.whole }) o w
