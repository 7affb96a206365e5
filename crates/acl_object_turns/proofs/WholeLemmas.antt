-- Words go on to lie in the heap.
use Rattle.std.proofs.Common.{◌≡◌, ℕ, zero, suc, ◌+◌, List, [], ◌∷◌, refl, sym, subst}
use Rattle.std.specs.Prelude.{Bool, nat_eq, true, false, if◌then◌else◌}
use Rattle.model_symbols.specs.Symbols.{Table}
use Rattle.acl_base.specs.declared.SymId.{SymId}
use Rattle.acl_base.specs.declared.TermId.{TermId}
use Rattle.acl_heap.specs.Objects.{Objects}
use Rattle.acl_terms.specs.declared.outcome.Shown.{Shown}
use Rattle.acl_terms.specs.declared.outcome.Shown.TheVariants as shown
use Rattle.acl_machine.specs.declared.frame.Halt.{Halt}
use Rattle.acl_machine.specs.declared.frame.Step.{Step}
use Rattle.acl_machine.specs.declared.machine.Machine.{Machine}
use Rattle.acl_machine.specs.Cells.{cell, Writes, written_cell, all_cells, WritesAll, ShownWhole, AreWholeCells}
use Rattle.acl_machine.specs.Steps.{stopped, giving, pushed, beginning, again, IsSound}
use Rattle.acl_machine.proofs.SoundLemmas.{nil_whole}
use Rattle.acl_object_turns.specs.Steps.{OpensLocal, WritesGiven, closed_first}

module _ (t : Table) (h : Objects) where
  by_test : (b : Bool) (v u : Shown) → ShownWhole t h v → ShownWhole t h u → ShownWhole t h (if b then v else u)
  by_test true v u p q = p
  by_test false v u p q = q

  pub written_whole : (at : ℕ) (v : Shown) (old new : List Shown) → AreWholeCells t h old → ShownWhole t h v → Writes at v old new → AreWholeCells t h new
  written_whole at v old new a p w = record { whole = λ i. subst (ShownWhole t h) (sym (w.cells i)) (by_test (nat_eq i at) v (cell old i) p (a.whole i)) }

  all_cells_whole : (at : ℕ) (vs : List Shown) (cells : ℕ → Shown) → ((i : ℕ) → ShownWhole t h (cell vs i)) → ((i : ℕ) → ShownWhole t h (cells i)) → (i : ℕ) → ShownWhole t h (all_cells at vs cells i)
  all_cells_whole at [] cells p q i = q i
  all_cells_whole at (v ∷ vs) cells p q i =
      by_test (nat_eq i at) v (all_cells (at + 1) vs cells i) (p 0) (all_cells_whole (at + 1) vs cells (λ k. p (suc k)) q i)

  pub all_written_whole : (at : ℕ) (vs old new : List Shown) → AreWholeCells t h old → AreWholeCells t h vs → WritesAll at vs old new → AreWholeCells t h new
  all_written_whole at vs old new a p w = record { whole = λ i. subst (ShownWhole t h) (sym (w.cells i)) (all_cells_whole at vs (cell old) p.whole a.whole i) }

  pub none_whole : (vs : List Shown) → AreWholeCells t h vs → AreWholeCells t h []
  none_whole vs a = record { whole = nil_whole t h vs a }

  -- ---- machines

  pub sound_stops : (m n : Machine) (why : Halt) → IsSound t h m → n ≡ stopped why m → IsSound t h n
  sound_stops m n why i q = subst (IsSound t h) (sym q) (record { values = i.values; given = i.given; loans = i.loans })

  pub sound_unmade : (m n : Machine) (why : Halt) (s : Step) (base : ℕ) → IsSound t h m → n ≡ stopped why (giving [] (pushed s base m)) → IsSound t h n
  sound_unmade m n why s base i q = subst (IsSound t h) (sym q) (record { values = i.values; given = none_whole m.values i.values; loans = i.loans })

  pub sound_opens : (m n : Machine) (base at : ℕ) (stobj : SymId) (producer body : TermId) → IsSound t h m → OpensLocal base at stobj producer body m n → IsSound t h n
  sound_opens m n base at stobj producer body i o = subst (IsSound t h) (sym o.is) (record {
    values = written_whole (base + at) (shown.Object stobj) m.values o.values i.values tt o.writes;
    given = i.given;
    loans = i.loans;
  })

  pub sound_binds : (m k n : Machine) (at : ℕ) (s : Step) (body : TermId) (base : ℕ) → IsSound t h m → WritesGiven at m k → n ≡ beginning body base (again s k) → IsSound t h n
  sound_binds m k n at s body base i w q = subst (IsSound t h) (sym q) (subst (λ x. IsSound t h (beginning body base (again s x))) (sym w.is) (record {
    values = all_written_whole at m.given m.values w.values i.values i.given w.writes;
    given = i.given;
    loans = i.loans;
  }))

  pub sound_closed : (m n : Machine) → IsSound t h m → n ≡ closed_first m → IsSound t h n
  sound_closed m n i q = subst (IsSound t h) (sym q) (record { values = i.values; given = i.given; loans = i.loans })

  pub sound_written : (m n : Machine) (at : ℕ) → IsSound t h m → WritesGiven at m n → IsSound t h n
  sound_written m n at i w = subst (IsSound t h) (sym w.is) (record { values = all_written_whole at m.given m.values w.values i.values i.given w.writes; given = i.given; loans = i.loans })
