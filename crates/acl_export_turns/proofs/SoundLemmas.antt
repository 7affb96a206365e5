-- What holds of a machine between its turns stays.
use Rattle.std.proofs.Common.{◌≡◌, ℕ, zero, suc, ◌+◌, ◌<◌, ◌≤◌, List, [], ◌∷◌, length, refl, sym, subst, arith}
use Rattle.std.specs.Prelude.{Option, Some, None}
use Rattle.model_symbols.specs.Symbols.{Table}
use Rattle.acl_base.specs.declared.SymId.{SymId}
use Rattle.acl_base.specs.declared.FnId.{FnId}
use Rattle.acl_base.specs.declared.TermId.{TermId}
use Rattle.acl_base.specs.declared.Word.{Word}
use Rattle.acl_base.specs.declared.Word.TheVariants as word
use Rattle.acl_heap.specs.Objects.{Objects}
use Rattle.acl_forms.specs.Forms.{IsWhole, AreWhole, Grown}
use Rattle.acl_terms.specs.declared.outcome.Shown.{Shown}
use Rattle.acl_terms.specs.declared.outcome.Shown.TheVariants as shown
use Rattle.acl_machine.specs.declared.frame.Inside.{Inside}
use Rattle.acl_machine.specs.declared.frame.Halt.{Halt}
use Rattle.acl_machine.specs.declared.frame.Step.TheVariants as step
use Rattle.acl_machine.specs.declared.frame.Halt.TheVariants as halt
use Rattle.acl_machine.specs.declared.frame.Borrowed.{Borrowed}
use Rattle.acl_machine.specs.declared.machine.Machine.{Machine}
use Rattle.acl_machine.specs.Cells.{cell, cells_from, ShownWhole, AreWholeCells, WritesAll}
use Rattle.acl_machine.specs.Actuals.{under_formals, actuals_in}
use Rattle.acl_machine.specs.Steps.{stopped, giving, replaced, counted, holding, LoanWhole, LoansWhole, IsSound}
use Rattle.acl_machine.proofs.SoundLemmas.{nil_whole, one_whole, copied_whole}
use Rattle.acl_machine.proofs.WholeLemmas.{actuals_whole, formals_whole}
use Rattle.acl_export_turns.specs.Steps.{shut, denied, allowed, guarded, too_many, stopped_inside, entered, ended_inside}

module _ (t : Table) (h : Objects) where
  -- T is known where NIL is
  truth_whole : (vs : List Shown) → AreWholeCells t h vs → ShownWhole t h (shown.Value (word.Sym (record { 0 = 0 })))
  truth_whole vs a = let nil : 1 < length t.symbols = (nil_whole t h vs a 0).known in record { lies = omega arith; known = omega (arith, nil) }

  pub truth_sound : (m n : Machine) (base : ℕ) → IsSound t h m → n ≡ giving (shown.Value (word.Sym (record { 0 = 0 })) ∷ []) (counted (replaced (step.Last None) base m)) → IsSound t h n
  truth_sound m n base i q = subst (IsSound t h) (sym q) (record { values = i.values; given = one_whole t h m.values (shown.Value (word.Sym (record { 0 = 0 }))) i.values (truth_whole m.values i.values); loans = i.loans })

  pub creator_sound : (m n : Machine) (base at count : ℕ) (why : Halt) → IsSound t h m → n ≡ stopped why (counted (holding (cells_from m.values at count) (replaced (step.Last None) base m))) → IsSound t h n
  creator_sound m n base at count why i q = subst (IsSound t h) (sym q) (record { values = i.values; given = copied_whole t h m.values at count i.values; loans = i.loans })

  module _ (m n : Machine) (acts : List Shown) where
    pub shut_sound : (names number : ℕ) → IsSound t h m → n ≡ shut names number (record m { actuals = acts }) → IsSound t h n
    shut_sound names number i q = subst (IsSound t h) (sym q) (record { values = i.values; given = i.given; loans = i.loans })

    pub denied_sound : (name : SymId) (names number base : ℕ) → IsSound t h m → AreWholeCells t h acts → n ≡ denied name names number base (record m { actuals = acts }) → IsSound t h n
    denied_sound name names number base i a q = subst (IsSound t h) (sym q) (record { values = i.values; given = a; loans = i.loans })

    pub allowed_sound : (function : FnId) (names number : ℕ) → IsSound t h m → n ≡ allowed function names number (record m { actuals = acts }) → IsSound t h n
    allowed_sound function names number i q = subst (IsSound t h) (sym q) (record { values = i.values; given = record { whole = nil_whole t h m.values i.values }; loans = i.loans })

    pub guarded_sound : (function : FnId) (names : ℕ) (guard : TermId) (base : ℕ) (fs : List SymId) (values : List Shown) (all : List SymId) → IsSound t h m → AreWholeCells t h acts → WritesAll base (under_formals fs acts) m.values values
        → n ≡ guarded function names guard base (counted (record m { values = values; names = all; actuals = acts })) → IsSound t h n
    guarded_sound function names guard base fs values all i a w q = subst (IsSound t h) (sym q) (record { values = formals_whole t h base fs acts m.values values a i.values w; given = i.given; loans = i.loans })

    pub entered_sound : (inside : Inside) (function : FnId) (names : ℕ) (guard : TermId) (base : ℕ) (fs : List SymId) (values : List Shown) (all : List SymId) → IsSound t h m → AreWholeCells t h acts → WritesAll base (under_formals fs acts) m.values values
        → n ≡ entered inside function names guard base (counted (record m { values = values; names = all; actuals = acts })) → IsSound t h n
    entered_sound inside function names guard base fs values all i a w q = subst (IsSound t h) (sym q) (record { values = formals_whole t h base fs acts m.values values a i.values w; given = i.given; loans = i.loans })

    pub refused_sound : (inside : Inside) (why : Halt) (base : ℕ) → IsSound t h m → AreWholeCells t h acts → n ≡ stopped_inside inside why base (counted (record m { actuals = acts })) → IsSound t h n
    refused_sound inside why base i a q = subst (IsSound t h) (sym q) (record { values = i.values; given = a; loans = i.loans })

  pub many_sound : (m n : Machine) (names number base : ℕ) → IsSound t h m → n ≡ too_many names number base m → IsSound t h n
  many_sound m n names number base i q = subst (IsSound t h) (sym q) (record { values = i.values; given = i.given; loans = i.loans })
