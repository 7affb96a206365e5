-- The words of a machine lie in the heap, and its symbols are known, also after a call is entered or left.
use Rattle.std.proofs.Common.{◌≡◌, ℕ, List, map, sym, subst}
use Rattle.std.specs.Prelude.{Option}
use Rattle.model_symbols.specs.Symbols.{Table}
use Rattle.acl_base.specs.declared.SymId.{SymId}
use Rattle.acl_base.specs.declared.FnId.{FnId}
use Rattle.acl_base.specs.declared.TermId.{TermId}
use Rattle.acl_heap.specs.Objects.{Objects}
use Rattle.acl_terms.specs.declared.outcome.Shown.{Shown}
use Rattle.acl_machine.specs.declared.frame.Inside.{Inside}
use Rattle.acl_machine.specs.declared.machine.Machine.{Machine}
use Rattle.acl_machine.specs.Cells.{cells_from, WritesAll}
use Rattle.acl_machine.specs.Actuals.{under_formals, outer_shown, actuals_in}
use Rattle.acl_machine.specs.Steps.{IsSound, counted}
use Rattle.acl_machine.proofs.SoundLemmas.{copied_whole}
use Rattle.acl_machine.proofs.WholeLemmas.{actuals_whole, outer_whole, formals_whole}
use Rattle.acl_call_turns.specs.Calls.{entered, running, returned, refused, dropping, closing, leaving, stopping}

module _ (t : Table) (h : Objects) where
  pub entered_sound : (m : Machine) (inside : Option Inside) (g : FnId) (base count : ℕ) (guard : TermId) (fs : List SymId) (values : List Shown) → IsSound t h m → WritesAll base (under_formals fs (cells_from m.values base count)) m.values values
      → (n : Machine) → n ≡ entered inside g base guard values (counted (record m { actuals = cells_from m.values base count })) → IsSound t h n
  entered_sound m inside g base count guard fs values i w n q = subst (IsSound t h) (sym q) (record {
    values = formals_whole t h base fs (cells_from m.values base count) m.values values (copied_whole t h m.values base count i.values) i.values w;
    given = i.given;
    loans = i.loans;
  })

  pub refused_sound : (m : Machine) (inside : Option Inside) (base count k : ℕ) (name : SymId) → IsSound t h m
      → (n : Machine) → n ≡ refused inside k base name (actuals_in m base count k) (record m { actuals = m.given }) → IsSound t h n
  refused_sound m inside base count k name i n q = subst (IsSound t h) (sym q) (record { values = i.values; given = actuals_whole t h m base count k i.values; loans = i.loans })

  pub running_sound : (m : Machine) (inside : Option Inside) (g : FnId) (base k : ℕ) (body : TermId) (xs : List Shown) → IsSound t h m → (n : Machine) → n ≡ running inside g k base body (record m { actuals = xs }) → IsSound t h n
  running_sound m inside g base k body xs i n q = subst (IsSound t h) (sym q) (record { values = i.values; given = i.given; loans = i.loans })

  pub returned_sound : (m : Machine) (inside : Option Inside) (base k : ℕ) (fs : List SymId) (xs : List Shown) → IsSound t h m
      → (n : Machine) → n ≡ returned inside k base (map (outer_shown fs xs) m.given) (record m { actuals = xs }) → IsSound t h n
  returned_sound m inside base k fs xs i n q = subst (IsSound t h) (sym q) (record { values = i.values; given = outer_whole t h fs xs m.given i.given; loans = i.loans })

  pub left_sound : (m : Machine) (x : Inside) → IsSound t h m → (n : Machine) → n ≡ leaving x (closing m) → IsSound t h n
  left_sound m x i n q = subst (IsSound t h) (sym q) (record { values = i.values; given = i.given; loans = i.loans })

  pub closed_sound : (m : Machine) (k : ℕ) (xs : List Shown) → IsSound t h m → (n : Machine) → n ≡ dropping k (record (closing m) { actuals = xs }) → IsSound t h n
  closed_sound m k xs i n q = subst (IsSound t h) (sym q) (record { values = i.values; given = i.given; loans = i.loans })

  pub exec_sound : (m : Machine) (x : Inside) (k : ℕ) (xs bs : List Shown) → IsSound t h m → (n : Machine) → n ≡ stopping x (record (dropping k (closing m)) { actuals = xs; outer_actuals = bs }) → IsSound t h n
  exec_sound m x k xs bs i n q = subst (IsSound t h) (sym q) (record { values = i.values; given = i.given; loans = i.loans })

  pub export_sound : (m : Machine) (x : Inside) (bs : List Shown) → IsSound t h m → (n : Machine) → n ≡ stopping x (record (closing m) { outer_actuals = bs }) → IsSound t h n
  export_sound m x bs i n q = subst (IsSound t h) (sym q) (record { values = i.values; given = i.given; loans = i.loans })
