-- Turns one after the other, over what is kept.
use Rattle.std.specs.Prelude.{◌≡◌, ℕ, zero, suc, List, length}
use Rattle.model_terms.specs.Worlds.{World}
use Rattle.model_eval.specs.Keeping as keepings
use Rattle.model_eval.specs.Keeping.{Keeping}
use Rattle.model_window.specs.Frames as windows
use Rattle.model_window.specs.Laws.{EndsIn}
use Rattle.acl_forms.specs.Forms.{Grown}
use Rattle.acl_keep.specs.Calls.{Called}
use Rattle.acl_machine.specs.declared.machine.Machine.{Machine}
use Rattle.acl_machine.specs.Views.{Around, code_of, machine_of}
use Rattle.acl_machine.specs.Turns.{rules_of, turned, ended_by}
use Rattle.acl_machine.specs.Keeping.{all_lefts, Goes}
use Rattle.acl_turns.specs.Asking.{Asks}
use Rattle.acl_turns.specs.Leaving.{Leaves}

-- a machine, what is around it, and what is kept with it
pub record Moment (O B : Type 0) : Type 0 where
  pub there : Around
  pub machine : Machine
  pub kept : O
  pub lefts : List B

abbrev pub moment : {O B : Type 0} → Around → Machine → O → List B → Moment O B
moment a m kept lefts = record { there = a; machine = m; kept = kept; lefts = lefts }

module _ {O B : Type 0} (keeping : Keeping ℕ O B) (d : B) where
  -- the machine over trees goes in one turn from what stands here to what stands there; the heap and the symbols grow, nothing else changes
  pub record Turning (old new : Moment O B) : Type 0 where
    pub grows : Grown old.there.table new.there.table old.there.heap new.there.heap
    pub stays : new.there ≡ record old.there { heap = new.there.heap; table = record { packages = old.there.table.packages; symbols = new.there.table.symbols } }
    pub behind : length new.lefts ≡ all_lefts new.machine.frames
    pub is : turned keeping old.there d old.kept old.lefts old.machine ≡ windows.Going (machine_of new.there d new.kept new.lefts new.machine)

  -- in so many turns
  abbrev pub Runs : ℕ → Moment O B → Moment O B → Type 0
  Runs zero start now = start ≡ now
  Runs (suc n) start now = (mid : Moment O B) × Runs n start mid × Turning mid now

  -- turns lead from these things that are kept to others, which are kept with the machine after them
  pub record RunTo (After : O → List B → Type 0) (a after : Around) (old new : Machine) (kept : O) (lefts : List B) : Type 0 where
    pub later : O
    pub left : List B
    pub goes : Goes After new later left
    pub count : ℕ
    pub runs : Runs count (moment a old kept lefts) (moment after new later left)

  -- turns of the machine over trees, so many and by the rules that hold at first, lead from these things that are kept to its end: its
  -- outcome is what the machine then holds, on what is kept with it
  pub record EndTo (After : O → List B → Type 0) (a after : Around) (old new : Machine) (kept : O) (lefts : List B) : Type 0 where
    pub later : O
    pub left : List B
    pub goes : Goes After new later left
    pub count : ℕ
    pub ends : EndsIn (rules_of keeping a) (code_of a) count (windows.Going (machine_of a d kept lefts old)) (ended_by (machine_of after d later left new).control (machine_of after d later left new).state)

  -- turns lead from these things that are kept to a turn that was refused memory
  pub record FailsAfter (After : O → List B → Type 0) (a : Around) (old : Machine) (kept : O) (lefts : List B) : Type 0 where
    pub last : Moment O B
    pub count : ℕ
    pub runs : Runs count (moment a old kept lefts) last
    pub leaves : Leaves keeping After last.there last.machine last.kept last.lefts

module _ {O B : Type 0} (keeping : Keeping ℕ O B) where
  -- the same, whatever was kept before
  pub record RunsTo (Before After : O → List B → Type 0) (a after : Around) (old new : Machine) : Type 0 where
    pub to : (d : B) (kept : O) (lefts : List B) → Goes Before old kept lefts → RunTo keeping d After a after old new kept lefts

  pub record EndsTo (Before After : O → List B → Type 0) (a after : Around) (old new : Machine) : Type 0 where
    pub to : (d : B) (kept : O) (lefts : List B) → Goes Before old kept lefts → EndTo keeping d After a after old new kept lefts

  pub record Fails (Before After : O → List B → Type 0) (a : Around) (old : Machine) : Type 0 where
    pub after : (d : B) (kept : O) (lefts : List B) → Goes Before old kept lefts → FailsAfter keeping d After a old kept lefts

module _ {O B : Type 0} (keeping : Keeping ℕ O B) (MayCall : Called → O → List B → Type 0) (MayReach : ℕ → ℕ → O → List B → Type 0) (MayLend : List (keepings.Loan ℕ) → O → List B → Type 0) (MayMake : World → ℕ → O → List B → Type 0) (MayUnmake MayAbandon : O → List B → Type 0) where
  -- turns may be taken to the end: wherever they lead from something that is kept with the machine, what the next one asks is met
  pub record MayRun (Keeps : O → List B → Type 0) (a : Around) (m : Machine) : Type 0 where
    pub default : B
    pub kept : O
    pub lefts : List B
    pub goes : Goes Keeps m kept lefts
    pub may : (n : ℕ) (now : Moment O B) → Runs keeping default n (moment a m kept lefts) now
        → Asks keeping MayCall MayReach MayLend MayMake MayUnmake MayAbandon now.there now.machine now.kept now.lefts

-- something is kept with a machine
pub record IsKept {O B : Type 0} (Keeps : O → List B → Type 0) (m : Machine) : Type 0 where
  pub default : B
  pub kept : O
  pub lefts : List B
  pub goes : Goes Keeps m kept lefts
