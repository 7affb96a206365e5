-- The outcome of a machine that is over.
use Rattle.std.specs.Prelude.{◌≡◌, ◌≢◌, ℕ, ◌≤◌, List, length, Some}
use Rattle.model_symbols.specs.Symbols.{QualifiedName, Table}
use Rattle.model_eval.specs.Outcomes.{Stobjs, State}
use Rattle.model_slots.specs.Trees.{Tree}
use Rattle.acl_heap.specs.Objects.{Objects}
use Rattle.acl_forms.specs.Forms.{AreWhole}
use Rattle.acl_terms.specs.declared.outcome.Shown.{Shown}
use Rattle.acl_terms.specs.declared.outcome.Stop.{Stop}
use Rattle.acl_terms.specs.declared.outcome.Stop.TheVariants as stop
use Rattle.acl_engine.specs.declared.outcome.Outcome.{Outcome}
use Rattle.acl_engine.specs.Outcomes.{seen_stop, stop_reach, stop_words, seen_outcome, ended_reach, outcome_words}
use Rattle.acl_machine.specs.declared.frame.Halt.{Halt}
use Rattle.acl_machine.specs.declared.machine.Machine.{Machine}
use Rattle.acl_machine.specs.Cells.{AreWholeCells}
use Rattle.acl_machine.specs.Turns.{ended_by}
use Rattle.acl_machine.specs.Views as views

-- why a machine stopped, with the arguments that a guard refused
pub record IsStop (given : List Shown) (why : Halt) (s : Stop) : Type 0 where
  pub seen : (h : Objects) → seen_stop h s ≡ views.seen_stop h given why
  pub told : s ≢ stop.Memory
  pub whole : (t : Table) (h : Objects) → AreWholeCells t h given → AreWhole t h (stop_words s)
  pub lies : (t : Table) (h : Objects) → AreWholeCells t h given → stop_reach s ≤ length h

-- the state that a machine has
abbrev pub state_of : List QualifiedName → Stobjs ℕ → Machine → State ℕ
state_of symbols stobjs m = record { stobjs = stobjs; symbols = symbols; calls = m.calls; outer = m.outer }

-- what a machine that is over has given, or why it stopped; memory was not refused
pub record IsEnd (m : Machine) (o : Outcome) : Type 0 where
  pub told : o.stop ≢ Some stop.Memory
  pub seen : (h : Objects) (ts : List Tree) (symbols : List QualifiedName) (stobjs : Stobjs ℕ)
      → seen_outcome h symbols stobjs o ≡ ended_by (views.seen_control h ts m.given (views.seen_origin m.inside m.cut) m.control) (state_of symbols stobjs m)
  pub whole : (t : Table) (h : Objects) → AreWholeCells t h m.given → AreWhole t h (outcome_words o)
  pub lies : (t : Table) (h : Objects) → AreWholeCells t h m.given → ended_reach o o.stop ≤ length h

-- memory was refused: no call is counted
pub record IsRefused (used : ℕ) (o : Outcome) : Type 0 where
  pub stop : o.stop ≡ Some stop.Memory
  pub calls : o.calls ≡ used
  pub outer : o.outer ≡ 0
