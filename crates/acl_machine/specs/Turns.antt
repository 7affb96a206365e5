-- What a turn makes of a machine.
use Rattle.std.specs.Prelude.{◌≡◌, ℕ, List, [], ◌∷◌}
use Rattle.model_eval.specs.Keeping.{Keeping}
use Rattle.model_eval.specs.Outcomes.{StateOf, OutcomeOf, Gives, Stops, Unknown}
use Rattle.model_eval.specs.Evaluated.{RulesOf}
use Rattle.model_eval.specs.Checked.{checked_keeping}
use Rattle.model_window.specs.Frames as windows
use Rattle.model_window.specs.Turns.{turn}
use Rattle.acl_machine.specs.declared.frame.Step.{Step}
use Rattle.acl_machine.specs.declared.frame.Frame.{Frame}
use Rattle.acl_machine.specs.declared.frame.Control.{Control}
use Rattle.acl_machine.specs.declared.frame.Control.TheVariants as control
use Rattle.acl_machine.specs.declared.machine.Machine.{Machine}
use Rattle.acl_machine.specs.Views.{Around, world_of, code_of, machine_of}

module _ {O B : Type 0} (keeping : Keeping ℕ O B) where
  abbrev pub rules_of : Around → RulesOf keeping
  rules_of a = checked_keeping keeping (world_of a) a.table.packages a.limit

  -- the turn of the machine that is seen, over what is kept and what calls left behind
  abbrev pub turned : Around → B → O → List B → Machine → windows.Turned ℕ O B
  turned a d kept ls m = turn (rules_of a) (code_of a) (machine_of a d kept ls m)

  -- a turn that leaves what is kept as it is
  pub record Turns (a after : Around) (old new : Machine) : Type 0 where
    pub goes : (d : B) (kept : O) (ls : List B) → turned a d kept ls old ≡ windows.Going (machine_of after d kept ls new)

-- the innermost frame
pub record IsFirst (f : Frame) (frames : List Frame) : Type 0 where
  pub rest : List Frame
  pub is : frames ≡ f ∷ rest

-- the innermost frame with another step
abbrev pub with_step : Step → List Frame → List Frame
with_step step [] = []
with_step step (f ∷ fs) = record f { step = step } ∷ fs

-- another innermost frame
abbrev pub with_frame : Frame → List Frame → List Frame
with_frame frame [] = []
with_frame frame (f ∷ fs) = frame ∷ fs

-- what a machine without frames has given, or why it stopped
abbrev pub ended_by : {O : Type 0} → windows.Control ℕ → StateOf O → OutcomeOf ℕ O
ended_by (windows.Begin tree base) state = Unknown
ended_by (windows.Give values) state = Gives values state
ended_by (windows.Stopped stop origin) state = Stops stop origin state

module _ {O B : Type 0} (keeping : Keeping ℕ O B) where
  -- the machine is over, with this outcome
  pub record IsOver (a : Around) (m : Machine) : Type 0 where
    pub over : (d : B) (kept : O) (ls : List B) → turned keeping a d kept ls m ≡ windows.Over (ended_by (machine_of a d kept ls m).control (machine_of a d kept ls m).state)

-- no term begins
abbrev pub IsLate : Control → Type 0
IsLate (control.Begin term base) = ⊥
IsLate control.Give = Unit {0}
IsLate (control.Stopped why) = Unit {0}
