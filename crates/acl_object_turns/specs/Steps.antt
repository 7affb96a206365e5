-- What functions make of a machine.
use Rattle.std.specs.Prelude.{◌≡◌, ℕ, ◌+◌, List, [], ◌∷◌, ◌++◌, take, drop, None}
use Rattle.acl_base.specs.declared.SymId.{SymId}
use Rattle.acl_base.specs.declared.TermId.{TermId}
use Rattle.acl_terms.specs.declared.outcome.Shown.{Shown}
use Rattle.acl_terms.specs.declared.outcome.Shown.TheVariants as shown
use Rattle.acl_keep.specs.declared.effect.Effect.{Effect}
use Rattle.acl_keep.specs.declared.effect.Effect.TheVariants as effect
use Rattle.acl_machine.specs.declared.frame.Step.TheVariants as step
use Rattle.acl_machine.specs.declared.frame.Halt.TheVariants as halt
use Rattle.acl_machine.specs.declared.frame.Control.TheVariants as control
use Rattle.acl_machine.specs.declared.machine.Machine.{Machine}
use Rattle.acl_machine.specs.Cells.{nil_there, cells_from, Writes, WritesAll}
use Rattle.acl_machine.specs.Steps.{giving, beginning, counted, pushed, closed}

-- a form that makes an object is opened: its call is counted, and its producer begins
pub record OpensLocal (base at : ℕ) (stobj : SymId) (producer body : TermId) (old new : Machine) : Type 0 where
  pub values : List Shown
  pub writes : Writes (base + at) (shown.Object stobj) old.values values
  pub is : new ≡ beginning producer base (pushed (step.Local at body) base (counted (record old { values = values })))

-- the values that are given are written from this slot on
pub record WritesGiven (at : ℕ) (old new : Machine) : Type 0 where
  pub values : List Shown
  pub writes : WritesAll at old.given old.values values
  pub is : new ≡ record old { values = values }

-- the innermost form is closed
abbrev pub closed_first : Machine → Machine
closed_first m = closed (drop 1 m.frames) m

-- ---- functions that objects come with

-- what a call answers is given, or the call stops with the actuals, of which there are so many; `cut` is where it stops
abbrev pub given_by : Effect → SymId → ℕ → ℕ → Machine → Machine
given_by effect.Refuses name count cut m = record m { control = control.Stopped (halt.Guard name); given = take count m.given; inside = None; cut = cut }
given_by (effect.Gives value) name count cut m = giving (value ∷ []) m
given_by (effect.GivesBoth value bound) name count cut m = giving (value ∷ bound ∷ []) m

-- actuals, and room for what the call gives
abbrev pub with_room : List Shown → ℕ → ℕ → List Shown
with_room values base count = cells_from values base count ++ nil_there ∷ nil_there ∷ []
