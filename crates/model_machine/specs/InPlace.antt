-- The machine with stobjs in place, and checked evaluation in place.
use Rattle.std.specs.Prelude.{◌≡◌, ℕ, ◌≤◌, List}
use Rattle.model_symbols.specs.Symbols.{Package}
use Rattle.model_terms.specs.Cores.{Core}
use Rattle.model_terms.specs.Worlds.{World}
use Rattle.model_eval.specs.Outcomes.{StateOf}
use Rattle.model_eval.specs.Variables.{Variables}
use Rattle.model_eval.specs.PlacesKeeping.{Places, Closed, Store}
use Rattle.model_eval.specs.Outcomes.{State}
use Rattle.model_eval.specs.Checked.{checked_rules, checked}
use Rattle.model_eval.specs.InPlace.{in_place_rules, in_place}
use Rattle.model_machine.specs.Frames.{Machine, Going}
use Rattle.model_machine.specs.Turns.{turn_of}
use Rattle.model_machine.specs.Ending.{begun_on, EndsIn}
use Rattle.model_machine.specs.Cutting.{HasStateNow, Leads}

abbrev pub begins : ℕ → Core → Variables ℕ → StateOf (Store ℕ) → Machine ℕ (Store ℕ) Places
begins depth form variables state = begun_on depth form variables state

-- a machine begun on a form ends with what evaluation in place gives; and whenever it is stopped, evaluation in place with no more
-- calls than it has counted gives or stops in just the state that the machine has, its frames closed
pub record RunsInPlace : Type 0 where
  pub ends : (w : World) (packages : List Package) (limit depth : ℕ) (form : Core) (variables : Variables ℕ) (state : StateOf (Store ℕ))
      → (n : ℕ) × EndsIn (in_place_rules w packages limit) n (turn_of (in_place_rules w packages limit) (begins depth form variables state)) (in_place w packages limit depth form variables state)
  pub now : (w : World) (packages : List Package) (limit depth : ℕ) (form : Core) (variables : Variables ℕ) (state : StateOf (Store ℕ)) (n : ℕ) (m : Machine ℕ (Store ℕ) Places)
      → state.stobjs.journal ≡ Closed → state.calls ≤ limit → Leads (in_place_rules w packages limit) n (Going (begins depth form variables state)) m
      → HasStateNow (in_place_rules w packages limit) m.frames m.state (in_place w packages m.state.calls depth form variables state)

-- the same machine with stobjs kept as lists ends with what checked evaluation gives
pub record RunsOnLists : Type 0 where
  pub ends : (w : World) (packages : List Package) (limit depth : ℕ) (form : Core) (variables : Variables ℕ) (state : State ℕ)
      → (n : ℕ) × EndsIn (checked_rules w packages limit) n (turn_of (checked_rules w packages limit) (begun_on depth form variables state)) (checked w packages limit depth form variables state)
