-- What is said of the machine.
use Rattle.std.specs.Prelude.{◌≡◌, ℕ, suc}
use Rattle.model_terms.specs.Cores.{Core}
use Rattle.model_eval.specs.Outcomes.{StateOf}
use Rattle.model_eval.specs.Variables.{Variables}
use Rattle.model_eval.specs.Keeping.{Keeping}
use Rattle.model_eval.specs.Evaluated.{RulesOf, evaluated}
use Rattle.model_machine.specs.Frames.{Machine, Going}
use Rattle.model_machine.specs.Turns.{turn_of}
use Rattle.model_machine.specs.Ending.{EndsIn, begun_on}
use Rattle.model_machine.specs.Stands.{running, outcome_of, outcome_after}

-- a turn leaves the outcome what it is
pub record KeepsOutcomes {S O B : Type 0} (keeping : Keeping S O B) : Type 0 where
  pub same : (r : RulesOf keeping) (m : Machine S O B) → outcome_after (running r) (turn_of r m) ≡ outcome_of (running r) m

-- every machine ends, with the outcome that it stands for, and one that is begun on a form with the outcome of the form
pub record AlwaysEnds {S O B : Type 0} (keeping : Keeping S O B) : Type 0 where
  pub left : RulesOf keeping → Machine S O B → ℕ  -- the turns that are left
  pub ends : (r : RulesOf keeping) (m : Machine S O B) → EndsIn r (left r m) (turn_of r m) (outcome_of (running r) m)
  pub falls : (r : RulesOf keeping) (m after : Machine S O B) → turn_of r m ≡ Going after → left r m ≡ suc (left r after)
  pub begins : (r : RulesOf keeping) (depth : ℕ) (form : Core) (variables : Variables S) (state : StateOf O)
      → outcome_of (running r) (begun_on depth form variables state) ≡ evaluated (running r) depth form variables state
