-- How many more turns a machine takes, and how it begins.
use Rattle.std.specs.Prelude.{◌≡◌, ℕ, zero, suc, []}
use Rattle.model_terms.specs.Cores.{Core}
use Rattle.model_eval.specs.Outcomes.{StateOf, OutcomeOf}
use Rattle.model_eval.specs.Keeping.{Keeping}
use Rattle.model_eval.specs.Variables.{Variables}
use Rattle.model_eval.specs.Evaluated.{RulesOf}
use Rattle.model_machine.specs.Frames.{Begin, Machine, Turned, Going, Over}
use Rattle.model_machine.specs.Turns.{turn_of}

-- a machine that is to evaluate a form
abbrev pub begun_on : {S O B : Type 0} → ℕ → Core → Variables S → StateOf O → Machine S O B
begun_on depth form variables state = record { room = depth; frames = []; control = Begin form variables; state = state }

module _ {S O B : Type 0} {keeping : Keeping S O B} (r : RulesOf keeping) where
  -- after exactly so many more turns it is over, with this outcome
  abbrev pub EndsIn : ℕ → Turned S O B → OutcomeOf S O → Type 0
  EndsIn zero (Over last) outcome = last ≡ outcome
  EndsIn zero (Going m) outcome = ⊥
  EndsIn (suc n) (Over last) outcome = ⊥
  EndsIn (suc n) (Going m) outcome = EndsIn n (turn_of r m) outcome
