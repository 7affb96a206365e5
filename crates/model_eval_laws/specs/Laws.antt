-- What is said of evaluation, as laws.
use Rattle.std.specs.Prelude.{◌≡◌, ℕ, ◌≤◌, List}
use Rattle.model_symbols.specs.Symbols.{Package}
use Rattle.model_terms.specs.Cores.{Core}
use Rattle.model_terms.specs.Worlds.{World}
use Rattle.model_eval.specs.Outcomes.{Stop, Guard, Steps, Depth, Range, Large, Symbols, State}
use Rattle.model_eval.specs.Variables.{Variables}
use Rattle.model_eval.specs.Checked.{checked}
use Rattle.model_eval_laws.specs.Agreement.{Agrees, Closed, StandsIn, IsClosedWorld, HasGrown}

abbrev pub IsSteps : {S : Type 0} → Stop S → Type 0
IsSteps (Guard f values) = ⊥
IsSteps Steps = Unit {0}
IsSteps Depth = ⊥
IsSteps (Range f) = ⊥
IsSteps (Large f) = ⊥
IsSteps (Symbols f) = ⊥

abbrev pub IsDepth : {S : Type 0} → Stop S → Type 0
IsDepth (Guard f values) = ⊥
IsDepth Steps = ⊥
IsDepth Depth = Unit {0}
IsDepth (Range f) = ⊥
IsDepth (Large f) = ⊥
IsDepth (Symbols f) = ⊥

-- a larger limit changes nothing, unless the smaller one was met
pub record AgreesUntilLimit : Type 0 where
  pub steps : (w : World) (packages : List Package) (k l d : ℕ) (form : Core) (variables : Variables ℕ) (state : State ℕ) → k ≤ l
      → Agrees IsSteps (checked w packages k d form variables state) (checked w packages l d form variables state)
  pub depth : (w : World) (packages : List Package) (k d e : ℕ) (form : Core) (variables : Variables ℕ) (state : State ℕ) → d ≤ e
      → Agrees IsDepth (checked w packages k d form variables state) (checked w packages k e form variables state)

-- a world that grows keeps the outcome of each form that it had names for
pub record KeepsOutcomes : Type 0 where
  pub same : (old new : World) → IsClosedWorld old → HasGrown old new
      → (packages : List Package) (k d : ℕ) (form : Core) (variables : Variables ℕ) (state : State ℕ) → Closed (StandsIn old) form
      → checked new packages k d form variables state ≡ checked old packages k d form variables state
