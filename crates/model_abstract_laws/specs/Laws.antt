-- Abstract evaluation with larger limits.
use Rattle.std.specs.Prelude.{ℕ, ◌≤◌}
use Rattle.model_symbols.specs.Symbols.{QualifiedName}
use Rattle.model_terms.specs.Cores.{Core}
use Rattle.model_eval.specs.Outcomes.{State}
use Rattle.model_eval.specs.Variables.{Variables}
use Rattle.model_logic.specs.Logic.{Theory}
use Rattle.model_abstract.specs.Rules.{abstractly}
use Rattle.model_eval_laws.specs.Agreement.{Agrees}
use Rattle.model_eval_laws.specs.Laws.{IsSteps, IsDepth}

-- a larger limit changes nothing, unless the smaller one was met
pub record AbstractAgreesUntilLimit : Type 0 where
  pub steps : (b : Theory) (budget k l d : ℕ) (form : Core) (variables : Variables QualifiedName) (state : State QualifiedName) → k ≤ l
      → Agrees IsSteps (abstractly b budget k d form variables state) (abstractly b budget l d form variables state)
  pub depth : (b : Theory) (budget k d e : ℕ) (form : Core) (variables : Variables QualifiedName) (state : State QualifiedName) → d ≤ e
      → Agrees IsDepth (abstractly b budget k d form variables state) (abstractly b budget k e form variables state)
