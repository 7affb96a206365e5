-- What abstract evaluation counts, and what it leaves once no call is left.
use Rattle.std.specs.Prelude.{ℕ, ◌≤◌}
use Rattle.model_symbols.specs.Symbols.{QualifiedName}
use Rattle.model_terms.specs.Cores.{Core}
use Rattle.model_eval.specs.Outcomes.{State}
use Rattle.model_eval.specs.Variables.{Variables}
use Rattle.model_logic.specs.Logic.{Theory}
use Rattle.model_abstract.specs.Rules.{abstractly}
use Rattle.model_eval_laws.specs.Counting.{Counts, HasStobjs}
use Rattle.model_abstract_laws.specs.Budgets.{HasOutcome}

-- abstract evaluation counts as checked evaluation does, where it has an outcome
pub record AbstractCountsCalls : Type 0 where
  pub counts : (b : Theory) (budget k d : ℕ) (form : Core) (variables : Variables QualifiedName) (state : State QualifiedName) → HasOutcome (abstractly b budget k d form variables state)
      → Counts k state (abstractly b budget k d form variables state)
  pub cut : (b : Theory) (budget k d : ℕ) (form : Core) (variables : Variables QualifiedName) (state : State QualifiedName) → k ≤ state.calls
      → HasStobjs state.stobjs (abstractly b budget k d form variables state)
