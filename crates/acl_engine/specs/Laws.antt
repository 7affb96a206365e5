-- What is said of outcomes, as laws.
use Rattle.std.specs.Prelude.{◌≡◌, ◌≢◌, ℕ, List, Some}
use Rattle.model_symbols.specs.Symbols.{QualifiedName}
use Rattle.model_eval.specs.Outcomes as outcomes
use Rattle.acl_heap.specs.Objects.{Objects}
use Rattle.acl_terms.specs.declared.outcome.Stop.TheVariants as stop
use Rattle.acl_engine.specs.declared.outcome.Outcome.{Outcome}
use Rattle.acl_engine.specs.Outcomes.{IsOutcome}

-- an outcome of the program stands for one outcome of the definitions at most, unless memory was refused
pub record TellsOneOutcome : Type 0 where
  pub one : (h : Objects) (symbols : List QualifiedName) (stobjs : outcomes.Stobjs ℕ) (o : Outcome) (e e' : outcomes.Outcome ℕ)
      → o.stop ≢ Some stop.Memory → IsOutcome h symbols stobjs o e → IsOutcome h symbols stobjs o e' → e ≡ e'
