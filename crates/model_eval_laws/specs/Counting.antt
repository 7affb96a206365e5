-- What an evaluation counts, and what it leaves once no call is left.
use Rattle.std.specs.Prelude.{◌≡◌, ℕ, ◌+◌, ◌≤◌, List, ◌++◌}
use Rattle.model_symbols.specs.Symbols.{QualifiedName, Package}
use Rattle.model_terms.specs.Cores.{Core}
use Rattle.model_terms.specs.Worlds.{World}
use Rattle.model_eval.specs.Outcomes.{Stobjs, State, Outcome, Gives, Stops, Unknown}
use Rattle.model_eval.specs.Variables.{Variables}
use Rattle.model_eval.specs.Checked.{checked}
use Rattle.model_eval_laws.specs.Laws.{IsSteps}

-- a later state: calls never fall and do not pass the limit, outer calls are calls, and symbols are only added
pub record Grown {S : Type 0} (limit : ℕ) (old new : State S) : Type 0 where
  pub calls : old.calls ≤ new.calls
  pub within : old.calls ≤ limit → new.calls ≤ limit
  pub outer : old.outer ≤ new.outer
  pub outer_calls : new.outer + old.calls ≤ new.calls + old.outer
  pub symbols : (added : List QualifiedName) × (new.symbols ≡ old.symbols ++ added)

-- there is an outcome, and it has such a state; where it stopped at the limit of calls, that many were counted
abbrev pub Counts : {S : Type 0} → ℕ → State S → Outcome S → Type 0
Counts limit old (Gives values new) = Grown limit old new
Counts limit old (Stops stop origin new) = Grown limit old new × (IsSteps stop → limit ≤ new.calls)
Counts limit old Unknown = ⊥

-- an outcome has these lists
abbrev pub HasStobjs : {S : Type 0} → Stobjs S → Outcome S → Type 0
HasStobjs stobjs (Gives values state) = state.stobjs ≡ stobjs
HasStobjs stobjs (Stops stop origin state) = state.stobjs ≡ stobjs
HasStobjs stobjs Unknown = Unit {0}

pub record CountsCalls : Type 0 where
  pub counts : (w : World) (packages : List Package) (k d : ℕ) (form : Core) (variables : Variables ℕ) (state : State ℕ)
      → Counts k state (checked w packages k d form variables state)
  -- where no call is left, the lists are those of that moment
  pub cut : (w : World) (packages : List Package) (k d : ℕ) (form : Core) (variables : Variables ℕ) (state : State ℕ) → k ≤ state.calls
      → HasStobjs state.stobjs (checked w packages k d form variables state)
