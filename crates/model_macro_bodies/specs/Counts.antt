-- What an evaluation without stobjs in scope leaves and counts.
use Rattle.std.specs.Prelude.{◌≡◌, ℕ, ◌+◌, ◌≤◌, List, [], ◌∷◌, ◌++◌}
use Rattle.model_symbols.specs.Symbols.{QualifiedName}
use Rattle.model_eval.specs.Outcomes.{Shown, Plain, StobjNamed, State, Outcome, Gives, Stops, Unknown}
use Rattle.model_eval.specs.Variables.{Variables}

-- no more calls are counted than the limit, no outer call that is none of them; no stobj is in scope, and symbols are only added
pub record IsCounted (limit used : ℕ) (symbols : List QualifiedName) (state : State ℕ) : Type 0 where
  pub within : state.calls ≤ limit
  pub outer : used + state.outer ≤ state.calls
  pub stobjs : state.stobjs ≡ []
  pub added : List QualifiedName
  pub symbols_are : state.symbols ≡ symbols ++ added

-- the state that an outcome has
abbrev pub EndsCounted : ℕ → ℕ → List QualifiedName → Outcome ℕ → Type 0
EndsCounted limit used symbols (Gives values state) = IsCounted limit used symbols state
EndsCounted limit used symbols (Stops stop origin state) = IsCounted limit used symbols state
EndsCounted limit used symbols Unknown = ⊥

-- variables that are all ordinary
abbrev pub AreOrdinary : Variables ℕ → Type 0
AreOrdinary [] = Unit {0}
AreOrdinary ((x, Plain o) ∷ vs) = AreOrdinary vs
AreOrdinary ((x, StobjNamed y) ∷ vs) = ⊥
