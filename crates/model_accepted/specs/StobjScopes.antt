-- What variables and values are, by the kinds of names in scope.
use Rattle.std.specs.Prelude.{◌≡◌, ℕ, List, [], ◌∷◌, Some}
use Rattle.model_prims.specs.Kinds.{by_number}
use Rattle.model_terms.specs.Worlds.{Out, Ordinary, Scope}
use Rattle.model_terms.specs.Worlds as worlds
use Rattle.model_terms.specs.Scopes.{kind_in}
use Rattle.model_eval.specs.Outcomes.{Shown, Plain, StobjNamed}
use Rattle.model_eval.specs.Variables.{Variables, variable_in}

-- the stobj is in the scope, under its own name
abbrev pub IsStobj : Scope → ℕ → Type 0
IsStobj scope x = kind_in scope x ≡ Some (worlds.Stobj x)

-- what a name of this kind is
abbrev pub IsOfKind : ℕ → Out → Shown ℕ → Type 0
IsOfKind x Ordinary (Plain o) = Unit {0}
IsOfKind x Ordinary (StobjNamed y) = ⊥
IsOfKind x (worlds.Stobj z) v = (z ≡ x) × (v ≡ StobjNamed x)

-- each name in scope is a variable of its kind
pub record AreVariables (scope : Scope) (variables : Variables ℕ) : Type 0 where
  pub each : (x : ℕ) (k : Out) → kind_in scope x ≡ Some k → IsOfKind x k (variable_in by_number variables x)

-- a value of the kind, where a stobj is one in scope
abbrev pub IsOutput : Scope → Out → Shown ℕ → Type 0
IsOutput scope Ordinary (Plain o) = Unit {0}
IsOutput scope Ordinary (StobjNamed y) = ⊥
IsOutput scope (worlds.Stobj x) (Plain o) = ⊥
IsOutput scope (worlds.Stobj x) (StobjNamed y) = (y ≡ x) × IsStobj scope x

abbrev pub AreOutputs : Scope → List Out → List (Shown ℕ) → Type 0
AreOutputs scope [] [] = Unit {0}
AreOutputs scope [] (v ∷ vs) = ⊥
AreOutputs scope (k ∷ ks) [] = ⊥
AreOutputs scope (k ∷ ks) (v ∷ vs) = IsOutput scope k v × AreOutputs scope ks vs
