-- What an expansion counts, and how deep the core forms are that it makes.
use Rattle.std.specs.Prelude.{◌≡◌, ℕ, ◌+◌, ◌≤◌, List, ◌++◌}
use Rattle.model_objects.specs.Object.{Object}
use Rattle.model_symbols.specs.Symbols.{QualifiedName}
use Rattle.model_terms.specs.Cores.{Core}
use Rattle.model_eval_laws.specs.Laws.{IsSteps}
use Rattle.model_expansion.specs.Faults.{ExpandFault, MacroArgs, BadShape, MacroStopped, UnknownFunction, Arity, TooNested}
use Rattle.model_expansion.specs.Layers.{GuardItem}
use Rattle.model_expansion.specs.TypeTerms.{depth_of}
use Rattle.model_expansion.specs.Expansion.{deepest_core, Setting, Progress, Expanded, Makes, Fails, expanded, expanded_guard}

-- a later progress: calls never fall and do not pass the limit, outer calls are calls, and symbols are only added
pub record Advanced (limit : ℕ) (old new : Progress) : Type 0 where
  pub calls : old.calls ≤ new.calls
  pub within : old.calls ≤ limit → new.calls ≤ limit
  pub outer : old.outer ≤ new.outer
  pub outer_calls : new.outer + old.calls ≤ new.calls + old.outer
  pub symbols : (added : List QualifiedName) × (new.symbols ≡ old.symbols ++ added)

-- a fault that says that the limit of calls was met
abbrev pub IsOutOfSteps : ExpandFault → Type 0
IsOutOfSteps (MacroArgs s) = ⊥
IsOutOfSteps (BadShape s) = ⊥
IsOutOfSteps (MacroStopped stop inside) = IsSteps stop
IsOutOfSteps (UnknownFunction f) = ⊥
IsOutOfSteps (Arity f) = ⊥
IsOutOfSteps TooNested = ⊥

-- an expansion ends with such a progress; where it failed at the limit of calls, that many were counted
abbrev pub Advances : {A : Type 0} → ℕ → Progress → Expanded A → Type 0
Advances limit old (Makes a new) = Advanced limit old new
Advances limit old (Fails fault new) = Advanced limit old new × (IsOutOfSteps fault → limit ≤ new.calls)

pub record ExpansionCounts : Type 0 where
  pub form : (x : Setting) (o : Object ℕ) (p : Progress) → Advances x.steps p (expanded x o p)
  pub guard : (x : Setting) (gs : List GuardItem) (p : Progress) → Advances x.steps p (expanded_guard x gs p)

-- no core form has more nodes on a way down than are allowed
pub record CoresAreNotTooDeep : Type 0 where
  pub form : (x : Setting) (o : Object ℕ) (p q : Progress) (f : Core) → expanded x o p ≡ Makes f q → depth_of f ≤ deepest_core
  pub guard : (x : Setting) (gs : List GuardItem) (p q : Progress) (f : Core) → expanded_guard x gs p ≡ Makes f q → depth_of f ≤ deepest_core
