-- Environments: which variables checked evaluation has at a form, and in which slot each has its value.
use Rattle.std.specs.Prelude.{ℕ, ◌+◌, ◌<◌, List, [], ◌∷◌, map, Option, Some, None, nat_eq, if◌then◌else◌}
use Rattle.std.specs.List.{AllByRecursion}
use Rattle.model_terms.specs.Worlds.{World}
use Rattle.model_terms.specs.Classes.{is_stobj_name}
use Rattle.model_eval.specs.Outcomes.{Shown}
use Rattle.model_eval.specs.Variables.{Variables}

-- names with slots, in the order in which checked evaluation has its variables: the innermost first, hidden ones too
abbrev pub Environment : Type 0
Environment = List (ℕ × ℕ)

abbrev pub names_in : Environment → List ℕ
names_in env = map (λ e. e.0) env

-- the slot of a name
abbrev pub slot_in : Environment → ℕ → Option ℕ
slot_in [] x = None
slot_in (e ∷ es) x = if nat_eq x e.0 then Some e.1 else slot_in es x

-- each slot lies below this one
abbrev pub LiesBelow : ℕ → Environment → Type 0
LiesBelow top env = AllByRecursion (λ (e : ℕ × ℕ). e.1 < top) env

-- ---- what is bound

-- these names, each in a slot of its own, from this slot on
abbrev pub all_bound : ℕ → List ℕ → Environment → Environment
all_bound s [] env = env
all_bound s (x ∷ xs) env = (x, s) ∷ all_bound (s + 1) xs env

-- the same, but that a stobj keeps the variable that it has: its value has a slot, and no name
abbrev pub ordinary_bound : World → ℕ → List ℕ → Environment → Environment
ordinary_bound w s [] env = env
ordinary_bound w s (x ∷ xs) env = if is_stobj_name w x then ordinary_bound w (s + 1) xs env else (x, s) ∷ ordinary_bound w (s + 1) xs env

-- the formals of a function: the first in slot 0
abbrev pub formal_environment : List ℕ → Environment
formal_environment formals = all_bound 0 formals []

-- ---- the variables

-- the variables of checked evaluation, where the values lie in a window
abbrev pub variables_in : {S : Type 0} → (ℕ → Shown S) → Environment → Variables S
variables_in window env = map (λ e. (e.0, window e.1)) env
