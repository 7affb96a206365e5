-- A stack of values, windows of it, and how the actuals of a call lie there.
use Rattle.std.specs.Prelude.{ℕ, zero, suc, ◌+◌, List, [], ◌∷◌, nat_eq, if◌then◌else◌}
use Rattle.model_eval.specs.Outcomes.{Shown, Plain, StobjNamed}

-- the value at each number
abbrev pub Memory : Type 0 → Type 0
Memory S = ℕ → Shown S

-- the slots from this number on
abbrev pub window : {S : Type 0} → Memory S → ℕ → Memory S
window memory base i = memory (base + i)

abbrev pub written : {S : Type 0} → ℕ → Shown S → Memory S → Memory S
written at v memory i = if nat_eq i at then v else memory i

-- these values, one behind the other, from this number on
abbrev pub all_written : {S : Type 0} → ℕ → List (Shown S) → Memory S → Memory S
all_written at [] memory = memory
all_written at (v ∷ vs) memory = written at v (all_written (at + 1) vs memory)

-- so many values from this number on
abbrev pub read : {S : Type 0} → Memory S → ℕ → ℕ → List (Shown S)
read memory at zero = []
read memory at (suc n) = memory at ∷ read memory (at + 1) n

-- ---- actuals: the callee's window begins at the first of them, and a stobj has there the name of its formal

-- the variables of the stobjs, which a call keeps
abbrev pub stobj_names : {S : Type 0} → List (Shown S) → List ℕ
stobj_names [] = []
stobj_names (Plain o ∷ vs) = stobj_names vs
stobj_names (StobjNamed y ∷ vs) = y ∷ stobj_names vs

-- values in which the stobjs have these names again
abbrev pub renamed : {S : Type 0} → List (Shown S) → List ℕ → List (Shown S)
renamed [] names = []
renamed (Plain o ∷ vs) names = Plain o ∷ renamed vs names
renamed (StobjNamed x ∷ vs) [] = StobjNamed x ∷ renamed vs []
renamed (StobjNamed x ∷ vs) (y ∷ ys) = StobjNamed y ∷ renamed vs ys

-- the actuals of a call with so many formals, whose window begins at this number
abbrev pub actuals_at : {S : Type 0} → Memory S → ℕ → ℕ → List ℕ → List (Shown S)
actuals_at memory base count names = renamed (read (window memory base) 0 count) names
