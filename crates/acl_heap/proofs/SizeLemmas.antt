-- An object takes no more cells than it weighs.
use Rattle.std.specs.Prelude.{ℕ, ◌≤◌, true, false, if◌then◌else◌}
use Rattle.std.proofs.Common.{arith}
use Rattle.model_objects.specs.Object.{Object, Integer, Symbol, Text, Pair, weight, cells, fits_64}

pub cells_within : (o : Object ℕ) → cells o ≤ weight o
cells_within (Integer n) = elim (fits_64 n) as (λ b. (if b then 0 else 1) ≤ 1) [ true ↦ omega arith | false ↦ omega arith ]
cells_within (Symbol s) = omega arith
cells_within (Text bytes) = omega arith
cells_within (Pair a d) = omega (arith, cells_within a, cells_within d)
