-- Places of names.
use Rattle.std.specs.Prelude.{ℕ, Bool, false, nat_eq, Option, Some, None}

-- the place is this one
abbrev pub is_at : ℕ → Option ℕ → Bool
is_at i None = false
is_at i (Some j) = nat_eq j i
