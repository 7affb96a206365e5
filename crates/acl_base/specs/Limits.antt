-- The limits that a command may be given.
use Rattle.std.specs.Prelude.{ℕ, ◌≤◌}

-- the most calls that a command may be given
abbrev pub most_steps : ℕ
most_steps = 10000000

-- the most terms that may be open at once
abbrev pub most_depth : ℕ
most_depth = 200000

-- 1 to 10,000,000 calls, and 1 to 200,000 open terms
pub record AreLimits (steps depth : ℕ) : Type 0 where
  pub some_steps : 1 ≤ steps
  pub steps_within : steps ≤ most_steps
  pub some_depth : 1 ≤ depth
  pub depth_within : depth ≤ most_depth
