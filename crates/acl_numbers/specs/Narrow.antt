-- Integers of 64 bits.
use Rattle.std.specs.Prelude.{ℤ, Option, Some, None, if◌then◌else◌}
use Rattle.model_objects.specs.Object.{fits_64}

-- the integer, where it has 64 bits
abbrev pub in_64 : ℤ → Option ℤ
in_64 z = if fits_64 z then Some z else None
