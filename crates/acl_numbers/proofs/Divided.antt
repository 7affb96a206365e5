-- What the code computes of quotients, remainders and shifts.
use Rattle.std.specs.Prelude.{◌≡◌, ◌≢◌, ℕ, zero, suc, ◌*◌, ◌%◌, ◌^◌, ◌<◌, ℤ, pos, negsuc, ◌+ℤ◌, ◌-ℤ◌, FitsSigned, int_lt, true, Option, Some, None, refl}
use Rattle.std.proofs.Common.{arith, ap, ◌∙◌}
use Rattle.std.proofs.lemmas.Int.{to_z-of_z, to_z_pos}
use Rattle.std.proofs.lemmas.Nat.{one_shl, pow_below}
use Rattle.std.specs.Option.{SomeIff}
use Rattle.std.specs.Int.{w128, int_div_euclid, int_rem_euclid, cast_signed}
use Rattle.model_prims.specs.Numbers.{floor_of, mod_of, in_range}
use Rattle.model_prims.proofs.Division.{floor-above, floor-exact, floor-between, mod-above, mod-exact, mod-between}

pub floor_above : (i j : ℤ) → int_lt (pos 0) j ≡ true → floor_of i j ≡ int_div_euclid i j
floor_above i (pos zero) l = grind arith
floor_above i (pos (suc b)) l = floor-above i b
floor_above i (negsuc b) l = cc

pub floor_exact : (i j : ℤ) → j ≢ pos 0 → int_rem_euclid i j ≡ pos 0 → floor_of i j ≡ int_div_euclid i j
floor_exact i (pos zero) n e = absurd (n refl)
floor_exact i (pos (suc b)) n e = floor-above i b
floor_exact i (negsuc b) n e = floor-exact i b e

pub floor_between : (i j : ℤ) → int_lt (pos 0) j ≢ true → j ≢ pos 0 → int_rem_euclid i j ≢ pos 0 → floor_of i j ≡ int_div_euclid i j -ℤ pos 1
floor_between i (pos zero) a n e = absurd (n refl)
floor_between i (pos (suc b)) a n e = absurd (a (grind arith))
floor_between i (negsuc b) a n e = floor-between i b e

pub mod_above : (i j : ℤ) → int_lt (pos 0) j ≡ true → mod_of i j ≡ int_rem_euclid i j
mod_above i (pos zero) l = grind arith
mod_above i (pos (suc b)) l = mod-above i b
mod_above i (negsuc b) l = cc

pub mod_exact : (i j : ℤ) → j ≢ pos 0 → int_rem_euclid i j ≡ pos 0 → mod_of i j ≡ int_rem_euclid i j
mod_exact i (pos zero) n e = absurd (n refl)
mod_exact i (pos (suc b)) n e = mod-above i b
mod_exact i (negsuc b) n e = mod-exact i b e

pub mod_between : (i j : ℤ) → int_lt (pos 0) j ≢ true → j ≢ pos 0 → int_rem_euclid i j ≢ pos 0 → mod_of i j ≡ int_rem_euclid i j +ℤ j
mod_between i (pos zero) a n e = absurd (n refl)
mod_between i (pos (suc b)) a n e = absurd (a (grind arith))
mod_between i (negsuc b) a n e = mod-between i b e

pub ranged : (r : Option ℤ) (z : ℤ) → SomeIff r (FitsSigned w128 z) z → r ≡ in_range z
ranged None z h = grind arith
ranged (Some x) z h = grind arith

pub in_range-fits : (z : ℤ) → FitsSigned w128 z → in_range z ≡ Some z
in_range-fits (pos n) f = grind (arith, f.sfits)
in_range-fits (negsuc n) f = grind (arith, f.sfits)

pub power_of_two : (k : ℕ) → k < 127 → cast_signed w128 ((1 * 2 ^ k) % 2 ^ 128) ≡ pos (2 ^ k)
power_of_two k l = ap (cast_signed w128) (one_shl k 128 (omega arith)) ∙ to_z_pos w128 (2 ^ k) (pow_below k 127 l)

pub ruleset floors = (to_z-of_z, floor_above, floor_exact, floor_between, ranged, in_range-fits)

pub ruleset remainders = (to_z-of_z, mod_above, mod_exact, mod_between)

pub ruleset products = (to_z-of_z, power_of_two, ranged)
