-- How many pairs a list has.
use Rattle.std.specs.Prelude.{◌≡◌, ℕ, suc, ◌+◌, ◌<◌, ◌≤◌, Bool, true, false, nat_eq, ℤ, List, refl}
use Rattle.std.proofs.Common.{sym, ap, ◌∙◌, arith}
use Rattle.std.proofs.lemmas.Bool.Decides.{nat_tests}
use Rattle.model_objects.specs.Object.{Object, Integer, Symbol, Text, Pair}
use Rattle.model_prims.specs.Lists.{len}

-- one pair more was passed
pub longer : (o a d whole : Object ℕ) (passed : ℕ) → o ≡ Pair a d → len o + passed ≡ len whole → len d + (passed + 1) ≡ len whole
longer o a d whole passed e h = let g : len o ≡ len d + 1 = ap len e in omega (arith, g, h)

pub as_long : (o a d whole : Object ℕ) (passed count : ℕ) → o ≡ Pair a d → len o + passed ≡ len whole → count ≤ passed → nat_eq (len whole) count ≡ false
as_long o a d whole passed count e h l =
    let g : len o ≡ len d + 1 = ap len e in
    let m : count < len whole = omega (arith, g, h, l) in
    grind (arith, nat_tests, m)

pub shorter : (o whole : Object ℕ) (passed count : ℕ) → len o ≡ 0 → len o + passed ≡ len whole → passed < count → nat_eq (len whole) count ≡ false
shorter o whole passed count e h l = let m : len whole < count = omega (arith, e, h, l) in grind (arith, nat_tests, m)

pub all_passed : (o whole : Object ℕ) (passed count : ℕ) → len o ≡ 0 → len o + passed ≡ len whole → passed ≡ count → nat_eq (len whole) count ≡ true
all_passed o whole passed count e h l = let m : len whole ≡ count = omega (arith, e, h, l) in grind (arith, nat_tests, m)
