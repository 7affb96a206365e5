-- The arithmetic of the primitives, on integers of any size (ACL2's manual, topics FLOOR, MOD, ASH, LOGAND, EXPT).
use Rattle.std.specs.Prelude.{ℕ, zero, suc, ◌+◌, ◌-◌, ◌/◌, ◌%◌, ◌^◌, ℤ, pos, negsuc, ◌-ℤ◌, ◌*ℤ◌, neg_ℤ, Bool, true, false, Option, Some, None, nat_eq, nat_lt, not, ◌||◌, bit_and, bit_or, bit_xor, unsigned_abs, int_div, int_lt, if◌then◌else◌}
use Rattle.std.specs.Int.{int_pow, int_shr}
use Rattle.model_objects.specs.Object.{Object, Integer, Symbol, Text, Pair, fits_128}

-- the integer that an object counts as: 0 where it is none
abbrev pub fix : {S : Type 0} → Object S → ℤ
fix (Integer n) = n
fix (Symbol s) = pos 0
fix (Text bytes) = pos 0
fix (Pair a d) = pos 0

-- the number that an object counts as: 0 where it is no integer, or one below 0
abbrev pub natural_of : {S : Type 0} → Object S → ℕ
natural_of (Integer (pos n)) = n
natural_of (Integer (negsuc n)) = 0
natural_of (Symbol s) = 0
natural_of (Text bytes) = 0
natural_of (Pair a d) = 0

-- ---- division; by 0 each quotient is 0, and each remainder the dividend

-- the quotient, rounded down
abbrev pub floor_of : ℤ → ℤ → ℤ
floor_of i (pos zero) = pos 0
floor_of (pos a) (pos (suc b)) = pos (a / suc b)
floor_of (negsuc a) (pos (suc b)) = negsuc (a / suc b)
floor_of (pos a) (negsuc b) = neg_ℤ (pos ((a + b) / suc b))
floor_of (negsuc a) (negsuc b) = pos (suc a / suc b)

-- the quotient, rounded to 0
abbrev pub truncate_of : ℤ → ℤ → ℤ
truncate_of i (pos zero) = pos 0
truncate_of i (pos (suc b)) = int_div i (pos (suc b))
truncate_of i (negsuc b) = int_div i (negsuc b)

-- what a quotient leaves of the dividend
abbrev pub rest_of : ℤ → ℤ → ℤ → ℤ
rest_of i j quotient = i -ℤ j *ℤ quotient

abbrev pub mod_of : ℤ → ℤ → ℤ
mod_of i j = rest_of i j (floor_of i j)

abbrev pub rem_of : ℤ → ℤ → ℤ
rem_of i j = rest_of i j (truncate_of i j)

-- ---- powers and shifts

-- i times 2 to the c, rounded down
abbrev pub shifted : ℤ → ℤ → ℤ
shifted i (pos c) = i *ℤ pos (2 ^ c)
shifted i (negsuc c) = int_shr i (c + 1)

-- ---- two's complement; `negsuc n` has the bits of n, each turned over

abbrev pub lognot : ℤ → ℤ
lognot (pos n) = negsuc n
lognot (negsuc n) = pos n

abbrev pub logand : ℤ → ℤ → ℤ
logand (pos a) (pos b) = pos (bit_and a b)
logand (pos a) (negsuc b) = pos (a - bit_and a b)
logand (negsuc a) (pos b) = pos (b - bit_and a b)
logand (negsuc a) (negsuc b) = negsuc (bit_or a b)

abbrev pub logior : ℤ → ℤ → ℤ
logior x y = lognot (logand (lognot x) (lognot y))

abbrev pub logxor : ℤ → ℤ → ℤ
logxor (pos a) (pos b) = pos (bit_xor a b)
logxor (pos a) (negsuc b) = negsuc (bit_xor a b)
logxor (negsuc a) (pos b) = negsuc (bit_xor a b)
logxor (negsuc a) (negsuc b) = pos (bit_xor a b)

-- ---- what is in range, found without computing what is not

abbrev pub in_range : ℤ → Option ℤ
in_range z = if fits_128 z then Some z else None

-- the powers of 0, 1 and -1
abbrev pub unit_power : ℤ → ℕ → ℤ
unit_power (pos b) n = if nat_eq n 0 then pos 1 else pos b
unit_power (negsuc b) n = if nat_eq (n % 2) 0 then pos 1 else negsuc b

abbrev pub power_by : Bool → Bool → ℤ → ℕ → Option ℤ
power_by true short b n = Some (unit_power b n)
power_by false true b n = in_range (int_pow b n)
power_by false false b n = None

-- b to the n, where that is in range: of another base than 0, 1 and -1 only exponents below 128 can be
abbrev pub power_in_range : ℤ → ℕ → Option ℤ
power_in_range b n = power_by (nat_lt (unsigned_abs b) 2) (nat_lt n 128) b n

abbrev pub raised_by : Bool → Bool → ℤ → ℕ → Option ℤ
raised_by true short i c = Some (pos 0)
raised_by false true i c = in_range (i *ℤ pos (2 ^ c))
raised_by false false i c = None

abbrev pub lowered_by : Bool → ℤ → ℕ → Option ℤ
lowered_by true i c = in_range (int_shr i c)
lowered_by false i c = Some (if int_lt i (pos 0) then negsuc 0 else pos 0)

-- i times 2 to the c, rounded down, where that is in range: of another integer than 0 only shifts by less than 128 can be,
-- and of an integer that is in range a shift down by 128 or more leaves 0 or -1
abbrev pub shift_in_range : ℤ → ℤ → Option ℤ
shift_in_range i (pos c) = raised_by (nat_eq (unsigned_abs i) 0) (nat_lt c 128) i c
shift_in_range i (negsuc c) = lowered_by (nat_lt c 127 || not (fits_128 i)) i (c + 1)
