-- What is said of the primitives, as laws.
use Rattle.std.specs.Prelude.{◌≡◌, ◌≢◌, ℕ, ◌<◌, ◌^◌, List, length, ℤ, pos, negsuc, ◌+ℤ◌, ◌-ℤ◌, ◌*ℤ◌, neg_ℤ, true, unsigned_abs, bit_and, bit_or, bit_xor, FitsSigned}
use Rattle.std.specs.Int.{w128, int_pow, int_bit_and, int_bit_or, int_bit_xor}
use Rattle.std.specs.Bool.{Decides}
use Rattle.model_objects.specs.Object.{Object, weight, fits_128, has_narrow_integers, is_value, max_weight}
use Rattle.model_objects.specs.Named.{Knows}
use Rattle.model_symbols.specs.Symbols.{QualifiedName, Table, form_of}
use Rattle.model_symbols.specs.Growth.{IsSymbol}
use Rattle.model_symbols.specs.Tables.{IsTable}
use Rattle.model_symbols.specs.Opening.{truth, nil, truth_name, nil_name}
use Rattle.model_prims.specs.Kinds.{by_number, by_name, same_object}
use Rattle.model_prims.specs.Values.{wanted}
use Rattle.model_prims.specs.Numbers.{floor_of, truncate_of, mod_of, rem_of, shifted, lognot, logand, logior, logxor, in_range, power_in_range, shift_in_range}
use Rattle.model_prims.specs.Lists.{updated}
use Rattle.model_prims.specs.Applied.{Gives, logic_value, applied_to}
use Rattle.model_prims.specs.declared.prim.Prim.{Prim}

-- the test for equal objects tells whether they are equal
pub record IsEquality : Type 0 where
  pub decides : (x y : Object ℕ) → Decides (same_object by_number x y) (x ≡ y)

-- the symbols of a value are known, where those of the arguments are, `T` and `NIL`
pub record GivesKnown : Type 0 where
  pub known : (t : Table) (p : Prim) (x y z o : Object ℕ) (symbols : List QualifiedName) → nil < length t.symbols
      → Knows (length t.symbols) x → Knows (length t.symbols) y → Knows (length t.symbols) z → applied_to t p x y z ≡ Gives o symbols → Knows (length symbols) o

-- what a checked primitive gives of values is a value
pub record GivesValues : Type 0 where
  pub value : (t : Table) (p : Prim) (x y z o : Object ℕ) (symbols : List QualifiedName) → is_value x ≡ true → is_value y ≡ true → is_value z ≡ true
      → applied_to t p x y z ≡ Gives o symbols → is_value o ≡ true

-- an integer below the bound in size, of the sign of the other or 0
abbrev pub IsBelow : ℤ → ℕ → ℤ → Type 0
IsBelow (pos a) bound r = (n : ℕ) × (n < bound) × (r ≡ pos n)
IsBelow (negsuc a) bound r = (n : ℕ) × (n < bound) × (r ≡ neg_ℤ (pos n))

-- a dividend is its divisor times the quotient and the remainder. The remainder is smaller than the divisor. That of a
-- quotient that is rounded down has the divisor's sign, that of one that is rounded to 0 the dividend's
pub record IsDivision : Type 0 where
  pub floor : (i j : ℤ) → i ≡ j *ℤ floor_of i j +ℤ mod_of i j
  pub modulus : (i j : ℤ) → j ≢ pos 0 → IsBelow j (unsigned_abs j) (mod_of i j)
  pub truncate : (i j : ℤ) → i ≡ j *ℤ truncate_of i j +ℤ rem_of i j
  pub remainder : (i j : ℤ) → j ≢ pos 0 → IsBelow i (unsigned_abs j) (rem_of i j)

-- to shift is to multiply by a power of two, or to divide by one and to round down
pub record IsShift : Type 0 where
  pub up : (i : ℤ) (c : ℕ) → shifted i (pos c) ≡ i *ℤ pos (2 ^ c)
  pub down : (i : ℤ) (c : ℕ) → shifted i (neg_ℤ (pos c)) ≡ floor_of i (pos (2 ^ c))

-- the logical primitives work on bits, those of integers of 128 bits as two's complement has them
pub record IsBitwise : Type 0 where
  pub turned : (x : ℤ) → lognot x ≡ neg_ℤ x -ℤ pos 1
  pub both : (a b : ℕ) → logand (pos a) (pos b) ≡ pos (bit_and a b)
  pub either : (a b : ℕ) → logior (pos a) (pos b) ≡ pos (bit_or a b)
  pub one : (a b : ℕ) → logxor (pos a) (pos b) ≡ pos (bit_xor a b)
  pub narrow_both : (x y : ℤ) → FitsSigned w128 x → FitsSigned w128 y → int_bit_and w128 x y ≡ logand x y
  pub narrow_either : (x y : ℤ) → FitsSigned w128 x → FitsSigned w128 y → int_bit_or w128 x y ≡ logior x y
  pub narrow_one : (x y : ℤ) → FitsSigned w128 x → FitsSigned w128 y → int_bit_xor w128 x y ≡ logxor x y

-- what is found without computing a number, or a list, that is too large, is what computing it would tell
pub record IsAtOnce : Type 0 where
  pub power : (b : ℤ) (n : ℕ) → power_in_range b n ≡ in_range (int_pow b n)
  pub shift : (i c : ℤ) → shift_in_range i c ≡ in_range (shifted i c)
  pub update : (n : ℕ) (o l : Object ℕ) → max_weight < n → max_weight < weight (updated by_number n o l)

-- `T` and `NIL` have the numbers that the primitives take them to have
pub record NamesTruth (t : Table) : Type 0 where
  pub at_truth : IsSymbol t.symbols truth truth_name
  pub at_nil : IsSymbol t.symbols nil nil_name

-- what a checked primitive gives is its value in the logic, symbols by name
pub record FollowsLogic : Type 0 where
  pub follows : (t : Table) (p : Prim) (x y z o : Object ℕ) (symbols : List QualifiedName) → IsTable t → NamesTruth t
      → Knows (length t.symbols) x → Knows (length t.symbols) y → Knows (length t.symbols) z
      → applied_to t p x y z ≡ Gives o symbols
      → logic_value t.packages (wanted by_name (λ s. s) p (form_of t.symbols x) (form_of t.symbols y) (form_of t.symbols z)) ≡ form_of symbols o
