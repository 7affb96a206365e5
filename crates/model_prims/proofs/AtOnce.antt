-- What is too large is told without computing it.
use Rattle.std.specs.Prelude.{◌≡◌, ℕ, zero, suc, ◌+◌, ◌-◌, ◌*◌, ◌/◌, ◌%◌, ◌^◌, ◌<◌, ◌≤◌, ◌==◌, Bool, true, false, Some, None, nat_lt, nat_eq, not, ◌||◌, ℤ, pos, negsuc, ◌*ℤ◌, neg_ℤ, unsigned_abs, if◌then◌else◌, refl}
use Rattle.std.proofs.Common.{arith, sym, ◌∙◌}
use Rattle.std.proofs.Common.{subst}
use Rattle.std.proofs.lemmas.Bool.Decides.{nat_tests, Decides-eqb, Decides-ltb}
use Rattle.std.proofs.lemmas.Int.{unsigned_abs-mul}
use Rattle.std.proofs.lemmas.Nat.{mul-le}
use Rattle.std.proofs.Math.Nat.{pow-suc, pow-le-pow_left, pow-le-pow_right}
use Rattle.std.proofs.Math.Pow.{pow_mono}
use Rattle.model_prims.proofs.Division.{quotient_is}
use Rattle.std.specs.Int.{int_pow, int_shr}
use Rattle.model_objects.specs.Object.{Object, Integer, Symbol, Text, Pair, weight, fits_128}
use Rattle.model_prims.specs.Kinds.{by_number}
use Rattle.model_prims.specs.Numbers.{in_range, unit_power, power_by, shifted, raised_by, lowered_by, shift_in_range}
use Rattle.model_prims.specs.Lists.{padded, updated}
use Rattle.model_prims.specs.Laws.{IsAtOnce}

-- ---- tests

not_below : (m n : ℕ) → nat_lt m n ≡ false → n ≤ m
not_below m n e = grind (arith, nat_tests)

some : (n : ℕ) → nat_eq n 0 ≡ false → 0 < n
some n e = grind (arith, nat_tests)

never : (n : ℕ) → nat_lt n 0 ≡ false
never n = grind (arith, nat_tests)

too_wide : (n : ℕ) → 2 ^ 127 ≤ n → nat_lt n (2 ^ 127) ≡ false
too_wide n l = grind (arith, nat_tests)

-- ---- lists

first : (n : ℕ) (o d : Object ℕ) → n ≡ 0 → n < weight (Pair o d)
first n o d e = omega arith

heavier : (b : Bool) (n : ℕ) (p a e : Object ℕ) → (b ≡ true → n < weight p) → n - 1 < weight e → n < weight (if b then p else Pair a e)
heavier true n p a e f l = f refl
heavier false n p a e f l = omega arith

padded_weight : (n : ℕ) (o : Object ℕ) → n < weight (padded by_number n o)
padded_weight zero o = omega arith
padded_weight (suc n) o = omega (arith, padded_weight n o)

updated_weight : (n : ℕ) (o l : Object ℕ) → n < weight (updated by_number n o l)
updated_weight n o (Integer m) = padded_weight n o
updated_weight n o (Symbol s) = padded_weight n o
updated_weight n o (Text bytes) = padded_weight n o
updated_weight n o (Pair a d) = heavier (nat_eq n 0) n (Pair o d) a (updated by_number (n - 1) o d) (λ e. first n o d ((Decides-eqb n 0).0 e)) (updated_weight (n - 1) o d)

-- ---- powers

out : (z : ℤ) → 2 ^ 128 ≤ unsigned_abs z → in_range z ≡ None
out (pos n) l = rw (too_wide n (omega arith)) refl
out (negsuc n) l = rw (too_wide n (omega arith)) refl

abs_neg : (m : ℕ) → unsigned_abs (neg_ℤ (pos m)) ≡ m
abs_neg zero = refl
abs_neg (suc m) = refl

abs_signed : (b : Bool) (m : ℕ) → unsigned_abs (if b then pos m else neg_ℤ (pos m)) ≡ m
abs_signed true m = refl
abs_signed false m = abs_neg m

abs_pow : (b : ℤ) (n : ℕ) → unsigned_abs (int_pow b n) ≡ unsigned_abs b ^ n
abs_pow (pos a) n = refl
abs_pow (negsuc a) n = abs_signed (n % 2 == 0) (suc a ^ n)

far : (a n : ℕ) → 2 ≤ a → 128 ≤ n → 2 ^ 128 ≤ a ^ n
far a n l m =
    let base : 2 ^ 128 ≤ a ^ 128 = pow-le-pow_left l 128 in
    let exponent : a ^ 128 ≤ a ^ n = pow-le-pow_right (omega arith) m in
    omega (arith, base, exponent)

one_pow : (n : ℕ) → 1 ^ n ≡ 1
one_pow zero = refl
one_pow (suc n) = pow-suc 1 n ∙ omega (arith, one_pow n)

zero_pow : (n : ℕ) → 0 ^ suc n ≡ 0
zero_pow n = pow-suc 0 n ∙ omega arith

not_zero : (n : ℕ) → nat_eq (suc n) 0 ≡ false
not_zero n = grind (arith, nat_tests)

either_one : (b : Bool) → (if b then pos 1 else pos 1) ≡ pos 1
either_one true = refl
either_one false = refl

signed_one : (b : Bool) (m : ℕ) → m ≡ 1 → Some (if b then pos 1 else negsuc 0) ≡ in_range (if b then pos m else neg_ℤ (pos m))
signed_one true m e = rw e refl
signed_one false m e = rw e refl

unit_is : (b : ℤ) (n : ℕ) → unsigned_abs b < 2 → Some (unit_power b n) ≡ in_range (int_pow b n)
unit_is (pos zero) zero l = refl
unit_is (pos zero) (suc n) l = rw (not_zero n, zero_pow n) refl
unit_is (pos (suc zero)) n l = rw (either_one (nat_eq n 0), one_pow n) refl
unit_is (pos (suc (suc a))) n l = absurd (omega arith)
unit_is (negsuc zero) n l = signed_one (n % 2 == 0) (1 ^ n) (one_pow n)
unit_is (negsuc (suc a)) n l = absurd (omega arith)

power_is : (small short : Bool) (b : ℤ) (n : ℕ) → nat_lt (unsigned_abs b) 2 ≡ small → nat_lt n 128 ≡ short → power_by small short b n ≡ in_range (int_pow b n)
power_is true short b n e f = unit_is b n ((Decides-ltb (unsigned_abs b) 2).0 e)
power_is false true b n e f = refl
power_is false false b n e f = sym (out (int_pow b n) (subst (λ m. 2 ^ 128 ≤ m) (sym (abs_pow b n)) (far (unsigned_abs b) n (not_below (unsigned_abs b) 2 e) (not_below n 128 f))))

-- ---- shifts

none_raised : (i : ℤ) (c : ℕ) → unsigned_abs i ≡ 0 → Some (pos 0) ≡ in_range (i *ℤ pos (2 ^ c))
none_raised (pos zero) c e =
    let none : 0 * 2 ^ c ≡ 0 = omega arith in
    rw none refl
none_raised (pos (suc n)) c e = absurd (omega arith)
none_raised (negsuc n) c e = absurd (omega arith)

raised_far : (i : ℤ) (c : ℕ) → 0 < unsigned_abs i → 128 ≤ c → 2 ^ 128 ≤ unsigned_abs (i *ℤ pos (2 ^ c))
raised_far i c l m =
    let scale : 2 ^ 128 ≤ 2 ^ c = pow_mono m in
    let product : 1 * 2 ^ 128 ≤ unsigned_abs i * 2 ^ c = mul-le 1 (2 ^ 128) (unsigned_abs i) (2 ^ c) l scale in
    omega (arith, unsigned_abs-mul i (pos (2 ^ c)), product)

raised_is : (none short : Bool) (i : ℤ) (c : ℕ) → nat_eq (unsigned_abs i) 0 ≡ none → nat_lt c 128 ≡ short → raised_by none short i c ≡ in_range (i *ℤ pos (2 ^ c))
raised_is true short i c e f = none_raised i c ((Decides-eqb (unsigned_abs i) 0).0 e)
raised_is false true i c e f = refl
raised_is false false i c e f = sym (out (i *ℤ pos (2 ^ c)) (raised_far i c (some (unsigned_abs i) e) (not_below c 128 f)))

gone : (a c : ℕ) → a < 2 ^ 127 → 127 ≤ c → a / 2 ^ (c + 1) ≡ 0
gone a c l m =
    let less : 127 ≤ c + 1 = omega arith in
    let scale : 2 ^ 127 ≤ 2 ^ (c + 1) = pow_mono less in
    quotient_is a (2 ^ (c + 1)) 0 a (omega (arith, scale)) (omega arith)

lowered_is : (short : Bool) (i : ℤ) (c : ℕ) → fits_128 i ≡ true → nat_lt c 127 ≡ short → lowered_by short i (c + 1) ≡ in_range (int_shr i (c + 1))
lowered_is true i c f e = refl
lowered_is false (pos a) c f e = rw (gone a c ((Decides-ltb a (2 ^ 127)).0 f) (not_below c 127 e), never a) refl
lowered_is false (negsuc a) c f e = rw (gone a c ((Decides-ltb a (2 ^ 127)).0 f) (not_below c 127 e)) refl

shift_is : (i c : ℤ) → shift_in_range i c ≡ in_range (shifted i c)
shift_is i (pos c) = raised_is (nat_eq (unsigned_abs i) 0) (nat_lt c 128) i c refl refl
shift_is i (negsuc c) = go (nat_lt c 127) refl (fits_128 i) refl
  where
    go : (short : Bool) → nat_lt c 127 ≡ short → (narrow : Bool) → fits_128 i ≡ narrow → lowered_by (short || not narrow) i (c + 1) ≡ in_range (int_shr i (c + 1))
    go true e narrow f = refl
    go false e true f = lowered_is false i c f e
    go false e false f = refl

pub is_at_once : IsAtOnce
is_at_once = record {
  power = λ b n. power_is (nat_lt (unsigned_abs b) 2) (nat_lt n 128) b n refl refl;
  shift = shift_is;
  update = λ n o l m. omega (arith, m, updated_weight n o l);
}
