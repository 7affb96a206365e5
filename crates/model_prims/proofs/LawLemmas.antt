-- The laws of division, shifts and bits.
use Rattle.std.specs.Prelude.{◌≡◌, ◌≢◌, ℕ, zero, suc, ◌-◌, ◌*◌, ◌/◌, ◌%◌, ◌^◌, ◌<◌, ℤ, pos, negsuc, ◌+ℤ◌, ◌-ℤ◌, ◌*ℤ◌, neg_ℤ, unsigned_abs, int_div, int_rem, true, refl}
use Rattle.std.proofs.Common.{arith, ap, sym, ◌∙◌, subst}
use Rattle.std.proofs.lemmas.Int.{ints, quot-rem}
use Rattle.std.proofs.lemmas.Nat.{mod_below, pow_pos}
use Rattle.std.specs.Int.{int_rem_euclid}
use lib.IntN.{*ℤ_comm}
use lib.Signed.{shr_z}
use Rattle.std.proofs.Common.{add-one}
use Rattle.model_prims.specs.Kinds.{by_number, same_object}
use Rattle.model_prims.specs.Numbers.{floor_of, truncate_of, mod_of, rem_of, shifted, lognot}
use Rattle.model_prims.specs.Laws.{IsBelow, IsDivision, IsShift, IsBitwise, IsEquality}
use Rattle.model_prims.proofs.Division.{mod-above, mod-exact, mod-between}
use Rattle.model_prims.proofs.Bits.{and_is, or_is, xor_is}
use Rattle.model_prims.proofs.Same.{same_itself, same_tells}

pub is_equality : IsEquality
is_equality = record { decides = λ x y. (same_tells x y, λ e. subst (λ o. same_object by_number x o ≡ true) e (same_itself x)) }

with_rest : (i p : ℤ) → i ≡ p +ℤ (i -ℤ p)
with_rest i p = omega (arith, ints)

-- ---- the remainder of a quotient that is rounded down

below_above : (i : ℤ) (b : ℕ) → IsBelow (pos (suc b)) (suc b) (int_rem_euclid i (pos (suc b)))
below_above (pos a) b = (a % suc b, mod_below a (suc b) (omega arith), refl)
below_above (negsuc a) b = (suc b - 1 - a % suc b, omega arith, refl)

-- what is left of a remainder that is not negative, once a divisor below 0 is added
turned_rest : (b n : ℕ) → 0 < n → n < suc b → IsBelow (negsuc b) (suc b) (pos n +ℤ negsuc b)
turned_rest b n l m = (suc b - n, omega arith, omega (arith, ints))

not_both : (n : ℕ) → pos (suc n) ≡ pos 0 → ⊥
not_both n e = cc

below_below : (i : ℤ) (b n : ℕ) → n < suc b → int_rem_euclid i (negsuc b) ≡ pos n → IsBelow (negsuc b) (suc b) (mod_of i (negsuc b))
below_below i b zero l e = (0, omega arith, mod-exact i b e ∙ e)
below_below i b (suc n) l e =
    let turned : IsBelow (negsuc b) (suc b) (pos (suc n) +ℤ negsuc b) = turned_rest b (suc n) (omega arith) l in
    (turned.0, turned.1, mod-between i b (λ z. not_both n (sym e ∙ z)) ∙ (ap (λ r. r +ℤ negsuc b) e ∙ turned.2))

modulus_below : (i j : ℤ) → j ≢ pos 0 → IsBelow j (unsigned_abs j) (mod_of i j)
modulus_below i (pos zero) n = absurd (n refl)
modulus_below i (pos (suc b)) n =
    let r : IsBelow (pos (suc b)) (suc b) (int_rem_euclid i (pos (suc b))) = below_above i b in
    (r.0, r.1, mod-above i b ∙ r.2)
modulus_below (pos a) (negsuc b) n = below_below (pos a) b (a % suc b) (mod_below a (suc b) (omega arith)) refl
modulus_below (negsuc a) (negsuc b) n = below_below (negsuc a) b (suc b - 1 - a % suc b) (omega arith) refl

-- ---- the remainder of a quotient that is rounded to 0

over : (i p r : ℤ) → p +ℤ r ≡ i → i -ℤ p ≡ r
over i p r e = omega (arith, ints)

left : (i q j r : ℤ) → q *ℤ j +ℤ r ≡ i → i -ℤ j *ℤ q ≡ r
left i q j r e = ap (λ p. i -ℤ p) (*ℤ_comm j q) ∙ over i (q *ℤ j) r e

rem_is : (i j : ℤ) → j ≢ pos 0 → rem_of i j ≡ int_rem i j
rem_is i (pos zero) n = absurd (n refl)
rem_is i (pos (suc b)) n = left i (int_div i (pos (suc b))) (pos (suc b)) (int_rem i (pos (suc b))) (quot-rem i (pos (suc b)))
rem_is i (negsuc b) n = left i (int_div i (negsuc b)) (negsuc b) (int_rem i (negsuc b)) (quot-rem i (negsuc b))

some_size : (j : ℤ) → j ≢ pos 0 → 0 < unsigned_abs j
some_size (pos zero) n = absurd (n refl)
some_size (pos (suc b)) n = omega arith
some_size (negsuc b) n = omega arith

remainder_below : (i j : ℤ) → j ≢ pos 0 → IsBelow i (unsigned_abs j) (rem_of i j)
remainder_below (pos a) j n = (a % unsigned_abs j, mod_below a (unsigned_abs j) (some_size j n), rem_is (pos a) j n)
remainder_below (negsuc a) j n = (suc a % unsigned_abs j, mod_below (suc a) (unsigned_abs j) (some_size j n), rem_is (negsuc a) j n)

pub is_division : IsDivision
is_division = record {
  floor = λ i j. with_rest i (j *ℤ floor_of i j);
  modulus = modulus_below;
  truncate = λ i j. with_rest i (j *ℤ truncate_of i j);
  remainder = remainder_below;
}

-- ---- shifts and bits

floor_by : (i : ℤ) (m : ℕ) → 0 < m → floor_of i (pos m) ≡ shr_z i m
floor_by i zero l = absurd (omega arith)
floor_by (pos a) (suc b) l = refl
floor_by (negsuc a) (suc b) l = refl

by_one : (i : ℤ) → shifted i (pos 0) ≡ shr_z i 1
by_one (pos a) =
    let same : a * 1 ≡ a / 1 = omega arith in
    ap pos same
by_one (negsuc a) =
    let same : suc a * 1 ≡ suc (a / 1) = omega arith in
    ap (λ n. neg_ℤ (pos n)) same

lowered : (i : ℤ) (c : ℕ) → shifted i (neg_ℤ (pos c)) ≡ floor_of i (pos (2 ^ c))
lowered i zero = by_one i ∙ sym (floor_by i (2 ^ 0) (pow_pos 0))
lowered i (suc n) = ap (λ k. shr_z i (2 ^ k)) (add-one n) ∙ sym (floor_by i (2 ^ suc n) (pow_pos (suc n)))

pub is_shift : IsShift
is_shift = record { up = λ i c. refl; down = lowered }

turned : (x : ℤ) → lognot x ≡ neg_ℤ x -ℤ pos 1
turned (pos n) = omega (arith, ints)
turned (negsuc n) = omega (arith, ints)

pub is_bitwise : IsBitwise
is_bitwise = record {
  turned = turned;
  both = λ a b. refl;
  either = λ a b. refl;
  one = λ a b. refl;
  narrow_both = and_is;
  narrow_either = or_is;
  narrow_one = xor_is;
}
