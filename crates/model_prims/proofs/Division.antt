-- The quotients by way of the one whose remainder is not negative.
use Rattle.std.specs.Prelude.{◌≡◌, ◌≢◌, ℕ, zero, suc, ◌+◌, ◌-◌, ◌*◌, ◌/◌, ◌%◌, ◌<◌, ℤ, pos, negsuc, ◌+ℤ◌, ◌-ℤ◌, ◌*ℤ◌, neg_ℤ, refl}
use Rattle.std.proofs.Common.{arith, ap, ◌∙◌}
use Rattle.std.proofs.lemmas.Int.{ints}
use Rattle.std.proofs.lemmas.Nat.{div-mul-add, div-add-mod', mod_below}
use Rattle.std.specs.Int.{int_div_euclid, int_rem_euclid}
use Rattle.std.proofs.Math.Nat.{mul_comm}
use lib.IntN.{pred_ℤ, pred_ℤ-*ℤ, *ℤ_comm}
use Rattle.model_prims.specs.Numbers.{floor_of, mod_of}

pub quotient_is : (n m q r : ℕ) → r < m → n ≡ q * m + r → n / m ≡ q
quotient_is n m q r l e = rw e (div-mul-add q m r l)

pub floor-above : (i : ℤ) (b : ℕ) → floor_of i (pos (suc b)) ≡ int_div_euclid i (pos (suc b))
floor-above (pos a) b = refl
floor-above (negsuc a) b = refl

next_mul : (q m : ℕ) → suc q * m ≡ q * m + m
next_mul q m = grind arith

pub floor-exact : (i : ℤ) (b : ℕ) → int_rem_euclid i (negsuc b) ≡ pos 0 → floor_of i (negsuc b) ≡ int_div_euclid i (negsuc b)
floor-exact (pos a) b h =
    let none : a % suc b ≡ 0 = cc in
    ap (λ n. neg_ℤ (pos n)) (quotient_is (a + b) (suc b) (a / suc b) b (omega arith) (omega (arith, div-add-mod' a (suc b), none)))
floor-exact (negsuc a) b h =
    let none : suc b - 1 - a % suc b ≡ 0 = cc in
    ap pos (quotient_is (suc a) (suc b) (suc (a / suc b)) 0 (omega arith) (omega (arith, div-add-mod' a (suc b), next_mul (a / suc b) (suc b), mod_below a (suc b) (omega arith), none)))

not_zero : {n : ℕ} → pos n ≢ pos 0 → 0 < n
not_zero {n = zero} h = absurd (h refl)
not_zero {n = suc n} h = omega arith

pub floor-between : (i : ℤ) (b : ℕ) → int_rem_euclid i (negsuc b) ≢ pos 0 → floor_of i (negsuc b) ≡ int_div_euclid i (negsuc b) -ℤ pos 1
floor-between (pos a) b h =
    let some : 0 < a % suc b = not_zero h in
    let next : (a + b) / suc b ≡ suc (a / suc b) = quotient_is (a + b) (suc b) (suc (a / suc b)) (a % suc b - 1) (omega (arith, mod_below a (suc b) (omega arith))) (omega (arith, div-add-mod' a (suc b), next_mul (a / suc b) (suc b), some)) in
    ap (λ n. neg_ℤ (pos n)) next ∙ omega (arith, ints)
floor-between (negsuc a) b h =
    let some : 0 < suc b - 1 - a % suc b = not_zero h in
    let same : suc a / suc b ≡ a / suc b = quotient_is (suc a) (suc b) (a / suc b) (suc (a % suc b)) (omega (arith, some)) (omega (arith, div-add-mod' a (suc b))) in
    ap pos same ∙ omega (arith, ints)

-- ---- remainders

turned : (b q : ℕ) → suc b * q ≡ q * suc b
turned b q = mul_comm (suc b) q

turned_next : (b q : ℕ) → suc b * suc q ≡ q * suc b + suc b
turned_next b q = turned b (suc q) ∙ next_mul q (suc b)

neg_mul : (b q : ℕ) → negsuc b *ℤ neg_ℤ (pos q) ≡ pos (suc b * q)
neg_mul b zero = grind arith
neg_mul b (suc q) = refl

pub euclid-above : (i : ℤ) (b : ℕ) → i ≡ (pos (suc b) *ℤ int_div_euclid i (pos (suc b))) +ℤ int_rem_euclid i (pos (suc b))
euclid-above (pos a) b = ap pos (omega (arith, turned b (a / suc b), div-add-mod' a (suc b)))
euclid-above (negsuc a) b = omega (arith, ints, turned_next b (a / suc b), div-add-mod' a (suc b), mod_below a (suc b) (omega arith))

pub euclid-below : (i : ℤ) (b : ℕ) → i ≡ (negsuc b *ℤ int_div_euclid i (negsuc b)) +ℤ int_rem_euclid i (negsuc b)
euclid-below (pos a) b = rw (neg_mul b (a / suc b)) (ap pos (omega (arith, turned b (a / suc b), div-add-mod' a (suc b))))
euclid-below (negsuc a) b = omega (arith, ints, turned_next b (a / suc b), div-add-mod' a (suc b), mod_below a (suc b) (omega arith))

left_over : (i p r : ℤ) → i ≡ p +ℤ r → i -ℤ p ≡ r
left_over i p r e = omega (arith, ints)

before : (z : ℤ) → z -ℤ pos 1 ≡ pred_ℤ z
before (pos zero) = refl
before (pos (suc n)) = omega (arith, ints)
before (negsuc n) = omega (arith, ints)

one_less : (j q : ℤ) → j *ℤ (q -ℤ pos 1) ≡ j *ℤ q -ℤ j
one_less j q =
    let pred : q -ℤ pos 1 ≡ pred_ℤ q = before q in
    ap (λ x. j *ℤ x) pred ∙ (*ℤ_comm j (pred_ℤ q) ∙ (pred_ℤ-*ℤ q j ∙ ap (λ x. x -ℤ j) (*ℤ_comm q j)))

pub mod-above : (i : ℤ) (b : ℕ) → mod_of i (pos (suc b)) ≡ int_rem_euclid i (pos (suc b))
mod-above i b =
    ap (λ q. i -ℤ pos (suc b) *ℤ q) (floor-above i b)
    ∙ left_over i (pos (suc b) *ℤ int_div_euclid i (pos (suc b))) (int_rem_euclid i (pos (suc b))) (euclid-above i b)

pub mod-exact : (i : ℤ) (b : ℕ) → int_rem_euclid i (negsuc b) ≡ pos 0 → mod_of i (negsuc b) ≡ int_rem_euclid i (negsuc b)
mod-exact i b h =
    ap (λ q. i -ℤ negsuc b *ℤ q) (floor-exact i b h)
    ∙ left_over i (negsuc b *ℤ int_div_euclid i (negsuc b)) (int_rem_euclid i (negsuc b)) (euclid-below i b)

over_less : (i p r j : ℤ) → i ≡ p +ℤ r → i -ℤ (p -ℤ j) ≡ r +ℤ j
over_less i p r j e = omega (arith, ints)

pub mod-between : (i : ℤ) (b : ℕ) → int_rem_euclid i (negsuc b) ≢ pos 0 → mod_of i (negsuc b) ≡ int_rem_euclid i (negsuc b) +ℤ negsuc b
mod-between i b h =
    ap (λ q. i -ℤ negsuc b *ℤ q) (floor-between i b h)
    ∙ (ap (λ p. i -ℤ p) (one_less (negsuc b) (int_div_euclid i (negsuc b)))
    ∙ over_less i (negsuc b *ℤ int_div_euclid i (negsuc b)) (int_rem_euclid i (negsuc b)) (negsuc b) (euclid-below i b))
