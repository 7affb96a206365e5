-- Two's complement in 128 bits.
use Rattle.std.specs.Prelude.{◌≡◌, ℕ, ◌-◌, ◌^◌, ◌<◌, ℤ, pos, negsuc, bit_and, bit_or, bit_xor, FitsSigned}
use Rattle.std.proofs.Common.{arith, ap, sym, ◌∙◌}
use Rattle.std.proofs.lemmas.Nat.{and_le_l, or_lt, xor_lt, or_disjoint, and_comm, or_comm, xor_comm}
use Rattle.std.proofs.lemmas.Int.{to_z_pos, to_z-of_z}
use lib.Signed.{mag}
use Rattle.std.proofs.lemmas.Nat.Bits.{bit_at_and, bit_at_or, bit_at_xor, bit_at_not, bit_at-lt, bit_at-zero, same_from_bits_below}
use Rattle.std.specs.Int.{w128, bit_not, bit_at, cast_signed, cast_unsigned}
use Rattle.model_prims.specs.Numbers.{logand, logior, logxor}

abbrev all : ℕ
all = 2 ^ 128

-- a number of 128 bits turned over
abbrev flip : ℕ → ℕ
flip n = bit_not w128 n

flip_bit : (n i : ℕ) → n < 2 ^ 127 → i < 128 → bit_at (flip n) i ≡ 1 - bit_at n i
flip_bit n i l m = bit_at_not w128 n i (omega arith) m

-- ---- what is kept where the other is turned over

without : (a b : ℕ) → a < 2 ^ 127 → b < 2 ^ 127 → bit_and a (flip b) ≡ a - bit_and a b
without a b la lb =
    let parted : bit_or (bit_and a b) (bit_and a (flip b)) ≡ a = same_from_bits_below 128 (bit_or (bit_and a b) (bit_and a (flip b))) a (or_lt 128 (bit_and a b) (bit_and a (flip b)) (omega (arith, and_le_l a b)) (omega (arith, and_le_l a (flip b)))) (omega arith)
    (λ i m. bit_at_or (bit_and a b) (bit_and a (flip b)) i ∙ rw (bit_at_and a b i, bit_at_and a (flip b) i, flip_bit b i lb m) (omega (arith, bit_at-lt a i, bit_at-lt b i))) in
    let apart : bit_and (bit_and a b) (bit_and a (flip b)) ≡ 0 = same_from_bits_below 128 (bit_and (bit_and a b) (bit_and a (flip b))) 0 (omega (arith, and_le_l (bit_and a b) (bit_and a (flip b)), and_le_l a b)) (omega arith)
    (λ i m. bit_at_and (bit_and a b) (bit_and a (flip b)) i ∙ rw (bit_at_and a b i, bit_at_and a (flip b) i, flip_bit b i lb m) (omega (arith, bit_at-lt a i, bit_at-lt b i, bit_at-zero i))) in
    omega (arith, parted, or_disjoint (bit_and a b) (bit_and a (flip b)) apart)

-- ---- two numbers of which both, or one, are turned over

and_flips : (a b : ℕ) → a < 2 ^ 127 → b < 2 ^ 127 → bit_and (flip a) (flip b) ≡ flip (bit_or a b)
and_flips a b la lb =
    same_from_bits_below 128 (bit_and (flip a) (flip b)) (flip (bit_or a b)) (omega (arith, and_le_l (flip a) (flip b))) (omega arith)
    (λ i m. bit_at_and (flip a) (flip b) i ∙ rw (flip_bit a i la m, flip_bit b i lb m, flip_bit (bit_or a b) i (or_lt 127 a b la lb) m, bit_at_or a b i) (omega (arith, bit_at-lt a i, bit_at-lt b i)))

or_flips : (a b : ℕ) → a < 2 ^ 127 → b < 2 ^ 127 → bit_or (flip a) (flip b) ≡ flip (bit_and a b)
or_flips a b la lb =
    same_from_bits_below 128 (bit_or (flip a) (flip b)) (flip (bit_and a b)) (or_lt 128 (flip a) (flip b) (omega arith) (omega arith)) (omega arith)
    (λ i m. bit_at_or (flip a) (flip b) i ∙ rw (flip_bit a i la m, flip_bit b i lb m, flip_bit (bit_and a b) i (omega (arith, and_le_l a b)) m, bit_at_and a b i) (omega (arith, bit_at-lt a i, bit_at-lt b i)))

or_flip : (a b : ℕ) → a < 2 ^ 127 → b < 2 ^ 127 → bit_or a (flip b) ≡ flip (b - bit_and b a)
or_flip a b la lb =
    let less : b - bit_and b a < 2 ^ 127 = omega arith in
    let kept : bit_and b (flip a) ≡ b - bit_and b a = without b a lb la in
    same_from_bits_below 128 (bit_or a (flip b)) (flip (b - bit_and b a)) (or_lt 128 a (flip b) (omega arith) (omega arith)) (omega arith)
    (λ i m. bit_at_or a (flip b) i ∙ (rw (flip_bit b i lb m, flip_bit (b - bit_and b a) i less m, sym kept, bit_at_and b (flip a) i, flip_bit a i la m) (omega (arith, bit_at-lt a i, bit_at-lt b i))))

xor_flips : (a b : ℕ) → a < 2 ^ 127 → b < 2 ^ 127 → bit_xor (flip a) (flip b) ≡ bit_xor a b
xor_flips a b la lb =
    same_from_bits_below 128 (bit_xor (flip a) (flip b)) (bit_xor a b) (xor_lt 128 (flip a) (flip b) (omega arith) (omega arith)) (xor_lt 128 a b (omega arith) (omega arith))
    (λ i m. bit_at_xor (flip a) (flip b) i ∙ rw (flip_bit a i la m, flip_bit b i lb m, bit_at_xor a b i) (omega (arith, bit_at-lt a i, bit_at-lt b i)))

xor_flip : (a b : ℕ) → a < 2 ^ 127 → b < 2 ^ 127 → bit_xor a (flip b) ≡ flip (bit_xor a b)
xor_flip a b la lb =
    same_from_bits_below 128 (bit_xor a (flip b)) (flip (bit_xor a b)) (xor_lt 128 a (flip b) (omega arith) (omega arith)) (omega arith)
    (λ i m. bit_at_xor a (flip b) i ∙ rw (flip_bit b i lb m, flip_bit (bit_xor a b) i (xor_lt 127 a b la lb) m, bit_at_xor a b i) (omega (arith, bit_at-lt a i, bit_at-lt b i)))

-- ---- signed numbers of 128 bits

turned_over : (n : ℕ) → n < 2 ^ 127 → cast_unsigned w128 (negsuc n) ≡ flip n
turned_over n l = omega arith

positive : (n : ℕ) → n < 2 ^ 127 → cast_signed w128 n ≡ pos n
positive n l = to_z_pos w128 n l

negative : (n : ℕ) → n < 2 ^ 127 → cast_signed w128 (flip n) ≡ negsuc n
negative n l = ap (cast_signed w128) (sym (turned_over n l)) ∙ to_z-of_z w128 (negsuc n) (record { sfits = l })

-- what an operation on the bits gives, whose bits are those of a number, or those turned over
gives_positive : (m n : ℕ) → m ≡ n → n < 2 ^ 127 → cast_signed w128 m ≡ pos n
gives_positive m n e l = ap (cast_signed w128) e ∙ positive n l

gives_negative : (m n : ℕ) → m ≡ flip n → n < 2 ^ 127 → cast_signed w128 m ≡ negsuc n
gives_negative m n e l = ap (cast_signed w128) e ∙ negative n l

bits_and : (x y : ℤ) → mag x < 2 ^ 127 → mag y < 2 ^ 127 → cast_signed w128 (bit_and (cast_unsigned w128 x) (cast_unsigned w128 y)) ≡ logand x y
bits_and (pos a) (pos b) f g = positive (bit_and a b) (omega (arith, and_le_l a b))
bits_and (pos a) (negsuc b) f g = gives_positive (bit_and a (cast_unsigned w128 (negsuc b))) (a - bit_and a b) (ap (bit_and a) (turned_over b g) ∙ without a b f g) (omega arith)
bits_and (negsuc a) (pos b) f g =
    gives_positive (bit_and (cast_unsigned w128 (negsuc a)) b) (b - bit_and a b) (ap (λ n. bit_and n b) (turned_over a f) ∙ (and_comm (flip a) b ∙ (without b a g f ∙ ap (λ n. b - n) (and_comm b a)))) (omega arith)
bits_and (negsuc a) (negsuc b) f g =
    gives_negative (bit_and (cast_unsigned w128 (negsuc a)) (cast_unsigned w128 (negsuc b))) (bit_or a b) (rw (turned_over a f, turned_over b g) (and_flips a b f g)) (or_lt 127 a b f g)

bits_or : (x y : ℤ) → mag x < 2 ^ 127 → mag y < 2 ^ 127 → cast_signed w128 (bit_or (cast_unsigned w128 x) (cast_unsigned w128 y)) ≡ logior x y
bits_or (pos a) (pos b) f g = positive (bit_or a b) (or_lt 127 a b f g)
bits_or (pos a) (negsuc b) f g =
    gives_negative (bit_or a (cast_unsigned w128 (negsuc b))) (b - bit_and a b) (ap (bit_or a) (turned_over b g) ∙ (or_flip a b f g ∙ ap (λ n. flip (b - n)) (and_comm b a))) (omega arith)
bits_or (negsuc a) (pos b) f g =
    gives_negative (bit_or (cast_unsigned w128 (negsuc a)) b) (a - bit_and a b) (ap (λ n. bit_or n b) (turned_over a f) ∙ (or_comm (flip a) b ∙ or_flip b a g f)) (omega arith)
bits_or (negsuc a) (negsuc b) f g =
    gives_negative (bit_or (cast_unsigned w128 (negsuc a)) (cast_unsigned w128 (negsuc b))) (bit_and a b) (rw (turned_over a f, turned_over b g) (or_flips a b f g)) (omega (arith, and_le_l a b))

bits_xor : (x y : ℤ) → mag x < 2 ^ 127 → mag y < 2 ^ 127 → cast_signed w128 (bit_xor (cast_unsigned w128 x) (cast_unsigned w128 y)) ≡ logxor x y
bits_xor (pos a) (pos b) f g = positive (bit_xor a b) (xor_lt 127 a b f g)
bits_xor (pos a) (negsuc b) f g = gives_negative (bit_xor a (cast_unsigned w128 (negsuc b))) (bit_xor a b) (ap (bit_xor a) (turned_over b g) ∙ xor_flip a b f g) (xor_lt 127 a b f g)
bits_xor (negsuc a) (pos b) f g =
    gives_negative (bit_xor (cast_unsigned w128 (negsuc a)) b) (bit_xor a b) (ap (λ n. bit_xor n b) (turned_over a f) ∙ (xor_comm (flip a) b ∙ (xor_flip b a g f ∙ ap flip (xor_comm b a)))) (xor_lt 127 a b f g)
bits_xor (negsuc a) (negsuc b) f g =
    gives_positive (bit_xor (cast_unsigned w128 (negsuc a)) (cast_unsigned w128 (negsuc b))) (bit_xor a b) (rw (turned_over a f, turned_over b g) (xor_flips a b f g)) (xor_lt 127 a b f g)

pub and_is : (x y : ℤ) → FitsSigned w128 x → FitsSigned w128 y → cast_signed w128 (bit_and (cast_unsigned w128 x) (cast_unsigned w128 y)) ≡ logand x y
and_is x y f g = bits_and x y f.sfits g.sfits

pub or_is : (x y : ℤ) → FitsSigned w128 x → FitsSigned w128 y → cast_signed w128 (bit_or (cast_unsigned w128 x) (cast_unsigned w128 y)) ≡ logior x y
or_is x y f g = bits_or x y f.sfits g.sfits

pub xor_is : (x y : ℤ) → FitsSigned w128 x → FitsSigned w128 y → cast_signed w128 (bit_xor (cast_unsigned w128 x) (cast_unsigned w128 y)) ≡ logxor x y
xor_is x y f g = bits_xor x y f.sfits g.sfits
