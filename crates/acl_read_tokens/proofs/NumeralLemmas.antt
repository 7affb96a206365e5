-- What is known of a numeral.
use Rattle.std.specs.Prelude.{◌≡◌, ℕ, ◌<◌, ◌≤◌, List, [], ◌∷◌, length, Bool, true, false, not, ◌&&◌, ◌⊎◌, ℤ, pos, negsuc, refl, Some, FitsSigned}
use Rattle.std.proofs.Common.{subst, arith, inl, inr}
use Rattle.std.specs.Int.{w128}
use Rattle.std.proofs.lemmas.Bool.Decides.{nat_tests}
use Rattle.std.specs.Char.{is_digit, digit_value}
use Rattle.std.specs.List.{list_all}
use Rattle.std.specs.Str.{IsAscii}
use Rattle.std.specs.Str.Parse.{AllDigits, IsNumeral, without_leading_sign, signed_digits_value}
use Rattle.std.proofs.lemmas.Str.Ascii.{IsAscii-nil, IsAscii-cons}
use Rattle.model_objects.specs.Object.{fits_128}
use Rattle.model_text.specs.Token.{is_empty, is_numeral, signed_of}

digit_ascii : (base b : ℕ) → base ≤ 36 → is_digit b base ≡ true → b < 128
digit_ascii base b l h = grind (arith, nat_tests)

digit_low : (base b : ℕ) → is_digit b base ≡ true → digit_value b < base
digit_low base b h = grind (arith, nat_tests)

both : (s t : Bool) → (s && t) ≡ true → (s ≡ true) × (t ≡ true)
both true t h = (refl, h)
both false t h = cc

digits_ascii : (base : ℕ) (bs : List ℕ) → base ≤ 36 → list_all (λ b. is_digit b base) bs ≡ true → IsAscii bs
digits_ascii base [] l h = IsAscii-nil
digits_ascii base (b ∷ bs) l h =
    let p = both (is_digit b base) (list_all (λ c. is_digit c base) bs) h in
    IsAscii-cons b bs (digit_ascii base b l p.0) (digits_ascii base bs l p.1)

digits_all : (base : ℕ) (bs : List ℕ) → list_all (λ b. is_digit b base) bs ≡ true → AllDigits base bs
digits_all base [] h = tt
digits_all base (b ∷ bs) h = let p = both (is_digit b base) (list_all (λ c. is_digit c base) bs) h in (digit_low base b p.0, digits_all base bs p.1)

-- without its sign a numeral is what follows its first byte, or itself
signed : (b : ℕ) (bs : List ℕ) → ((without_leading_sign (b ∷ bs) ≡ bs) × (b < 128)) ⊎ (without_leading_sign (b ∷ bs) ≡ b ∷ bs)
signed b bs = grind (arith, nat_tests)

long : (bs : List ℕ) → not (is_empty bs) ≡ true → 0 < length bs
long [] h = cc
long (b ∷ bs) h = omega arith

numeral_is : (base : ℕ) (bs : List ℕ) → is_numeral base bs ≡ true → IsNumeral base bs
numeral_is base bs h =
    let p = both (not (is_empty bs)) (list_all (λ b. is_digit b base) bs) h in
    (long bs p.0, digits_all base bs p.1)

pub signed_ascii : (base : ℕ) (bs : List ℕ) → base ≤ 36 → is_numeral base (without_leading_sign bs) ≡ true → IsAscii bs
signed_ascii base [] l h = IsAscii-nil
signed_ascii base (b ∷ bs) l h =
    let p = both (not (is_empty (without_leading_sign (b ∷ bs)))) (list_all (λ c. is_digit c base) (without_leading_sign (b ∷ bs))) h in
    elim (signed b bs) [
      | inl s ↦ IsAscii-cons b bs s.1 (digits_ascii base bs l (subst (λ t. list_all (λ c. is_digit c base) t ≡ true) s.0 p.1))
      | inr s ↦ digits_ascii base (b ∷ bs) l (subst (λ t. list_all (λ c. is_digit c base) t ≡ true) s p.1)
    ]

fits_is : (z : ℤ) → fits_128 z ≡ true → FitsSigned w128 z
fits_is (pos n) h = record { sfits = grind (arith, nat_tests) }
fits_is (negsuc n) h = record { sfits = grind (arith, nat_tests) }

pub is_fit : (z : ℤ) → FitsSigned w128 z → fits_128 z ≡ true
is_fit (pos n) h = let l = h.sfits in grind (arith, nat_tests)
is_fit (negsuc n) h = let l = h.sfits in grind (arith, nat_tests)

too_wide : (z : ℤ) → (FitsSigned w128 z → ⊥) → fits_128 z ≡ false
too_wide z n = wide (fits_128 z) refl where
  wide : (b : Bool) → fits_128 z ≡ b → fits_128 z ≡ false
  wide true e = absurd (n (fits_is z e))
  wide false e = e

pub signed_some : (base : ℕ) (bs : List ℕ) → is_numeral base (without_leading_sign bs) ≡ true → signed_of base bs ≡ Some (signed_digits_value base bs)
signed_some base bs h = rw h refl

pub wide_value : (base : ℕ) (bs text : List ℕ) → is_numeral base (without_leading_sign bs) ≡ true → text ≡ bs
    → (IsNumeral base (without_leading_sign text) × FitsSigned w128 (signed_digits_value base text) → ⊥) → fits_128 (signed_digits_value base bs) ≡ false
wide_value base bs text h e n =
    let P : List ℕ → Type 0 = λ t. IsNumeral base (without_leading_sign t) × FitsSigned w128 (signed_digits_value base t) → ⊥ in
    let m = subst P e n in
    too_wide (signed_digits_value base bs) (λ f. m (numeral_is base (without_leading_sign bs) h, f))
