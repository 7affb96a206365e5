-- Bytes with a colon are no number.
use Rattle.std.specs.Prelude.{◌≡◌, ℕ, suc, ◌-◌, ◌==◌, List, [], ◌∷◌, length, take, drop, slice_index, Bool, true, false, ◌&&◌, ◌||◌, not, if◌then◌else◌, refl, Some, None, cond}
use Rattle.std.specs.Char.{is_ascii_digit, is_digit}
use Rattle.std.specs.List.{list_all, list_any}
use Rattle.std.specs.Str.Parse.{without_leading_sign, signed_digits_value}
use Rattle.std.proofs.Common.{sym, ap, ◌∙◌, arith, subst, inl, inr}
use Rattle.std.proofs.lemmas.Bool.{eqb-true}
use Rattle.std.proofs.lemmas.Bool.Decides.{nat_tests, eqb_tells}
use Rattle.model_text.specs.Token.{is_empty, is_numeral, without_last_dot, integer_of, begins_with_digit, after_digits, is_denominator, is_exponent, ends_float, are_dots}
use Rattle.model_text.specs.Text.{is_like_number}

abbrev pub has_colon : List ℕ → Bool
has_colon bs = list_any (λ b. b == 58) bs

and_false : (b : Bool) → (b && false) ≡ false
and_false true = refl
and_false false = refl

-- the colon is not the first byte
colon_later : (b c : ℕ) (bs : List ℕ) → (b == c) ≡ true → (c == 58) ≡ false → has_colon (b ∷ bs) ≡ true → has_colon bs ≡ true
colon_later b c bs e f h = let q : (b == 58) ≡ false = subst (λ (x : ℕ). (x == 58) ≡ false) (sym (eqb-true b c e)) f in (rw q at h)

no_digits : (base : ℕ) (bs : List ℕ) → is_digit 58 base ≡ false → has_colon bs ≡ true → list_all (λ b. is_digit b base) bs ≡ false
no_digits base [] d h = cc
no_digits base (b ∷ bs) d h = elim (eqb_tells b 58) [
  | inl e ↦ let q : is_digit b base ≡ false = subst (λ (x : ℕ). is_digit x base ≡ false) (sym e.1) d in rw q refl
  | inr e ↦ rw (no_digits base bs d (rw e.0 at h)) (and_false (is_digit b base))
]

no_numeral : (base : ℕ) (bs : List ℕ) → is_digit 58 base ≡ false → has_colon bs ≡ true → is_numeral base bs ≡ false
no_numeral base bs d h = rw (no_digits base bs d h) (and_false (not (is_empty bs)))

colon_signed : (bs : List ℕ) → has_colon bs ≡ true → has_colon (without_leading_sign bs) ≡ true
colon_signed [] h = cc
colon_signed (b ∷ bs) h = go (b == 45) (b == 43) refl refl where
  go : (x y : Bool) → (b == 45) ≡ x → (b == 43) ≡ y → has_colon (cond x (drop 1 (b ∷ bs)) (drop (cond y 1 0) (b ∷ bs))) ≡ true
  go true y e f = colon_later b 45 bs e refl h
  go false true e f = colon_later b 43 bs f refl h
  go false false e f = h

colon_digits : (bs : List ℕ) → has_colon bs ≡ true → has_colon (after_digits bs) ≡ true
colon_digits [] h = cc
colon_digits (b ∷ bs) h = go (is_ascii_digit b) refl (colon_digits bs) where
  go : (x : Bool) → is_ascii_digit b ≡ x → (has_colon bs ≡ true → has_colon (after_digits bs) ≡ true) → has_colon (if x then after_digits bs else b ∷ bs) ≡ true
  go true e i = let q : (b == 58) ≡ false = grind (arith, nat_tests) in i (rw q at h)
  go false e i = h

colon_last : (bs : List ℕ) → (slice_index bs (length bs - 1) == 46) ≡ true → has_colon bs ≡ true → has_colon (take (length bs - 1) bs) ≡ true
colon_last [] e h = cc
colon_last (b ∷ []) e h = colon_later b 46 [] e refl h
colon_last (b ∷ c ∷ cs) e h =
    let z : length (b ∷ c ∷ cs) - 1 ≡ suc (length cs) = omega arith in
    let y : length (c ∷ cs) - 1 ≡ length cs = omega arith in
    let e' : (slice_index (c ∷ cs) (length (c ∷ cs) - 1) == 46) ≡ true = ap (λ n. slice_index (c ∷ cs) n == 46) y ∙ (ap (λ n. slice_index (b ∷ c ∷ cs) n == 46) (sym z) ∙ e) in
    rw z (go (b == 58) refl (λ k. ap (λ n. has_colon (take n (c ∷ cs))) (sym y) ∙ colon_last (c ∷ cs) e' k)) where
      go : (x : Bool) → (b == 58) ≡ x → (has_colon (c ∷ cs) ≡ true → has_colon (take (length cs) (c ∷ cs)) ≡ true) → has_colon (b ∷ take (length cs) (c ∷ cs)) ≡ true
      go true q i = rw q refl
      go false q i = rw q (i (rw q at h))

colon_undotted : (bs : List ℕ) → has_colon bs ≡ true → has_colon (without_last_dot bs) ≡ true
colon_undotted bs h = go (slice_index bs (length bs - 1) == 46) refl where
  go : (x : Bool) → (slice_index bs (length bs - 1) == 46) ≡ x → has_colon (if x then take (length bs - 1) bs else bs) ≡ true
  go true e = colon_last bs e h
  go false e = h

no_exponent : (bs : List ℕ) → has_colon bs ≡ true → is_exponent bs ≡ false
no_exponent [] h = cc
no_exponent (b ∷ bs) h = go ((b == 69) || ((b == 83) || ((b == 70) || ((b == 68) || (b == 76))))) refl where
  go : (x : Bool) → ((b == 69) || ((b == 83) || ((b == 70) || ((b == 68) || (b == 76))))) ≡ x → (x && is_numeral 10 (without_leading_sign bs)) ≡ false
  go true e = let q : (b == 58) ≡ false = grind (arith, nat_tests) in no_numeral 10 (without_leading_sign bs) refl (colon_signed bs (rw q at h))
  go false e = refl

colon_some : (bs : List ℕ) → has_colon bs ≡ true → is_empty bs ≡ false
colon_some [] h = cc
colon_some (b ∷ bs) h = grind (arith, nat_tests)

no_float_end : (whole : Bool) (bs : List ℕ) → has_colon bs ≡ true → ends_float whole bs ≡ false
no_float_end whole [] h = cc
no_float_end whole (b ∷ bs) h = go (b == 46) refl where
  go : (x : Bool) → (b == 46) ≡ x
      → (if x then (begins_with_digit bs && is_empty (after_digits bs)) || ((whole || begins_with_digit bs) && is_exponent (after_digits bs)) else whole && is_exponent (b ∷ bs)) ≡ false
  go true e =
      let k = colon_digits bs (colon_later b 46 bs e refl h) in
      rw (colon_some (after_digits bs) k, no_exponent (after_digits bs) k, and_false (begins_with_digit bs), and_false (whole || begins_with_digit bs)) refl
  go false e = rw (no_exponent (b ∷ bs) h) (and_false whole)

no_denominator : (bs : List ℕ) → has_colon bs ≡ true → is_denominator bs ≡ false
no_denominator [] h = cc
no_denominator (b ∷ bs) h = go (b == 47) refl where
  go : (x : Bool) → (b == 47) ≡ x → (x && is_numeral 10 bs) ≡ false
  go true e = no_numeral 10 bs refl (colon_later b 47 bs e refl h)
  go false e = refl

no_dots : (bs : List ℕ) → has_colon bs ≡ true → are_dots bs ≡ false
no_dots [] h = cc
no_dots (b ∷ bs) h = go (b == 46) refl (no_dots bs) where
  go : (x : Bool) → (b == 46) ≡ x → (has_colon bs ≡ true → are_dots bs ≡ false) → (x && are_dots bs) ≡ false
  go true e i = i (colon_later b 46 bs e refl h)
  go false e i = refl

abbrev pub begins_with : ℕ → List ℕ → Bool
begins_with c [] = false
begins_with c (b ∷ bs) = b == c

no_integer : (bs : List ℕ) → has_colon bs ≡ true → begins_with 35 bs ≡ false → integer_of bs ≡ None
no_integer [] h e = refl
no_integer (b ∷ bs) h e =
    let n = no_numeral 10 (without_leading_sign (without_last_dot (b ∷ bs))) refl (colon_signed (without_last_dot (b ∷ bs)) (colon_undotted (b ∷ bs) h)) in
    rw e (ap (λ x. if x then Some (signed_digits_value 10 (without_last_dot (b ∷ bs))) else None) n)

-- a token with a colon is like no number
pub colon_no_number : (bs : List ℕ) → has_colon bs ≡ true → begins_with 35 bs ≡ false → is_like_number bs ≡ false
colon_no_number bs h e =
    let u = without_leading_sign bs in
    let k = colon_digits u (colon_signed bs h) in
    rw (no_integer bs h e, no_denominator (after_digits u) k, and_false (begins_with_digit u), no_float_end (begins_with_digit u) (after_digits u) k, no_dots bs h) refl
