-- The text of an atom is a spelling of it.
use Rattle.std.specs.Prelude.{◌≡◌, ℕ, suc, ◌-◌, ◌<◌, ◌==◌, ◌^◌, List, [], ◌∷◌, ◌++◌, length, map, slice_index, Bool, true, false, ◌&&◌, ◌||◌, if◌then◌else◌, refl, is_some, Option, Some, None, ℤ, pos, negsuc, neg_ℤ}
use Rattle.std.specs.Char.{to_ascii_uppercase, is_ascii_digit, is_digit, digit_value}
use Rattle.std.specs.List.{list_all, list_any}
use Rattle.std.specs.Str.{bytes_eq}
use Rattle.std.specs.Fmt.{decimal, signed_decimal}
use Rattle.std.specs.Str.Parse.{IsNumeral, AllDigits, signed_digits_value, without_leading_sign, starts_with_minus}
use Rattle.std.proofs.Common.{sym, ap, ◌∙◌, arith, subst}
use Rattle.std.proofs.lemmas.Fmt.{decimal_is_IsNumeral_wide}
use Rattle.std.proofs.lemmas.List.{append_assoc, append-nil, map-append}
use Rattle.std.proofs.lemmas.Bool.{lt-ltb, ltb-true}
use Rattle.std.proofs.lemmas.Bool.Decides.{nat_tests}
use Rattle.std.proofs.lemmas.Slice.Eq.{bytes_eq-Decides}
use Rattle.model_objects.specs.Object.{fits_128}
use Rattle.model_symbols.specs.Symbols.{QualifiedName, Package, same_name, package_number, package_at, symbol_in}
use Rattle.model_symbols.specs.Opening.{keyword}
use Rattle.model_text.specs.Token.{Packages, is_empty, is_bar, Raised, Outside, letters, written, integer_of, signed_of, is_numeral, without_last_dot, is_ratio, is_float, are_dots, Number, Name, token_of, written_token, bare_token, numbered_token, ends_token, is_graphic}
use Rattle.model_text.specs.Text.{is_plain_byte, is_like_number, is_plain, escaped, name_text, symbol_text, is_at_home}
use Rattle.model_text.specs.Spelling.{IsToken, goes_on_as_token, begins_block, Quoted}
use Rattle.model_text.specs.Spelling as spelling
use Rattle.model_text_laws.specs.Laws.{packages_of, IsReadable}
use Rattle.model_text_laws.proofs.Names.{both, neither, any_append, part_letters, part_is, text_letters, text_token, written_plainly, written_keyword, written_within, good, plain_parts}
use Rattle.model_text_laws.proofs.Colons.{has_colon, begins_with, colon_no_number}

and_false : (b : Bool) → (b && false) ≡ false
and_false true = refl
and_false false = refl

-- ---- tokens that are symbols

not_some : (o : Option ℤ) → is_some o ≡ false → o ≡ None
not_some None h = refl
not_some (Some n) h = cc

not_dot : (bs : List ℕ) → are_dots bs ≡ false → bytes_eq bs (46 ∷ []) ≡ false
not_dot [] h = refl
not_dot (b ∷ []) h = go (b == 46) refl where
  go : (x : Bool) → (b == 46) ≡ x → (x && true) ≡ false
  go true e = rw e at h
  go false e = refl
not_dot (b ∷ c ∷ bs) h = and_false (b == 46)

bare_is : (k : Packages) (bs : List ℕ) → is_like_number bs ≡ false → bare_token k bs (integer_of bs) ≡ written_token k (written (letters Outside bs))
bare_is k bs h =
    let q = neither (is_some (integer_of bs)) (is_ratio bs || (is_float bs || are_dots bs)) h in
    let r = neither (is_ratio bs) (is_float bs || are_dots bs) q.1 in
    let s = neither (is_float bs) (are_dots bs) r.1 in
    rw (not_some (integer_of bs) q.0, not_dot bs s.1, r.0, s.0, s.1) refl

-- a token that would be no number is what its letters say
token_by_letters : (k : Packages) (bs : List ℕ) → (list_any is_bar bs ≡ false → (map to_ascii_uppercase bs ≡ bs) × (is_like_number bs ≡ false))
    → token_of k bs ≡ written_token k (written (letters Outside bs))
unfolding token_of
token_by_letters k bs h = go (list_any is_bar bs) refl where
  go : (x : Bool) → list_any is_bar bs ≡ x
      → (if x then written_token k (written (letters Outside bs)) else bare_token k (map to_ascii_uppercase bs) (integer_of (map to_ascii_uppercase bs))) ≡ written_token k (written (letters Outside bs))
  go true e = refl
  go false e = let q = h e in ap (λ (x : List ℕ). bare_token k x (integer_of x)) q.0 ∙ bare_is k bs q.1

-- ---- printed names

plain_up : (n : List ℕ) → list_all is_plain_byte n ≡ true → map to_ascii_uppercase n ≡ n
plain_up [] h = refl
plain_up (b ∷ n) h =
    let q = both (is_plain_byte b) (list_all is_plain_byte n) h in
    rw ((good b q.0).raised, plain_up n q.1) refl

barless : (n : List ℕ) → list_any is_bar (name_text n) ≡ false → is_plain n ≡ true
barless n h = go (is_plain n) refl where
  go : (x : Bool) → is_plain n ≡ x → is_plain n ≡ true
  go true e = e
  go false e = let q : list_any is_bar (name_text n) ≡ true = rw e refl in cc

text_up : (n : List ℕ) → list_any is_bar (name_text n) ≡ false → map to_ascii_uppercase (name_text n) ≡ name_text n
text_up n h = let p = barless n h in rw p (plain_up n (plain_parts n p).1)

text_no_number : (n : List ℕ) → list_any is_bar (name_text n) ≡ false → is_like_number (name_text n) ≡ false
text_no_number n h = let p = barless n h in rw p (plain_parts n p).2

letters_alone : (n : List ℕ) → letters Outside (name_text n) ≡ part_letters n
letters_alone n = ap (letters Outside) (sym (append-nil (name_text n))) ∙ (text_letters n [] ∙ append-nil (part_letters n))

token_alone : (n : List ℕ) → goes_on_as_token Outside (name_text n) ≡ true
token_alone n = ap (goes_on_as_token Outside) (sym (append-nil (name_text n))) ∙ text_token n []

-- there is a first byte, and it is no `#`
record Starts (bs : List ℕ) : Type 0 where
  some : 0 < length bs
  hash : begins_with 35 bs ≡ false

starts : (n rest : List ℕ) → Starts (name_text n ++ rest)
starts n rest = go (is_plain n) refl where
  plain : (m : List ℕ) → is_empty m ≡ false → list_all is_plain_byte m ≡ true → Starts (m ++ rest)
  plain [] e h = cc
  plain (b ∷ m) e h = record { some = omega arith; hash = (good b (both (is_plain_byte b) (list_all is_plain_byte m) h).0).hash }

  go : (x : Bool) → is_plain n ≡ x → Starts ((if x then n else 124 ∷ (escaped 124 n ++ 124 ∷ [])) ++ rest)
  go true e = let q = plain_parts n e in plain n q.0 q.1
  go false e = record { some = omega arith; hash = refl }

starts_alone : (n : List ℕ) → Starts (name_text n)
starts_alone n = subst Starts (append-nil (name_text n)) (starts n [])

no_block : (bs : List ℕ) → begins_with 35 bs ≡ false → begins_block bs ≡ false
no_block [] h = refl
no_block (b ∷ bs) h = rw h refl

-- ---- symbols

pub same_is : (s t : QualifiedName) → same_name s t ≡ true → s ≡ t
same_is s t h =
    let q = both (bytes_eq s.home t.home) (bytes_eq s.name t.name) h in
    let a : s.home ≡ t.home = (bytes_eq-Decides s.home t.home).0 q.0 in
    let b : s.name ≡ t.name = (bytes_eq-Decides s.name t.name).0 q.1 in
    ap (λ (x : List ℕ). record { home = x; name = s.name }) a ∙ ap (λ (x : List ℕ). record { home = t.home; name = x }) b

or_true : (b : Bool) → (b || true) ≡ true
or_true true = refl
or_true false = refl

-- the bytes are a token that is this symbol
abbrev Reads : Packages → List ℕ → QualifiedName → Type 0
Reads k bs s = IsToken bs × (token_of k bs ≡ Name s)

pub symbol_read : (all : List Package) (current : ℕ) (symbols : List QualifiedName) (s : QualifiedName) → IsReadable all symbols s
    → Reads (packages_of all current) (symbol_text (packages_of all current) s) s
symbol_read all current symbols s r = go (bytes_eq s.home keyword) (is_at_home k s) refl refl where
  k : Packages
  k = packages_of all current

  keyword_read : s.home ≡ keyword → Reads k (58 ∷ name_text s.name) s
  keyword_read e = (
    record { some = omega arith; whole = token_alone s.name; apart = refl },
    token_by_letters k (58 ∷ name_text s.name) (λ h. (ap (λ (x : List ℕ). 58 ∷ x) (text_up s.name h), colon_no_number (58 ∷ name_text s.name) refl refl))
        ∙ (ap (λ ls. written_token k (written (Raised 58 ∷ ls))) (letters_alone s.name)
        ∙ (ap (written_token k) (written_keyword s.name (part_letters s.name) (part_is s.name))
        ∙ (ap (λ n. numbered_token k n s.name) (ap (package_number all) (sym e) ∙ r.package_known) ∙ ap Name r.has))),
  )

  home_read : is_at_home k s ≡ true → Reads k (name_text s.name) s
  home_read e =
      let x = starts_alone s.name in (
        record { some = x.some; whole = token_alone s.name; apart = no_block (name_text s.name) x.hash },
        token_by_letters k (name_text s.name) (λ h. (text_up s.name h, text_no_number s.name h))
            ∙ (ap (λ ls. written_token k (written ls)) (letters_alone s.name)
            ∙ (ap (written_token k) (written_plainly s.name (part_letters s.name) (part_is s.name))
            ∙ ap Name (same_is (symbol_in (package_at all current) s.name) s e))),
      )

  within_read : Reads k (name_text s.home ++ 58 ∷ 58 ∷ name_text s.name) s
  within_read =
      let more = 58 ∷ 58 ∷ name_text s.name in
      let all_bytes = name_text s.home ++ more in
      let x = starts s.home more in
      let colons : has_colon all_bytes ≡ true = any_append (λ b. b == 58) (name_text s.home) more ∙ or_true (has_colon (name_text s.home)) in (
        record { some = x.some; whole = text_token s.home more ∙ token_alone s.name; apart = no_block all_bytes x.hash },
        token_by_letters k all_bytes
            (λ h. let q = neither (list_any is_bar (name_text s.home)) (list_any is_bar more) (sym (any_append is_bar (name_text s.home) more) ∙ h) in (
              map-append to_ascii_uppercase (name_text s.home) more ∙ (rw (text_up s.home q.0, text_up s.name q.1) refl),
              colon_no_number all_bytes colons x.hash,
            ))
            ∙ (ap (λ ls. written_token k (written ls)) (text_letters s.home more ∙ ap (λ ls. part_letters s.home ++ Raised 58 ∷ Raised 58 ∷ ls) (letters_alone s.name))
            ∙ (ap (written_token k) (written_within s.home s.name (part_letters s.home) (part_letters s.name) (part_is s.home) (part_is s.name))
            ∙ (ap (λ (b : Bool). numbered_token k (if b then None else package_number all s.home) s.name) r.nameable
            ∙ (ap (λ n. numbered_token k n s.name) r.package_known ∙ ap Name r.has)))),
      )

  go : (x y : Bool) → bytes_eq s.home keyword ≡ x → is_at_home k s ≡ y
      → Reads k ((if x then 58 ∷ [] else (if y then [] else name_text s.home ++ 58 ∷ 58 ∷ [])) ++ name_text s.name) s
  go true y e f = keyword_read ((bytes_eq-Decides s.home keyword).0 e)
  go false true e f = home_read f
  go false false e f = subst (λ (bs : List ℕ). Reads k bs s) (sym (append_assoc (name_text s.home) (58 ∷ 58 ∷ []) (name_text s.name))) within_read

-- ---- integers

digit_is : (b : ℕ) → digit_value b < 10 → is_ascii_digit b ≡ true
digit_is b h = grind (arith, nat_tests)

-- a byte of a printed integer
abbrev is_integer_byte : ℕ → Bool
is_integer_byte b = is_ascii_digit b || (b == 45)

digits_test : (ds : List ℕ) → AllDigits 10 ds → list_all (λ b. is_digit b 10) ds ≡ true
digits_test [] h = refl
digits_test (b ∷ bs) h = rw (lt-ltb (digit_value b) 10 h.0, digits_test bs h.1) refl

digits_bytes : (ds : List ℕ) → AllDigits 10 ds → list_all is_integer_byte ds ≡ true
digits_bytes [] h = refl
digits_bytes (b ∷ bs) h = rw (digit_is b h.0, digits_bytes bs h.1) refl

record IsIntegerByte (b : ℕ) : Type 0 where
  bar : is_bar b ≡ false
  stays : ends_token b ≡ false
  graphic : is_graphic b ≡ true
  raised : to_ascii_uppercase b ≡ b
  dot : (b == 46) ≡ false
  hash : (b == 35) ≡ false

integer_byte : (b : ℕ) → is_integer_byte b ≡ true → IsIntegerByte b
integer_byte b h = record {
  bar = grind (arith, nat_tests);
  stays = grind (arith, nat_tests);
  graphic = grind (arith, nat_tests);
  raised = grind (arith, nat_tests);
  dot = grind (arith, nat_tests);
  hash = grind (arith, nat_tests);
}

record IsIntegerText (bs : List ℕ) : Type 0 where
  bar : list_any is_bar bs ≡ false
  token : goes_on_as_token Outside bs ≡ true
  raised : map to_ascii_uppercase bs ≡ bs

integer_text : (bs : List ℕ) → list_all is_integer_byte bs ≡ true → IsIntegerText bs
integer_text [] h = record { bar = refl; token = refl; raised = refl }
integer_text (b ∷ bs) h =
    let q = both (is_integer_byte b) (list_all is_integer_byte bs) h in
    let x = integer_byte b q.0 in
    let i = integer_text bs q.1 in
    record { bar = rw (x.bar, i.bar) refl; token = rw (x.bar, x.stays, x.graphic, i.token) refl; raised = rw (x.raised, i.raised) refl }

last_no_dot : (bs : List ℕ) → list_all is_integer_byte bs ≡ true → (slice_index bs (length bs - 1) == 46) ≡ false
last_no_dot [] h = refl
last_no_dot (b ∷ []) h = (integer_byte b (both (is_integer_byte b) true h).0).dot
last_no_dot (b ∷ c ∷ cs) h =
    let q = both (is_integer_byte b) (list_all is_integer_byte (c ∷ cs)) h in
    let z : length (b ∷ c ∷ cs) - 1 ≡ suc (length cs) = omega arith in
    let y : length (c ∷ cs) - 1 ≡ length cs = omega arith in
    ap (λ n. slice_index (b ∷ c ∷ cs) n == 46) z ∙ (ap (λ n. slice_index (c ∷ cs) n == 46) (sym y) ∙ last_no_dot (c ∷ cs) q.1)

undotted_same : (bs : List ℕ) → list_all is_integer_byte bs ≡ true → without_last_dot bs ≡ bs
undotted_same bs h = rw (last_no_dot bs h) refl

integer_is : (bs : List ℕ) (z : ℤ) → list_all is_integer_byte bs ≡ true → is_numeral 10 (without_leading_sign bs) ≡ true → signed_digits_value 10 bs ≡ z → integer_of bs ≡ Some z
integer_is [] z h n v = cc
integer_is (b ∷ bs) z h n v =
    let x = integer_byte b (both (is_integer_byte b) (list_all is_integer_byte bs) h).0 in
    rw x.hash (ap (signed_of 10) (undotted_same (b ∷ bs) h)
    ∙ (ap (λ t. if t then Some (signed_digits_value 10 (b ∷ bs)) else None) n ∙ ap Some v))

integer_token : (k : Packages) (bs : List ℕ) (z : ℤ) → list_all is_integer_byte bs ≡ true → 0 < length bs → is_numeral 10 (without_leading_sign bs) ≡ true → signed_digits_value 10 bs ≡ z → fits_128 z ≡ true
    → IsToken bs × (token_of k bs ≡ Number z)
unfolding token_of
integer_token k bs z h l n v f =
    let t = integer_text bs h in (
      record { some = l; whole = t.token; apart = no_block bs (no_hash bs h) },
      rw t.bar (ap (λ (x : List ℕ). bare_token k x (integer_of x)) t.raised ∙ (ap (bare_token k bs) (integer_is bs z h n v) ∙ (rw f refl))),
    ) where
      no_hash : (cs : List ℕ) → list_all is_integer_byte cs ≡ true → begins_with 35 cs ≡ false
      no_hash [] h = refl
      no_hash (c ∷ cs) h = (integer_byte c (both (is_integer_byte c) (list_all is_integer_byte cs) h).0).hash

unsigned_is : (bs : List ℕ) → IsNumeral 10 bs → without_leading_sign bs ≡ bs
unsigned_is [] h = absurd (omega (arith, h.0))
unsigned_is (b ∷ bs) h = let d = digit_is b h.1.0 in grind (arith, nat_tests)

no_minus : (ds : List ℕ) → IsNumeral 10 ds → starts_with_minus ds ≡ false
no_minus [] h = absurd (omega (arith, h.0))
no_minus (b ∷ bs) h = let d = digit_is b h.1.0 in grind (arith, nat_tests)

numeral_test : (ds : List ℕ) → IsNumeral 10 ds → is_numeral 10 ds ≡ true
numeral_test ds h = let e : is_empty ds ≡ false = grind (arith, nat_tests) in rw (e, digits_test ds h.1) refl

pub integer_read : (k : Packages) (z : ℤ) → fits_128 z ≡ true → IsToken (signed_decimal z) × (token_of k (signed_decimal z) ≡ Number z)
integer_read k (pos n) f =
    let l : n < 2 ^ 127 = ltb-true n (2 ^ 127) f in
    let small : n < 10 ^ 64 = omega (arith, l) in
    let num = decimal_is_IsNumeral_wide n small in
    let ds = decimal n in
    let u = unsigned_is ds num.0 in
    let t : is_numeral 10 (without_leading_sign ds) ≡ true = rw u (numeral_test ds num.0) in
    let v : signed_digits_value 10 ds ≡ pos n = rw (u, no_minus ds num.0) (ap pos num.1) in
    integer_token k ds (pos n) (digits_bytes ds num.0.1) num.0.0 t v f
integer_read k (negsuc n) f =
    let l : n < 2 ^ 127 = ltb-true n (2 ^ 127) f in
    let small : suc n < 10 ^ 64 = omega (arith, l) in
    let num = decimal_is_IsNumeral_wide (suc n) small in
    let ds = decimal (suc n) in
    let t : is_numeral 10 ds ≡ true = numeral_test ds num.0 in
    let v : signed_digits_value 10 (45 ∷ ds) ≡ negsuc n = ap (λ m. neg_ℤ (pos m)) num.1 in
    integer_token k (45 ∷ ds) (negsuc n) (digits_bytes ds num.0.1) (omega arith) t v f

-- ---- strings

pub string_quoted : (bytes : List ℕ) → Quoted (escaped 34 bytes ++ 34 ∷ []) bytes
string_quoted [] = spelling.end
string_quoted (b ∷ bytes) = go (b == 34) (b == 92) refl refl (string_quoted bytes) where
  go : (x y : Bool) → (b == 34) ≡ x → (b == 92) ≡ y → Quoted (escaped 34 bytes ++ 34 ∷ []) bytes
      → Quoted ((if x || y then 92 ∷ b ∷ escaped 34 bytes else b ∷ escaped 34 bytes) ++ 34 ∷ []) (b ∷ bytes)
  go true y e f q = spelling.escape b (escaped 34 bytes ++ 34 ∷ []) bytes q
  go false true e f q = spelling.escape b (escaped 34 bytes ++ 34 ∷ []) bytes q
  go false false e f q = spelling.byte b (escaped 34 bytes ++ 34 ∷ []) bytes e f q
