-- The text of a name is read as that name.
use Rattle.std.specs.Prelude.{◌≡◌, ℕ, ◌==◌, List, [], ◌∷◌, ◌++◌, map, Bool, true, false, ◌&&◌, ◌||◌, not, if◌then◌else◌, refl, codes, ◌⊎◌}
use Rattle.std.specs.Char.{to_ascii_uppercase, is_ascii_digit, is_ascii_uppercase}
use Rattle.std.specs.List.{list_all, list_any}
use Rattle.std.proofs.Common.{ap, ◌∙◌, arith, subst, inl, inr}
use Rattle.std.proofs.lemmas.List.{append_assoc}
use Rattle.std.proofs.lemmas.Bool.{eqb-true}
use Rattle.std.proofs.lemmas.Bool.Decides.{nat_tests, eqb_tells}
use Rattle.model_text.specs.Token.{is_empty, is_bar, is_graphic, ends_token, Letter, Raised, Kept, Bar, Outside, Between, letters, name_of, is_raised, is_colon, before_colon, from_colon, begins_with_hash, behind_colon, is_part, written, Plainly, Within}
use Rattle.model_symbols.specs.Opening.{keyword}
use Rattle.model_text.specs.Text.{is_plain_byte, is_like_number, is_plain, escaped, name_text}
use Rattle.model_text.specs.Spelling.{goes_on_as_token}

pub both : (s t : Bool) → (s && t) ≡ true → (s ≡ true) × (t ≡ true)
both true t h = (refl, h)
both false t h = cc

pub either : (s t : Bool) → (s || t) ≡ true → (s ≡ true) ⊎ (t ≡ true)
either true t h = inl refl
either false t h = inr h

pub not_true : (x : Bool) → not x ≡ true → x ≡ false
not_true true h = cc
not_true false h = refl

pub neither : (s t : Bool) → (s || t) ≡ false → (s ≡ false) × (t ≡ false)
neither true t h = cc
neither false t h = (refl, h)

-- ---- plain bytes

-- a byte that stands for itself in a token
pub record IsGood (b : ℕ) : Type 0 where
  pub stays : ends_token b ≡ false
  pub graphic : is_graphic b ≡ true
  pub bar : is_bar b ≡ false
  pub colon : (b == 58) ≡ false
  pub backslash : (b == 92) ≡ false
  pub hash : (b == 35) ≡ false
  pub raised : to_ascii_uppercase b ≡ b

good_digit : (b : ℕ) → is_ascii_digit b ≡ true → IsGood b
good_digit b h = record {
  stays = grind (arith, nat_tests);
  graphic = grind (arith, nat_tests);
  bar = grind (arith, nat_tests);
  colon = grind (arith, nat_tests);
  backslash = grind (arith, nat_tests);
  hash = grind (arith, nat_tests);
  raised = grind (arith, nat_tests);
}

good_letter : (b : ℕ) → is_ascii_uppercase b ≡ true → IsGood b
good_letter b h = record {
  stays = grind (arith, nat_tests);
  graphic = grind (arith, nat_tests);
  bar = grind (arith, nat_tests);
  colon = grind (arith, nat_tests);
  backslash = grind (arith, nat_tests);
  hash = grind (arith, nat_tests);
  raised = grind (arith, nat_tests);
}

abbrev good_sign : ℕ → Bool
good_sign b = not (ends_token b) && (is_graphic b && (not (is_bar b) && (not (b == 58) && (not (b == 92) && (not (b == 35) && (to_ascii_uppercase b == b))))))

one_of : (xs : List ℕ) (b : ℕ) → list_any (λ c. c == b) xs ≡ true → list_all good_sign xs ≡ true → good_sign b ≡ true
one_of [] b h a = cc
one_of (x ∷ xs) b h a =
    let q = both (good_sign x) (list_all good_sign xs) a in
    elim (eqb_tells x b) [
      | inl e ↦ subst (λ (c : ℕ). good_sign c ≡ true) e.1 q.0
      | inr e ↦ one_of xs b (rw e.0 at h) q.1
    ]

good_by : (b : ℕ) → good_sign b ≡ true → IsGood b
good_by b h =
    let q0 = both (not (ends_token b)) (is_graphic b && (not (is_bar b) && (not (b == 58) && (not (b == 92) && (not (b == 35) && (to_ascii_uppercase b == b)))))) h in
    let q1 = both (is_graphic b) (not (is_bar b) && (not (b == 58) && (not (b == 92) && (not (b == 35) && (to_ascii_uppercase b == b))))) q0.1 in
    let q2 = both (not (is_bar b)) (not (b == 58) && (not (b == 92) && (not (b == 35) && (to_ascii_uppercase b == b)))) q1.1 in
    let q3 = both (not (b == 58)) (not (b == 92) && (not (b == 35) && (to_ascii_uppercase b == b))) q2.1 in
    let q4 = both (not (b == 92)) (not (b == 35) && (to_ascii_uppercase b == b)) q3.1 in
    let q5 = both (not (b == 35)) (to_ascii_uppercase b == b) q4.1 in
    record {
      stays = not_true (ends_token b) q0.0;
      graphic = q1.0;
      bar = not_true (is_bar b) q2.0;
      colon = not_true (b == 58) q3.0;
      backslash = not_true (b == 92) q4.0;
      hash = not_true (b == 35) q5.0;
      raised = eqb-true (to_ascii_uppercase b) b q5.1;
    }

pub good : (b : ℕ) → is_plain_byte b ≡ true → IsGood b
good b h = elim (either (is_ascii_uppercase b) (is_ascii_digit b || list_any (λ c. c == b) (codes "!$%&*+-./<=>?@[]^_{}~")) h) [
  | inl l ↦ good_letter b l
  | inr o ↦ elim (either (is_ascii_digit b) (list_any (λ c. c == b) (codes "!$%&*+-./<=>?@[]^_{}~")) o) [
    | inl d ↦ good_digit b d
    | inr s ↦ good_by b (one_of (codes "!$%&*+-./<=>?@[]^_{}~") b s refl)
  ]
]

-- ---- the letters of a printed name

-- what the text of a name gives, as letters
abbrev pub part_letters : List ℕ → List Letter
part_letters name = if is_plain name then map Raised name else Bar ∷ map Kept name

plain_letters : (n rest : List ℕ) → list_all is_plain_byte n ≡ true → letters Outside (n ++ rest) ≡ map Raised n ++ letters Outside rest
plain_letters [] rest h = refl
plain_letters (b ∷ n) rest h =
    let q = both (is_plain_byte b) (list_all is_plain_byte n) h in
    let g = good b q.0 in
    rw (g.bar, g.raised, plain_letters n rest q.1) refl

barred_letters : (n rest : List ℕ) → letters Between (escaped 124 n ++ 124 ∷ rest) ≡ map Kept n ++ letters Outside rest
barred_letters [] rest = refl
barred_letters (b ∷ n) rest = go (b == 124) (b == 92) refl refl (barred_letters n rest) where
  go : (x y : Bool) → (b == 124) ≡ x → (b == 92) ≡ y → letters Between (escaped 124 n ++ 124 ∷ rest) ≡ map Kept n ++ letters Outside rest
      → letters Between ((if x || y then 92 ∷ b ∷ escaped 124 n else b ∷ escaped 124 n) ++ 124 ∷ rest) ≡ Kept b ∷ (map Kept n ++ letters Outside rest)
  go true y e f i = ap (λ ls. Kept b ∷ ls) i
  go false true e f i = ap (λ ls. Kept b ∷ ls) i
  go false false e f i = rw (e, f) (ap (λ ls. Kept b ∷ ls) i)

plain_token : (n rest : List ℕ) → list_all is_plain_byte n ≡ true → goes_on_as_token Outside (n ++ rest) ≡ goes_on_as_token Outside rest
plain_token [] rest h = refl
plain_token (b ∷ n) rest h =
    let q = both (is_plain_byte b) (list_all is_plain_byte n) h in
    let g = good b q.0 in
    rw (g.bar, g.stays, g.graphic, plain_token n rest q.1) refl

barred_token : (n rest : List ℕ) → goes_on_as_token Between (escaped 124 n ++ 124 ∷ rest) ≡ goes_on_as_token Outside rest
barred_token [] rest = refl
barred_token (b ∷ n) rest = go (b == 124) (b == 92) refl refl (barred_token n rest) where
  go : (x y : Bool) → (b == 124) ≡ x → (b == 92) ≡ y → goes_on_as_token Between (escaped 124 n ++ 124 ∷ rest) ≡ goes_on_as_token Outside rest
      → goes_on_as_token Between ((if x || y then 92 ∷ b ∷ escaped 124 n else b ∷ escaped 124 n) ++ 124 ∷ rest) ≡ goes_on_as_token Outside rest
  go true y e f i = i
  go false true e f i = i
  go false false e f i = rw (e, f) i

pub plain_parts : (n : List ℕ) → is_plain n ≡ true → (is_empty n ≡ false) × (list_all is_plain_byte n ≡ true) × (is_like_number n ≡ false)
plain_parts n h =
    let q = both (not (is_empty n)) (list_all is_plain_byte n && not (is_like_number n)) h in
    let r = both (list_all is_plain_byte n) (not (is_like_number n)) q.1 in
    (not_true (is_empty n) q.0, r.0, not_true (is_like_number n) r.1)

pub text_letters : (n rest : List ℕ) → letters Outside (name_text n ++ rest) ≡ part_letters n ++ letters Outside rest
text_letters n rest = go (is_plain n) refl where
  go : (p : Bool) → is_plain n ≡ p → letters Outside ((if p then n else 124 ∷ (escaped 124 n ++ 124 ∷ [])) ++ rest) ≡ (if p then map Raised n else Bar ∷ map Kept n) ++ letters Outside rest
  go true e = plain_letters n rest (plain_parts n e).1
  go false e = ap (λ (bs : List ℕ). Bar ∷ letters Between bs) (append_assoc (escaped 124 n) (124 ∷ []) rest) ∙ ap (λ ls. Bar ∷ ls) (barred_letters n rest)

pub text_token : (n rest : List ℕ) → goes_on_as_token Outside (name_text n ++ rest) ≡ goes_on_as_token Outside rest
text_token n rest = go (is_plain n) refl where
  go : (p : Bool) → is_plain n ≡ p → goes_on_as_token Outside ((if p then n else 124 ∷ (escaped 124 n ++ 124 ∷ [])) ++ rest) ≡ goes_on_as_token Outside rest
  go true e = plain_token n rest (plain_parts n e).1
  go false e = ap (goes_on_as_token Between) (append_assoc (escaped 124 n) (124 ∷ []) rest) ∙ barred_token n rest

-- ---- what the letters say

raised_name : (n : List ℕ) → name_of (map Raised n) ≡ n
raised_name [] = refl
raised_name (b ∷ n) = ap (λ (bs : List ℕ). b ∷ bs) (raised_name n)

kept_name : (n : List ℕ) → name_of (map Kept n) ≡ n
kept_name [] = refl
kept_name (b ∷ n) = ap (λ (bs : List ℕ). b ∷ bs) (kept_name n)

kept_none : (c : ℕ) (n : List ℕ) → list_any (is_raised c) (map Kept n) ≡ false
kept_none c [] = refl
kept_none c (b ∷ n) = kept_none c n

raised_no_colon : (n : List ℕ) → list_all is_plain_byte n ≡ true → list_any is_colon (map Raised n) ≡ false
raised_no_colon [] h = refl
raised_no_colon (b ∷ n) h =
    let q = both (is_plain_byte b) (list_all is_plain_byte n) h in
    rw ((good b q.0).colon, raised_no_colon n q.1) refl

raised_no_backslash : (n : List ℕ) → list_all is_plain_byte n ≡ true → list_any (is_raised 92) (map Raised n) ≡ false
raised_no_backslash [] h = refl
raised_no_backslash (b ∷ n) h =
    let q = both (is_plain_byte b) (list_all is_plain_byte n) h in
    rw ((good b q.0).backslash, raised_no_backslash n q.1) refl

kept_no_colon : (n : List ℕ) → list_any is_colon (map Kept n) ≡ false
kept_no_colon [] = refl
kept_no_colon (b ∷ n) = kept_no_colon n

pub record IsPart (written : List ℕ) (ls : List Letter) : Type 0 where
  pub name : name_of ls ≡ written
  pub colon : list_any is_colon ls ≡ false
  pub backslash : list_any (is_raised 92) ls ≡ false
  pub hash : begins_with_hash ls ≡ false
  pub some : is_empty ls ≡ false

pub part_is : (n : List ℕ) → IsPart n (part_letters n)
part_is n = go (is_plain n) refl where
  plain_part : (m : List ℕ) → is_empty m ≡ false → list_all is_plain_byte m ≡ true → IsPart m (map Raised m)
  plain_part [] e h = cc
  plain_part (b ∷ m) e h =
      let q = both (is_plain_byte b) (list_all is_plain_byte m) h in
      let g = good b q.0 in
      record { name = raised_name (b ∷ m); colon = raised_no_colon (b ∷ m) h; backslash = raised_no_backslash (b ∷ m) h; hash = g.hash; some = grind (arith, nat_tests) }

  go : (p : Bool) → is_plain n ≡ p → IsPart n (if p then map Raised n else Bar ∷ map Kept n)
  go true e = let q = plain_parts n e in plain_part n q.0 q.1
  go false e = record { name = kept_name n; colon = kept_no_colon n; backslash = kept_none 92 n; hash = refl; some = grind (arith, nat_tests) }

-- ---- how the symbol is written

no_colon_before : (ls : List Letter) → list_any is_colon ls ≡ false → (before_colon ls ≡ ls) × (from_colon ls ≡ [])
no_colon_before [] h = (refl, refl)
no_colon_before (l ∷ ls) h =
    let q = neither (is_colon l) (list_any is_colon ls) h in
    let r = no_colon_before ls q.1 in
    (rw (q.0, r.0) refl, rw (q.0, r.1) refl)

colon_behind : (ls more : List Letter) → list_any is_colon ls ≡ false → (before_colon (ls ++ Raised 58 ∷ more) ≡ ls) × (from_colon (ls ++ Raised 58 ∷ more) ≡ Raised 58 ∷ more)
colon_behind [] more h = (refl, refl)
colon_behind (l ∷ ls) more h =
    let q = neither (is_colon l) (list_any is_colon ls) h in
    let r = colon_behind ls more q.1 in
    (rw (q.0, r.0) refl, rw (q.0, r.1) refl)

pub written_plainly : (name : List ℕ) (ls : List Letter) → IsPart name ls → written ls ≡ Plainly name
written_plainly name ls h =
    let r = no_colon_before ls h.colon in
    rw (h.hash, h.backslash, r.0, r.1) (ap Plainly h.name)

is_part_true : (name : List ℕ) (ls : List Letter) → IsPart name ls → is_part ls ≡ true
is_part_true name ls h = rw (h.some, h.colon) refl

pub written_keyword : (name : List ℕ) (ls : List Letter) → IsPart name ls → written (Raised 58 ∷ ls) ≡ Within keyword name
written_keyword name ls h = rw (h.backslash, is_part_true name ls h) (ap (Within keyword) h.name)

hash_before : (ls more : List Letter) → is_empty ls ≡ false → begins_with_hash ls ≡ false → begins_with_hash (ls ++ more) ≡ false
hash_before [] more e h = cc
hash_before (l ∷ ls) more e h = h

or_assoc : (r s t : Bool) → (r || (s || t)) ≡ ((r || s) || t)
or_assoc true s t = refl
or_assoc false s t = refl

pub any_append : {A : Type 0} (p : A → Bool) (xs ys : List A) → list_any p (xs ++ ys) ≡ (list_any p xs || list_any p ys)
any_append p [] ys = refl
any_append p (x ∷ xs) ys = ap (λ b. p x || b) (any_append p xs ys) ∙ or_assoc (p x) (list_any p xs) (list_any p ys)

behind_some : (name : List ℕ) (ps ls : List Letter) → is_empty ps ≡ false → is_part ls ≡ true → name_of ls ≡ name
    → behind_colon ps (Raised 58 ∷ Raised 58 ∷ ls) ≡ Within (name_of ps) name
behind_some name [] ls e p n = cc
behind_some name (q ∷ ps) ls e p n = rw p (ap (Within (name_of (q ∷ ps))) n)

pub written_within : (home name : List ℕ) (ps ls : List Letter) → IsPart home ps → IsPart name ls → written (ps ++ Raised 58 ∷ Raised 58 ∷ ls) ≡ Within home name
written_within home name ps ls h g =
    let c = colon_behind ps (Raised 58 ∷ ls) h.colon in
    let b : list_any (is_raised 92) (ps ++ Raised 58 ∷ Raised 58 ∷ ls) ≡ false = any_append (is_raised 92) ps (Raised 58 ∷ Raised 58 ∷ ls) ∙ (rw (h.backslash, g.backslash) refl) in
    rw (hash_before ps (Raised 58 ∷ Raised 58 ∷ ls) h.some h.hash, b, c.0, c.1) (behind_some name ps ls h.some (is_part_true name ls g) g.name ∙ ap (λ (x : List ℕ). Within x name) h.name)
