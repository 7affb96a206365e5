-- The spellings of a form, one case for each kind (Common Lisp the Language, second edition, 22.1).
use Rattle.std.specs.Prelude.{◌≡◌, ℕ, ◌+◌, ◌<◌, ◌==◌, max, List, [], ◌∷◌, ◌++◌, length, Bool, true, false, ◌&&◌, ◌||◌, not, if◌then◌else◌, ℤ}
use Rattle.std.specs.List.{list_all}
use Rattle.model_objects.specs.Object.{Integer, Symbol, Text}
use Rattle.model_symbols.specs.Symbols.{QualifiedName}
use Rattle.model_symbols.specs.Opening.{quote_name}
use Rattle.model_text.specs.Token.{Packages, is_blank, ends_token, is_graphic, is_bar, Place, Outside, Between, Escaped, token_of, Number, Name}
use Rattle.model_text.specs.Backquote.{Template, Constant, Comma, CommaAt, Both, form_of, expansion, nil_form}

-- ---- blanks and comments

-- two bytes begin or end a block comment
abbrev pub is_block_mark : ℕ → ℕ → Bool
is_block_mark b c = ((b == 35) && (c == 124)) || ((b == 124) && (c == 35))

-- the byte and the one behind it begin or end a block comment
abbrev pub marks_block : ℕ → List ℕ → Bool
marks_block b [] = false
marks_block b (c ∷ cs) = is_block_mark b c

-- the rest of a block comment that stands in so many others, with the ends of all of them
pub data Block : ℕ → List ℕ → Type 0 where
  end : Block 0 (124 ∷ 35 ∷ [])
  leave : (n : ℕ) (bs : List ℕ) → Block n bs → Block (n + 1) (124 ∷ 35 ∷ bs)
  enter : (n : ℕ) (bs : List ℕ) → Block (n + 1) bs → Block n (35 ∷ 124 ∷ bs)
  byte : (n b : ℕ) (bs : List ℕ) → marks_block b bs ≡ false → Block n bs → Block n (b ∷ bs)

-- no byte of these ends a line
abbrev pub is_line : List ℕ → Bool
is_line bs = list_all (λ b. not (b == 10)) bs

-- blanks and comments
pub data Gap : List ℕ → Type 0 where
  nothing : Gap []
  blank : (b : ℕ) (gap : List ℕ) → is_blank b ≡ true → Gap gap → Gap (b ∷ gap)
  line : (bs gap : List ℕ) → is_line bs ≡ true → Gap gap → Gap (59 ∷ (bs ++ 10 ∷ gap))
  block : (bs gap : List ℕ) → Block 0 bs → Gap gap → Gap (35 ∷ 124 ∷ (bs ++ gap))

-- ---- tokens and strings

-- the bytes are the rest of a token, from this place on
abbrev pub goes_on_as_token : Place → List ℕ → Bool
goes_on_as_token Outside [] = true
goes_on_as_token Between [] = false
goes_on_as_token Escaped [] = false
goes_on_as_token Outside (b ∷ bs) = if is_bar b then goes_on_as_token Between bs else not (ends_token b) && (is_graphic b && goes_on_as_token Outside bs)
goes_on_as_token Between (b ∷ bs) = if is_bar b then goes_on_as_token Outside bs else (if b == 92 then goes_on_as_token Escaped bs else goes_on_as_token Between bs)
goes_on_as_token Escaped (b ∷ bs) = goes_on_as_token Between bs

abbrev pub begins_block : List ℕ → Bool
begins_block [] = false
begins_block (b ∷ bs) = (b == 35) && begins_bar bs where
  begins_bar : List ℕ → Bool
  begins_bar [] = false
  begins_bar (c ∷ cs) = is_bar c

pub record IsToken (bytes : List ℕ) : Type 0 where
  pub some : 0 < length bytes
  pub whole : goes_on_as_token Outside bytes ≡ true
  pub apart : begins_block bytes ≡ false

-- the bytes of a string from its first byte to its closing quote, and what it holds
pub data Quoted : List ℕ → List ℕ → Type 0 where
  end : Quoted (34 ∷ []) []
  byte : (b : ℕ) (bs held : List ℕ) → (b == 34) ≡ false → (b == 92) ≡ false → Quoted bs held → Quoted (b ∷ bs) (b ∷ held)
  escape : (b : ℕ) (bs held : List ℕ) → Quoted bs held → Quoted (92 ∷ b ∷ bs) (b ∷ held)

-- ---- forms

-- a form, and whether a delimiter must follow it; or what stands in a list up to its bracket, and whether a form stands before it
pub data Sort : Type 0 where
  AForm : Bool → Sort
  ARest : Bool → Sort

abbrev pub begins_apart : List ℕ → Bool
begins_apart [] = false
begins_apart (b ∷ bs) = ends_token b

-- what follows a form that must be followed by a delimiter begins with one
abbrev pub Follows : Bool → List ℕ → Type 0
Follows false rest = Unit {0}
Follows true rest = begins_apart rest ≡ true

abbrev pub begins_with_at : List ℕ → Bool
begins_with_at [] = false
begins_with_at (b ∷ bs) = b == 64

-- (QUOTE t)
abbrev pub quoted_template : Template → Template
quoted_template t = Both (Constant (Symbol quote_name)) (Both t (Constant nil_form))

-- Within a backquote or not, the bytes spell the template, which is a form where it has no commas. The symbols are those of its
-- tokens, in order, and at most so many parts are open.
pub data Spells (packages : Packages) : Bool → Sort → List ℕ → Template → List QualifiedName → ℕ → Type 0 where
  integer : (q : Bool) (bs : List ℕ) (n : ℤ) → IsToken bs → token_of packages bs ≡ Number n → Spells packages q (AForm true) bs (Constant (Integer n)) [] 0
  symbol : (q : Bool) (bs : List ℕ) (s : QualifiedName) → IsToken bs → token_of packages bs ≡ Name s → Spells packages q (AForm true) bs (Constant (Symbol s)) (s ∷ []) 0
  string : (q : Bool) (bs held : List ℕ) → Quoted bs held → Spells packages q (AForm false) (34 ∷ bs) (Constant (Text held)) [] 0
  quote : (q c : Bool) (gap bs : List ℕ) (t : Template) (names : List QualifiedName) (n : ℕ) → Gap gap → Spells packages q (AForm c) bs t names n
      → Spells packages q (AForm c) (39 ∷ (gap ++ bs)) (quoted_template t) names (n + 1)
  backquote : (c : Bool) (gap bs : List ℕ) (t : Template) (names : List QualifiedName) (n : ℕ) → Gap gap → Spells packages true (AForm c) bs t names n
      → Spells packages false (AForm c) (96 ∷ (gap ++ bs)) (Constant (expansion t)) names (n + 1)
  comma : (c : Bool) (gap bs : List ℕ) (t : Template) (names : List QualifiedName) (n : ℕ) → Gap gap → begins_with_at (gap ++ bs) ≡ false → Spells packages false (AForm c) bs t names n
      → Spells packages true (AForm c) (44 ∷ (gap ++ bs)) (Comma (form_of t)) names (n + 1)
  listed : (q : Bool) (bs : List ℕ) (t : Template) (names : List QualifiedName) (n : ℕ) → Spells packages q (ARest false) bs t names n
      → Spells packages q (AForm false) (40 ∷ bs) t names (n + 1)
  close : (q b : Bool) (gap : List ℕ) → Gap gap → Spells packages q (ARest b) (gap ++ 41 ∷ []) (Constant nil_form) [] 0
  element : (q b c : Bool) (gap bs rest : List ℕ) (t u : Template) (names more : List QualifiedName) (m n : ℕ) → Gap gap → Spells packages q (AForm c) bs t names m
      → Follows c rest → Spells packages q (ARest true) rest u more n
      → Spells packages q (ARest b) (gap ++ (bs ++ rest)) (Both t u) (names ++ more) (max m n)
  spliced : (b c : Bool) (gap inner bs rest : List ℕ) (t u : Template) (names more : List QualifiedName) (m n : ℕ) → Gap gap → Gap inner → Spells packages false (AForm c) bs t names m
      → Follows c rest → Spells packages true (ARest true) rest u more n
      → Spells packages true (ARest b) (gap ++ (44 ∷ 64 ∷ (inner ++ (bs ++ rest)))) (Both (CommaAt (form_of t)) u) (names ++ more) (max (m + 1) n)
  dot : (q c : Bool) (gap inner bs last : List ℕ) (t : Template) (names : List QualifiedName) (n : ℕ) → Gap gap → Gap inner → Gap last → Spells packages q (AForm c) bs t names n
      → Follows true (inner ++ bs) → Follows c (last ++ 41 ∷ [])
      → Spells packages q (ARest true) (gap ++ (46 ∷ (inner ++ (bs ++ (last ++ 41 ∷ []))))) t names n
