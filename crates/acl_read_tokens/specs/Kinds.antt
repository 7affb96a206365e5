-- What a token is, apart from the packages that are known.
use Rattle.std.specs.Prelude.{◌≡◌, ℕ, List, [], ◌∷◌, map, true, false, ◌||◌, if◌then◌else◌, ℤ, Option, Some, None}
use Rattle.std.specs.Char.{to_ascii_uppercase}
use Rattle.std.specs.List.{list_any}
use Rattle.std.specs.Str.{bytes_eq}
use Rattle.model_objects.specs.Object.{fits_128}
use Rattle.model_text.specs.Token.{Packages, Token, is_bar, integer_of, is_ratio, is_float, are_dots, written, letters, Written, Plainly, Within, Wrongly, numbered_token, nameable}
use Rattle.model_text.specs.Token as token
use Rattle.model_text.specs.declared.TextCause.{TextCause}
use Rattle.model_text.specs.declared.TextCause.TheVariants.{BadToken, IntegerTooWide}
use Rattle.acl_read_tokens.specs.declared.Kind.{Kind}
use Rattle.acl_read_tokens.specs.declared.Kind.TheVariants as kind
use Rattle.acl_read_tokens.specs.declared.numerals.Numeral.{Numeral}
use Rattle.acl_read_tokens.specs.declared.numerals.Numeral.TheVariants.{NotOne, TooWide, Value}
use Rattle.acl_read_tokens.specs.declared.letters.Letter.{Letter}
use Rattle.acl_read_tokens.specs.declared.letters.Letter.TheVariants.{Raised, Kept, Bar}
use Rattle.acl_read_tokens.specs.declared.letters.Place.{Place}
use Rattle.acl_read_tokens.specs.declared.letters.Place.TheVariants.{Outside, Between, Escaped}

-- what a token is: the dot, an integer, the name of a symbol, the name of a package and of a symbol, or wrong
pub data Reading : Type 0 where
  Dot : Reading
  Number : ℤ → Reading
  Plain : List ℕ → Reading
  Qualified : List ℕ → List ℕ → Reading
  Wrong : TextCause → Reading

abbrev pub written_reading : Written → Reading
written_reading (Plainly name) = Plain name
written_reading (Within home name) = Qualified home name
written_reading Wrongly = Wrong BadToken

abbrev pub number_reading : ℤ → Reading
number_reading n = if fits_128 n then Number n else Wrong IntegerTooWide

abbrev pub other_reading : List ℕ → Reading
other_reading bytes =
    if bytes_eq bytes (46 ∷ []) then Dot
    else (if is_ratio bytes || (is_float bytes || are_dots bytes) then Wrong BadToken
    else written_reading (written (letters token.Outside bytes)))

abbrev pub bare_reading : List ℕ → Option ℤ → Reading
bare_reading bytes None = other_reading bytes
bare_reading bytes (Some n) = number_reading n

unfoldable pub reading_of : List ℕ → Reading
reading_of bytes =
    if list_any is_bar bytes then written_reading (written (letters token.Outside bytes))
    else bare_reading (map to_ascii_uppercase bytes) (integer_of (map to_ascii_uppercase bytes))

-- the token, given the packages
abbrev pub token_in : Packages → Reading → Token
token_in packages Dot = token.Dot
token_in packages (Number n) = token.Number n
token_in packages (Plain name) = numbered_token packages (Some packages.current) name
token_in packages (Qualified home name) = numbered_token packages (nameable packages home) name
token_in packages (Wrong c) = token.Wrong c

-- ---- as the code has it

abbrev pub reading : Kind → Reading
reading kind.Dot = Dot
reading (kind.Number n) = Number n
reading (kind.Plain name) = Plain name.items
reading (kind.Qualified home name) = Qualified home.items name.items
reading (kind.Wrong c) = Wrong c

-- whether there is an integer, and which
abbrev pub IsNumeral : Option ℤ → Numeral → Type 0
IsNumeral o NotOne = o ≡ None
IsNumeral o TooWide = (n : ℤ) × (o ≡ Some n) × (fits_128 n ≡ false)
IsNumeral o (Value n) = (o ≡ Some n) × (fits_128 n ≡ true)

abbrev pub letter_of : Letter → token.Letter
letter_of (Raised b) = token.Raised b
letter_of (Kept b) = token.Kept b
letter_of Bar = token.Bar

abbrev pub letters_of : List Letter → List token.Letter
letters_of ls = map letter_of ls

abbrev pub place_of : Place → token.Place
place_of Outside = token.Outside
place_of Between = token.Between
place_of Escaped = token.Escaped
