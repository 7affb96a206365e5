-- Tokens: what a run of bytes between delimiters is (Common Lisp the Language, second edition, 22.1).
use Rattle.std.specs.Prelude.{ℕ, ◌-◌, ◌==◌, List, [], ◌∷◌, length, map, take, slice_index, Bool, false, ◌||◌, ◌&&◌, not, if◌then◌else◌, ℤ, Option, Some, None}
use Rattle.std.specs.Char.{to_ascii_uppercase, is_ascii_digit, is_digit}
use Rattle.std.specs.Int.{is_in_range}
use Rattle.std.specs.List.{list_all, list_any}
use Rattle.std.specs.Str.{bytes_eq}
use Rattle.std.specs.Str.Parse.{signed_digits_value, without_leading_sign}
use Rattle.model_objects.specs.Object.{Object, fits_128}
use Rattle.model_symbols.specs.Symbols.{QualifiedName, Package, package_at, package_number, symbol_in, is_one_too_many}
use Rattle.model_symbols.specs.Opening.{keyword, hidden}
use Rattle.model_text.specs.declared.TextCause.{TextCause}
use Rattle.model_text.specs.declared.TextCause.TheVariants.{BadToken, IntegerTooWide, UnknownPackage, TooManySymbols}

-- an object as it is read and printed: its symbols by their names
abbrev pub Form : Type 0
Form = Object QualifiedName

-- the packages that are known, and the number of the current one
pub record Packages : Type 0 where
  pub all : List Package
  pub current : ℕ

abbrev pub is_empty : {A : Type 0} → List A → Bool
is_empty xs = length xs == 0

-- ---- bytes

abbrev pub is_blank : ℕ → Bool
is_blank b = (b == 9) || ((b == 10) || ((b == 12) || ((b == 13) || (b == 32))))

-- a byte before which a token ends: a blank, `(`, `)`, `"`, `;`, `'`, a backquote or `,`
abbrev pub ends_token : ℕ → Bool
ends_token b = is_blank b || ((b == 40) || ((b == 41) || ((b == 34) || ((b == 59) || ((b == 39) || ((b == 96) || (b == 44)))))))

-- a byte that may stand outside strings, bars and comments, besides the blanks
abbrev pub is_graphic : ℕ → Bool
is_graphic b = is_in_range 33 126 b

abbrev pub is_bar : ℕ → Bool
is_bar b = b == 124

-- ---- numbers, in the bytes of a token whose letters were raised

-- one digit or more of this base, and nothing else
abbrev pub is_numeral : ℕ → List ℕ → Bool
is_numeral base bytes = not (is_empty bytes) && list_all (λ b. is_digit b base) bytes

-- the integer that a sign, which may be missing, and digits of this base write
abbrev pub signed_of : ℕ → List ℕ → Option ℤ
signed_of base bytes = if is_numeral base (without_leading_sign bytes) then Some (signed_digits_value base bytes) else None

-- the integer that stands after a `#`: `B`, `O` or `X` says its base
abbrev pub based_of : List ℕ → Option ℤ
based_of [] = None
based_of (b ∷ bs) =
    if b == 66 then signed_of 2 bs
    else (if b == 79 then signed_of 8 bs
    else (if b == 88 then signed_of 16 bs
    else None))

abbrev pub without_last_dot : List ℕ → List ℕ
without_last_dot bytes = if slice_index bytes (length bytes - 1) == 46 then take (length bytes - 1) bytes else bytes

-- the integer that the token is, if it is one
abbrev pub integer_of : List ℕ → Option ℤ
integer_of [] = None
integer_of (b ∷ bs) = if b == 35 then based_of bs else signed_of 10 (without_last_dot (b ∷ bs))

abbrev pub begins_with_digit : List ℕ → Bool
begins_with_digit [] = false
begins_with_digit (b ∷ bs) = is_ascii_digit b

-- what is left behind the digits at the beginning
abbrev pub after_digits : List ℕ → List ℕ
after_digits [] = []
after_digits (b ∷ bs) = if is_ascii_digit b then after_digits bs else b ∷ bs

-- `/[0-9]+`
abbrev pub is_denominator : List ℕ → Bool
is_denominator [] = false
is_denominator (b ∷ bs) = (b == 47) && is_numeral 10 bs

-- `[+-]?[0-9]+/[0-9]+`
abbrev pub is_ratio : List ℕ → Bool
is_ratio bytes = begins_with_digit (without_leading_sign bytes) && is_denominator (after_digits (without_leading_sign bytes))

-- one of E S F D L, then `[+-]?[0-9]+`
abbrev pub is_exponent : List ℕ → Bool
is_exponent [] = false
is_exponent (b ∷ bs) = ((b == 69) || ((b == 83) || ((b == 70) || ((b == 68) || (b == 76))))) && is_numeral 10 (without_leading_sign bs)

-- what makes a float behind the digits before its dot, where there are such digits or not
abbrev pub ends_float : Bool → List ℕ → Bool
ends_float whole [] = false
ends_float whole (b ∷ bs) =
    if b == 46
    then (begins_with_digit bs && is_empty (after_digits bs)) || ((whole || begins_with_digit bs) && is_exponent (after_digits bs))
    else whole && is_exponent (b ∷ bs)

-- `[+-]?[0-9]*\.[0-9]+` with or without an exponent, or `[+-]?[0-9]+\.?[0-9]*` with one
abbrev pub is_float : List ℕ → Bool
is_float bytes = ends_float (begins_with_digit (without_leading_sign bytes)) (after_digits (without_leading_sign bytes))

-- nothing but dots
abbrev pub are_dots : List ℕ → Bool
are_dots bytes = list_all (λ b. b == 46) bytes

-- ---- symbols

-- what a token's bytes give: a letter outside bars, which was raised, a letter between two bars, or the first of two bars
pub data Letter : Type 0 where
  Raised : ℕ → Letter
  Kept : ℕ → Letter
  Bar : Letter

-- outside bars, between two bars, or behind a backslash there
pub data Place : Type 0 where
  Outside : Place
  Between : Place
  Escaped : Place

-- the letters of a token from this place on
abbrev pub letters : Place → List ℕ → List Letter
letters place [] = []
letters Outside (b ∷ bs) = if is_bar b then Bar ∷ letters Between bs else Raised (to_ascii_uppercase b) ∷ letters Outside bs
letters Between (b ∷ bs) = if is_bar b then letters Outside bs else (if b == 92 then letters Escaped bs else Kept b ∷ letters Between bs)
letters Escaped (b ∷ bs) = Kept b ∷ letters Between bs

-- the bytes of a name
abbrev pub name_of : List Letter → List ℕ
name_of [] = []
name_of (Raised b ∷ ls) = b ∷ name_of ls
name_of (Kept b ∷ ls) = b ∷ name_of ls
name_of (Bar ∷ ls) = name_of ls

-- this byte, outside bars
abbrev pub is_raised : ℕ → Letter → Bool
is_raised c (Raised b) = b == c
is_raised c (Kept b) = false
is_raised c Bar = false

abbrev pub is_colon : Letter → Bool
is_colon l = is_raised 58 l

abbrev pub before_colon : List Letter → List Letter
before_colon [] = []
before_colon (l ∷ ls) = if is_colon l then [] else l ∷ before_colon ls

abbrev pub from_colon : List Letter → List Letter
from_colon [] = []
from_colon (l ∷ ls) = if is_colon l then l ∷ ls else from_colon ls

-- how a symbol is written: by its name alone, behind the name of a package, or not as a symbol may be
pub data Written : Type 0 where
  Plainly : List ℕ → Written
  Within : List ℕ → List ℕ → Written
  Wrongly : Written

-- a name that is there, and has no colon
abbrev pub is_part : List Letter → Bool
is_part ls = not (is_empty ls) && not (list_any is_colon ls)

-- how a symbol is written, by what stands before its first colon and from there on
abbrev pub behind_colon : List Letter → List Letter → Written
behind_colon before [] = Plainly (name_of before)
behind_colon [] (c ∷ ls) = if is_part ls then Within keyword (name_of ls) else Wrongly
behind_colon (p ∷ ps) (c ∷ []) = Wrongly
behind_colon (p ∷ ps) (c ∷ d ∷ ls) = if is_colon d && is_part ls then Within (name_of (p ∷ ps)) (name_of ls) else Wrongly

-- `#` stands first, outside bars
abbrev pub begins_with_hash : List Letter → Bool
begins_with_hash [] = false
begins_with_hash (l ∷ ls) = is_raised 35 l

-- at most a package and a name, no backslash outside bars, and no `#` first
abbrev pub written : List Letter → Written
written ls = if begins_with_hash ls || list_any (is_raised 92) ls then Wrongly else behind_colon (before_colon ls) (from_colon ls)

-- ---- the token

pub data Token : Type 0 where
  Dot : Token
  Number : ℤ → Token
  Name : QualifiedName → Token
  Wrong : TextCause → Token

-- an integer, of 128 bits
abbrev pub number_token : ℤ → Token
number_token n = if fits_128 n then Number n else Wrong IntegerTooWide

-- the symbol of this name in the package of this number, if there is one
abbrev pub numbered_token : Packages → Option ℕ → List ℕ → Token
numbered_token packages None name = Wrong UnknownPackage
numbered_token packages (Some n) name = Name (symbol_in (package_at packages.all n) name)

-- the number of a package that a text may name
abbrev pub nameable : Packages → List ℕ → Option ℕ
nameable packages name = if bytes_eq name hidden then None else package_number packages.all name

abbrev pub written_token : Packages → Written → Token
written_token packages (Plainly name) = numbered_token packages (Some packages.current) name
written_token packages (Within home name) = numbered_token packages (nameable packages home) name
written_token packages Wrongly = Wrong BadToken

-- a token that is no integer: the dot, a ratio, a float, dots, or a symbol
abbrev pub other_token : Packages → List ℕ → Token
other_token packages bytes =
    if bytes_eq bytes (46 ∷ []) then Dot
    else (if is_ratio bytes || (is_float bytes || are_dots bytes) then Wrong BadToken
    else written_token packages (written (letters Outside bytes)))

abbrev pub bare_token : Packages → List ℕ → Option ℤ → Token
bare_token packages bytes None = other_token packages bytes
bare_token packages bytes (Some n) = number_token n

-- what the bytes of a token are; a token with bars is a symbol, or wrong
unfoldable pub token_of : Packages → List ℕ → Token
token_of packages bytes =
    if list_any is_bar bytes then written_token packages (written (letters Outside bytes))
    else bare_token packages (map to_ascii_uppercase bytes) (integer_of (map to_ascii_uppercase bytes))

-- the same, unless it is a symbol that is not known and for which these known ones leave no room
abbrev pub with_room : List QualifiedName → Token → Token
with_room symbols Dot = Dot
with_room symbols (Number n) = Number n
with_room symbols (Name s) = if is_one_too_many symbols s then Wrong TooManySymbols else Name s
with_room symbols (Wrong c) = Wrong c
