-- A token is what its reading says.
use Rattle.std.specs.Prelude.{◌≡◌, ℕ, List, [], ◌∷◌, map, Bool, true, false, ◌||◌, if◌then◌else◌, ℤ, Option, Some, None, refl}
use Rattle.std.specs.Char.{to_ascii_uppercase}
use Rattle.std.specs.List.{list_any}
use Rattle.std.specs.Str.{bytes_eq}
use Rattle.model_objects.specs.Object.{fits_128}
use Rattle.model_text.specs.Token.{Packages, Token, is_bar, integer_of, is_ratio, is_float, are_dots, written, letters, Written, Plainly, Within, Wrongly, written_token, other_token, number_token, bare_token, token_of}
use Rattle.model_text.specs.Token as token
use Rattle.acl_read_tokens.specs.Kinds.{Dot, Wrong, written_reading, number_reading, other_reading, bare_reading, reading_of, token_in}
use Rattle.model_text.specs.declared.TextCause.TheVariants.{BadToken}

written_in : (packages : Packages) (w : Written) → written_token packages w ≡ token_in packages (written_reading w)
written_in packages (Plainly name) = refl
written_in packages (Within home name) = refl
written_in packages Wrongly = refl

number_in : (packages : Packages) (n : ℤ) → number_token n ≡ token_in packages (number_reading n)
number_in packages n = go (fits_128 n) refl where
  go : (b : Bool) → fits_128 n ≡ b → number_token n ≡ token_in packages (number_reading n)
  go true e = rw e refl
  go false e = rw e refl

other_in : (packages : Packages) (bytes : List ℕ) → other_token packages bytes ≡ token_in packages (other_reading bytes)
other_in packages bytes = go (bytes_eq bytes (46 ∷ [])) (is_ratio bytes || (is_float bytes || are_dots bytes)) where
  go : (a b : Bool) → (if a then token.Dot else (if b then token.Wrong BadToken else written_token packages (written (letters token.Outside bytes))))
      ≡ token_in packages (if a then Dot else (if b then Wrong BadToken else written_reading (written (letters token.Outside bytes))))
  go true b = refl
  go false true = refl
  go false false = written_in packages (written (letters token.Outside bytes))

bare_in : (packages : Packages) (bytes : List ℕ) (o : Option ℤ) → bare_token packages bytes o ≡ token_in packages (bare_reading bytes o)
bare_in packages bytes None = other_in packages bytes
bare_in packages bytes (Some n) = number_in packages n

pub token_is : (packages : Packages) (bytes : List ℕ) → token_of packages bytes ≡ token_in packages (reading_of bytes)
unfolding token_of reading_of
token_is packages bytes = go (list_any is_bar bytes) where
  go : (b : Bool) → (if b then written_token packages (written (letters token.Outside bytes)) else bare_token packages (map to_ascii_uppercase bytes) (integer_of (map to_ascii_uppercase bytes)))
      ≡ token_in packages (if b then written_reading (written (letters token.Outside bytes)) else bare_reading (map to_ascii_uppercase bytes) (integer_of (map to_ascii_uppercase bytes)))
  go true = written_in packages (written (letters token.Outside bytes))
  go false = bare_in packages (map to_ascii_uppercase bytes) (integer_of (map to_ascii_uppercase bytes))
