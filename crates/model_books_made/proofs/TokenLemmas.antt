-- A token is an integer of 128 bits, or the symbol that a known package has under its name.
use Rattle.std.proofs.Common.{◌≡◌, ℕ, ◌<◌, List, [], ◌∷◌, length, Bool, true, false, Option, Some, None, refl, subst}
use Rattle.std.specs.Prelude.{ℤ, map, ◌||◌, if◌then◌else◌}
use Rattle.std.specs.Char.{to_ascii_uppercase}
use Rattle.std.specs.List.{list_any}
use Rattle.std.specs.Str.{bytes_eq}
use Rattle.std.proofs.lemmas.Option.{slice_get_within}
use Rattle.model_objects.specs.Object.{fits_128}
use Rattle.model_symbols.specs.Symbols.{QualifiedName, Package, package_number, package_at, symbol_in}
use Rattle.model_symbols.specs.Growth.{IsPackage}
use Rattle.model_symbols.specs.Opening.{hidden}
use Rattle.model_symbols.proofs.NameLemmas.{package-at, package-Some}
use Rattle.model_text.specs.declared.TextCause.TheVariants.{BadToken, IntegerTooWide}
use Rattle.model_text.specs.Token.{Packages, Token, Dot, Number, Name, Wrong, Written, Plainly, Within, Wrongly, is_bar, is_ratio, is_float, are_dots, integer_of, letters, Outside, written, number_token, numbered_token, nameable, written_token, other_token, bare_token, token_of}

-- a package has the symbol under a name
pub record IsHad (packages : List Package) (s : QualifiedName) : Type 0 where
  pub number : ℕ
  pub owner : Package
  pub name : List ℕ
  pub at : IsPackage packages number owner
  pub is : s ≡ symbol_in owner name

abbrev pub IsRight : List Package → Token → Type 0
IsRight packages Dot = Unit {0}
IsRight packages (Number n) = fits_128 n ≡ true
IsRight packages (Name s) = IsHad packages s
IsRight packages (Wrong c) = Unit {0}

module _ (k : Packages) (current : k.current < length k.all) where
  abbrev Right : Token → Type 0
  Right x = IsRight k.all x

  right_if : (b : Bool) (x y : Token) → Right x → Right y → Right (if b then x else y)
  right_if true x y h g = h
  right_if false x y h g = g

  right_numbered : (v : Option ℕ) (name : List ℕ) → ((n : ℕ) → v ≡ Some n → n < length k.all) → Right (numbered_token k v name)
  right_numbered None name h = tt
  right_numbered (Some n) name h = record { number = n; owner = package_at k.all n; name = name; at = package-at k.all n (h n refl); is = refl }

  nameable_within : (name : List ℕ) (n : ℕ) → nameable k name ≡ Some n → n < length k.all
  nameable_within name n h = go (bytes_eq name hidden) h
    where
      go : (b : Bool) → (if b then None else package_number k.all name) ≡ Some n → n < length k.all
      go true e = cc
      go false e = let p = package-Some k.all name n e in slice_get_within k.all n p.0 p.1

  current_within : (n : ℕ) → Some k.current ≡ Some n → n < length k.all
  current_within n e = let same : k.current ≡ n = cc in subst (λ i. i < length k.all) same current

  right_written : (w : Written) → Right (written_token k w)
  right_written (Plainly name) = right_numbered (Some k.current) name current_within
  right_written (Within home name) = right_numbered (nameable k home) name (nameable_within home)
  right_written Wrongly = tt

  right_number : (n : ℤ) → Right (number_token n)
  right_number n = go (fits_128 n) refl
    where
      go : (b : Bool) → fits_128 n ≡ b → Right (if b then Number n else Wrong IntegerTooWide)
      go true e = e
      go false e = tt

  right_other : (bytes : List ℕ) → Right (other_token k bytes)
  right_other bytes =
      right_if (bytes_eq bytes (46 ∷ [])) Dot _ tt
      (right_if (is_ratio bytes || (is_float bytes || are_dots bytes)) (Wrong BadToken) _ tt (right_written (written (letters Outside bytes))))

  right_bare : (bytes : List ℕ) (v : Option ℤ) → Right (bare_token k bytes v)
  right_bare bytes None = right_other bytes
  right_bare bytes (Some n) = right_number n

  pub token_right : (bytes : List ℕ) → Right (token_of k bytes)
  unfolding token_of
  token_right bytes =
      right_if (list_any is_bar bytes) _ _ (right_written (written (letters Outside bytes)))
      (right_bare (map to_ascii_uppercase bytes) (integer_of (map to_ascii_uppercase bytes)))
