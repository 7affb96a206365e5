-- Symbols and packages. A symbol is the name of its package and its own name; the symbols that are known stand in a list, and
-- a symbol's number is its place there (ACL2's manual, topics DEFPKG, PACKAGE-REINCARNATION-IMPORT-RESTRICTIONS).
use Rattle.std.specs.Prelude.{ℕ, List, [], ◌∷◌, ◌++◌, length, Bool, ◌&&◌, not, Option, Some, None, slice_get, unwrap_or, position, nat_lt, if◌then◌else◌}
use Rattle.std.specs.List.{list_any}
use Rattle.std.specs.Str.{bytes_eq}
use Rattle.model_objects.specs.Object.{Object, named}

pub record QualifiedName : Type 0 where
  pub home : List ℕ  -- the name of its package
  pub name : List ℕ

-- a package: its name, and the symbols that it imports
pub record Package : Type 0 where
  pub name : List ℕ
  pub imports : List QualifiedName

-- the packages, and the symbols in the order of their numbers
pub record Table : Type 0 where
  pub packages : List Package
  pub symbols : List QualifiedName

-- how many symbols there may be
abbrev pub most_symbols : ℕ
most_symbols = 16777216

abbrev pub same_name : QualifiedName → QualifiedName → Bool
same_name a b = bytes_eq a.home b.home && bytes_eq a.name b.name

-- ---- a symbol by its number, and its number

abbrev pub no_name : QualifiedName
no_name = record { home = []; name = [] }

-- the symbol of a number
abbrev pub symbol_at : List QualifiedName → ℕ → QualifiedName
symbol_at symbols n = unwrap_or (slice_get symbols n) no_name

-- the number of a symbol, where it is known
abbrev pub number_of : List QualifiedName → QualifiedName → Option ℕ
number_of symbols s = position (same_name s) symbols

-- an object with its symbols by name
abbrev pub form_of : List QualifiedName → Object ℕ → Object QualifiedName
form_of symbols o = named (symbol_at symbols) o

-- ---- packages

-- the number of the package of a name
abbrev pub package_number : List Package → List ℕ → Option ℕ
package_number packages name = position (λ p. bytes_eq name p.name) packages

abbrev pub no_package : Package
no_package = record { name = []; imports = [] }

abbrev pub package_at : List Package → ℕ → Package
package_at packages n = unwrap_or (slice_get packages n) no_package

-- the import of this name
abbrev pub import_of : List QualifiedName → List ℕ → Option QualifiedName
import_of [] name = None
import_of (s ∷ ss) name = if bytes_eq name s.name then Some s else import_of ss name

-- the symbol that a package has under a name: what it imports under that name, else its own
abbrev pub symbol_in : Package → List ℕ → QualifiedName
symbol_in p name = unwrap_or (import_of p.imports name) (record { home = p.name; name = name })

-- ---- growth

abbrev pub is_known : List QualifiedName → QualifiedName → Bool
is_known symbols s = list_any (same_name s) symbols

-- the symbols once this one is known
abbrev pub interned : List QualifiedName → QualifiedName → List QualifiedName
interned symbols s = if is_known symbols s then symbols else symbols ++ s ∷ []

abbrev pub all_interned : List QualifiedName → List QualifiedName → List QualifiedName
all_interned symbols [] = symbols
all_interned symbols (s ∷ ss) = all_interned (interned symbols s) ss

-- the symbol is not known, and there is no room for one more
abbrev pub is_one_too_many : List QualifiedName → QualifiedName → Bool
is_one_too_many symbols s = not (is_known symbols s) && not (nat_lt (length symbols) most_symbols)

-- two different imports of one name: the earliest second, with its first
abbrev pub clash_with : List QualifiedName → QualifiedName → Option QualifiedName
clash_with [] s = None
clash_with (t ∷ ts) s = if bytes_eq s.name t.name && not (same_name s t) then Some t else clash_with ts s

abbrev pub clash_or : Option QualifiedName → QualifiedName → Option (QualifiedName × QualifiedName) → Option (QualifiedName × QualifiedName)
clash_or (Some first) second later = Some (first, second)
clash_or None second later = later

abbrev pub clash_from : List QualifiedName → List QualifiedName → Option (QualifiedName × QualifiedName)
clash_from seen [] = None
clash_from seen (s ∷ ss) = clash_or (clash_with seen s) s (clash_from (seen ++ s ∷ []) ss)

abbrev pub import_clash : List QualifiedName → Option (QualifiedName × QualifiedName)
import_clash imports = clash_from [] imports
