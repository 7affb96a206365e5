-- What holds of every table of symbols, and how a table takes one more symbol or package (ACL2's manual, topic DEFPKG).
use Rattle.std.specs.Prelude.{◌≡◌, ℕ, ◌≤◌, List, [], ◌∷◌, ◌++◌, length, map, Option, Some, None, slice_get}
use Rattle.model_symbols.specs.Symbols.{QualifiedName, Package, Table, symbol_at, number_of, package_number, package_at, symbol_in, interned, import_clash, most_symbols}
use Rattle.model_symbols.specs.Growth.{IsSymbol, IsPackage, AreDistinct}

-- the table without symbols and packages
abbrev pub no_table : Table
no_table = record { packages = []; symbols = [] }

-- the table once the symbol is known
abbrev pub with_symbol : Table → QualifiedName → Table
with_symbol t s = record { packages = t.packages; symbols = interned t.symbols s }

-- the table with one more package
abbrev pub with_package : Table → Package → Table
with_package t p = record { packages = t.packages ++ p ∷ []; symbols = t.symbols }

-- the symbols of these numbers
abbrev pub symbols_at : List QualifiedName → List ℕ → List QualifiedName
symbols_at symbols numbers = map (symbol_at symbols) numbers

-- the symbol that the package of a number has under a name
abbrev pub symbol_under : Table → ℕ → List ℕ → QualifiedName
symbol_under t p name = symbol_in (package_at t.packages p) name

-- the number of that symbol, where it is known
abbrev pub number_in : Table → ℕ → List ℕ → Option ℕ
number_in t p name = number_of t.symbols (symbol_under t p name)

-- no package has two numbers
abbrev pub AreApart : List Package → Type 0
AreApart packages = (m n : ℕ) (p q : Package) → IsPackage packages m p → IsPackage packages n q → p.name ≡ q.name → m ≡ n

-- a table as it comes to be
pub record IsTable (t : Table) : Type 0 where
  -- no symbol has two numbers, and no package
  pub distinct : AreDistinct t.symbols
  pub apart : AreApart t.packages
  -- the package of each symbol is known
  pub homes : (n : ℕ) (s : QualifiedName) → IsSymbol t.symbols n s → (i : ℕ) × (package_number t.packages s.home ≡ Some i)
  -- what a package imports is known
  pub imports : (m k : ℕ) (p : Package) (s : QualifiedName) → IsPackage t.packages m p → slice_get p.imports k ≡ Some s → (n : ℕ) × IsSymbol t.symbols n s
  -- different imports of a package have different names
  pub no_clash : (m : ℕ) (p : Package) → IsPackage t.packages m p → import_clash p.imports ≡ None
  -- a symbol is what its package has under its name: no import hides it
  pub own : (n m : ℕ) (s : QualifiedName) (p : Package) → IsSymbol t.symbols n s → IsPackage t.packages m p → p.name ≡ s.home → symbol_in p s.name ≡ s
  -- there are not too many
  pub few : length t.symbols ≤ most_symbols
