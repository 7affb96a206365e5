-- What interning a name and adding a package give, and why they are refused.
use Rattle.std.specs.Prelude.{◌≡◌, ℕ, ◌<◌, List, length, Some, None, true, false, map}
use Rattle.std.specs.List.{All}
use Rattle.model_symbols.specs.Symbols.{QualifiedName, Package, Table, symbol_at, package_number, import_clash, is_one_too_many}
use Rattle.model_symbols.specs.Growth.{IsSymbol}
use Rattle.model_symbols.specs.Tables.{with_symbol, symbols_at, symbol_under, number_in}
use Rattle.acl_base.specs.declared.SymId.{SymId}
use Rattle.acl_syms.specs.declared.SymFault.{SymFault}
use Rattle.acl_syms.specs.declared.SymFault.TheVariants.{UnknownPackage, TooMany, PackageExists, ImportClash, Memory}

-- the name is interned in the package: the table knows its symbol, under this number
pub record Interns (old new : Table) (p : ℕ) (name : List ℕ) (n : ℕ) : Type 0 where
  pub table : new ≡ with_symbol old (symbol_under old p name)
  pub number : IsSymbol new.symbols n (symbol_under old p name)
  pub room : is_one_too_many old.symbols (symbol_under old p name) ≡ false

-- why a name is not interned in the package of a number
abbrev pub InternFault : Table → ℕ → List ℕ → SymFault → Type 0
InternFault t p name UnknownPackage = ⊥
InternFault t p name TooMany = is_one_too_many t.symbols (symbol_under t p name) ≡ true
InternFault t p name PackageExists = ⊥
InternFault t p name (ImportClash first second) = ⊥
InternFault t p name Memory = (number_in t p name ≡ None) × (is_one_too_many t.symbols (symbol_under t p name) ≡ false)

-- the name is interned in the package of a name
pub record InternsNamed (old new : Table) (home name : List ℕ) (n : ℕ) : Type 0 where
  pub at : ℕ
  pub known : package_number old.packages home ≡ Some at
  pub interns : Interns old new at name n

-- why a name is not interned in the package of a name
abbrev pub NamedInternFault : Table → List ℕ → List ℕ → SymFault → Type 0
NamedInternFault t home name UnknownPackage = package_number t.packages home ≡ None
NamedInternFault t home name TooMany = (p : ℕ) × (package_number t.packages home ≡ Some p) × InternFault t p name TooMany
NamedInternFault t home name PackageExists = ⊥
NamedInternFault t home name (ImportClash first second) = ⊥
NamedInternFault t home name Memory = (p : ℕ) × (package_number t.packages home ≡ Some p) × InternFault t p name Memory

-- the numbers of symbols
abbrev pub numbers : List SymId → List ℕ
numbers ids = map (λ (s : SymId). s.0) ids

-- the symbols are known
abbrev pub AreKnown : List QualifiedName → List SymId → Type 0
AreKnown symbols ids = All (λ (s : SymId). s.0 < length symbols) ids

-- a package of this name that imports these
abbrev pub package_with : List QualifiedName → List ℕ → List SymId → Package
package_with symbols name imports = record { name = name; imports = symbols_at symbols (numbers imports) }

-- why a package is not added
abbrev pub PackageFault : Table → List ℕ → List SymId → SymFault → Type 0
PackageFault t name imports UnknownPackage = ⊥
PackageFault t name imports TooMany = ⊥
PackageFault t name imports PackageExists = (p : ℕ) × (package_number t.packages name ≡ Some p)
PackageFault t name imports (ImportClash first second) =
    (package_number t.packages name ≡ None) × (import_clash (symbols_at t.symbols (numbers imports)) ≡ Some (symbol_at t.symbols first.0, symbol_at t.symbols second.0))
    × (first.0 < length t.symbols) × (second.0 < length t.symbols)
PackageFault t name imports Memory = package_number t.packages name ≡ None

-- the table has no package of the name, and no two imports clash
pub record CanTake (t : Table) (name : List ℕ) (imports : List SymId) : Type 0 where
  pub fresh : package_number t.packages name ≡ None
  pub no_clash : import_clash (symbols_at t.symbols (numbers imports)) ≡ None
