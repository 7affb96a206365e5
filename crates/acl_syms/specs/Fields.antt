-- How the fields of a table of symbols make its value.
use Rattle.std.specs.Prelude.{◌≡◌, ℕ, ◌<◌, List, [], length, map, Option, Some, slice_get, if◌then◌else◌}
use Rattle.std.specs.HashMap.{HashMap}
use Rattle.std.specs.Str.{bytes_eq}
use Rattle.std.proofs.Common.{get_or}
use Rattle.indexmap.specs.IndexMap.{get_by}
use Rattle.model_symbols.specs.Symbols as model
use Rattle.model_symbols.specs.Symbols.{QualifiedName, Table, number_of, symbol_in}
use Rattle.model_symbols.specs.Tables.{IsTable, number_in}
use Rattle.acl_syms.specs.Answers.{AreKnown, package_with}
use Rattle.acl_syms.specs.declared.Package.{Package}
use Rattle.acl_syms.specs.declared.Symbol.{Symbol}

abbrev pub name_of : Package → List ℕ
name_of p = p.name.items

-- the names of the packages
abbrev pub names_of : List Package → List (List ℕ)
names_of packages = map name_of packages

-- a symbol, among packages of these names
abbrev pub symbol_of : List (List ℕ) → Symbol → QualifiedName
symbol_of names s = record { home = get_or names s.home.0 []; name = s.name.items }

abbrev pub symbols_of : List Package → List Symbol → List QualifiedName
symbols_of packages symbols = map (symbol_of (names_of packages)) symbols

-- a package, among these symbols
abbrev pub package_of : List QualifiedName → Package → model.Package
package_of symbols p = package_with symbols p.name.items p.imports.items

abbrev pub packages_of : List QualifiedName → List Package → List model.Package
packages_of symbols packages = map (package_of symbols) packages

abbrev pub table_of : List Package → List Symbol → Table
table_of packages symbols = record { packages = packages_of (symbols_of packages symbols) packages; symbols = symbols_of packages symbols }

-- what a package says of a name
abbrev pub known_number : Package → List ℕ → Option ℕ
known_number p name = get_by (λ k. bytes_eq name k.items) p.known

-- a package, among symbols: its imports are known, and it knows exactly its symbols
pub record IsStored (symbols : List QualifiedName) (p : Package) : Type 0 where
  pub imports : AreKnown symbols p.imports.items
  pub knows : (name : List ℕ) → known_number p name ≡ number_of symbols (symbol_in (package_of symbols p) name)

-- the fields make a table, and each package stands in the map of names
pub record AreFields (packages : List Package) (symbols : List Symbol) (names : List (List ℕ)) : Type 0 where
  pub table : IsTable (table_of packages symbols)
  pub homes : (n : ℕ) (s : Symbol) → slice_get symbols n ≡ Some s → s.home.0 < length packages
  pub stored : (n : ℕ) (p : Package) → slice_get packages n ≡ Some p → IsStored (symbols_of packages symbols) p
  pub listed : names ≡ names_of packages

-- a symbol of the table, as it is kept
pub record KeptSymbol (t : Table) (n : ℕ) (s : Symbol) : Type 0 where
  pub name : s.name.items ≡ (model.symbol_at t.symbols n).name
  pub known : model.package_number t.packages (model.symbol_at t.symbols n).home ≡ Some s.home.0
  pub within : s.home.0 < length t.packages

-- a package of the table, as it is kept
pub record KeptPackage (t : Table) (n : ℕ) (p : Package) : Type 0 where
  pub is : package_of t.symbols p ≡ model.package_at t.packages n
  pub imports : AreKnown t.symbols p.imports.items
  pub knows : (name : List ℕ) → known_number p name ≡ number_in t n name

-- the map says of each name what it said, but for one name, which now has this number
abbrev pub Learns : {K S : Type 0} → (K → List ℕ) → HashMap K ℕ S → HashMap K ℕ S → List ℕ → ℕ → Type 0
Learns items old new name number = (other : List ℕ) → get_by (λ k. bytes_eq other (items k)) new ≡ (if bytes_eq other name then Some number else get_by (λ k. bytes_eq other (items k)) old)
