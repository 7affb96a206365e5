-- How a table grows: what a number stood for, it stands for (ACL2's manual, topic DEFPKG).
use Rattle.std.specs.Prelude.{◌≡◌, ℕ, ◌≤◌, List, length, Some, slice_get}
use Rattle.model_symbols.specs.Symbols.{QualifiedName, Package, Table}

-- the symbol of this number is this one
abbrev pub IsSymbol : List QualifiedName → ℕ → QualifiedName → Type 0
IsSymbol symbols n s = slice_get symbols n ≡ Some s

-- the package of this number is this one
abbrev pub IsPackage : List Package → ℕ → Package → Type 0
IsPackage packages n p = slice_get packages n ≡ Some p

pub record Extends (old new : Table) : Type 0 where
  pub longer : length old.symbols ≤ length new.symbols
  pub same : (n : ℕ) (s : QualifiedName) → IsSymbol old.symbols n s → IsSymbol new.symbols n s
  pub more_packages : length old.packages ≤ length new.packages
  pub same_package : (n : ℕ) (p : Package) → IsPackage old.packages n p → IsPackage new.packages n p

-- no symbol has two numbers
abbrev pub AreDistinct : List QualifiedName → Type 0
AreDistinct symbols = (m n : ℕ) (s : QualifiedName) → IsSymbol symbols m s → IsSymbol symbols n s → m ≡ n
