-- A session: symbols and packages, the current package, and the live object. An object is the list of its fields' values.
use Rattle.std.specs.Prelude.{ℕ, List, Bool, ℤ, Option, None}
use Rattle.model_symbols.specs.Symbols.{QualifiedName, Table}
use Rattle.model_symbols.specs.Opening.{opening}

-- a field: the function that reads it, which has its name, and the one that updates it
pub record Field : Type 0 where
  pub name : QualifiedName
  pub updater : QualifiedName

pub record Stobj : Type 0 where
  pub name : QualifiedName
  pub fields : List Field
  pub values : List ℤ

pub record Session : Type 0 where
  pub table : Table
  pub current : ℕ  -- the number of the current package
  pub object : Option Stobj

-- a session begins in `ACL2`
abbrev pub first_session : Session
first_session = record { table = opening; current = 2; object = None }

-- the session in which these symbols are known
abbrev pub knowing : Session → List QualifiedName → Session
knowing s symbols = record s { table = record { packages = s.table.packages; symbols = symbols } }

-- what a command gives: the session after it, its line without the byte that ends it, its calls, and whether it was refused or stopped
pub record Answered : Type 0 where
  pub session : Session
  pub line : List ℕ
  pub calls : ℕ
  pub is_error : Bool
