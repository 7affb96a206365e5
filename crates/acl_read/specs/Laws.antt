-- What is said of readers, as laws.
use Rattle.std.specs.Prelude.{◌<◌, List, length}
use Rattle.model_symbols.specs.Symbols.{QualifiedName, Table}
use Rattle.model_symbols.specs.Growth.{Extends}
use Rattle.acl_base.specs.declared.PkgId.{PkgId}
use Rattle.acl_read.specs.declared.Reader.{Reader}
use Rattle.acl_read.specs.Reading.{Fits, HasBuiltNothing, IsReady}

-- A reader that fits a table fits the table that it has grown to, in the middle of a form too, where the current package is the
-- same. What it has read is from then on what its bytes lead to where all symbols of the grown table are known. It fits every
-- heap, for it makes words only at a form's end.
pub record KeepsFitting : Type 0 where
  pub fits : (start : List QualifiedName) (t u : Table) (current : PkgId) (r : Reader) → Fits start t current r → current.0 < length t.packages → Extends t u → Fits u.symbols u current r
  pub ready : (t u : Table) (current : PkgId) (r : Reader) → IsReady t current r → current.0 < length t.packages → Extends t u → IsReady u current r
  pub fresh : (t : Table) (current : PkgId) (r : Reader) → HasBuiltNothing r → IsReady t current r
