-- Symbols of values of the logic are of known packages, as a law.
use Rattle.std.specs.Prelude.{ℕ, List, length}
use Rattle.model_objects.specs.Named.{Symbols}
use Rattle.model_symbols.specs.Tables.{IsTable}
use Rattle.model_prims.specs.Laws.{NamesTruth}
use Rattle.model_logic.specs.Logic.{Theory, Thing, CallEndsWith}
use Rattle.model_abstract.specs.Corresponding.{HasPackage}
use Rattle.model_follows.specs.Abstract.{HaveHomes}
use Rattle.model_follows.specs.Follows.{table_of}
use Rattle.model_follows.specs.SymbolLaw.{IsWritten}

-- what a call of the logic gives has symbols of known packages, where its arguments have
pub record CallsKeepHomes : Type 0 where
  pub homes : (b : Theory) → IsTable (table_of b.packages b.symbols) → NamesTruth (table_of b.packages b.symbols) → IsWritten b.world (length b.symbols)
      → (name : ℕ) (args : List Thing) (v : Thing) → HaveHomes b args → CallEndsWith b name args v → Symbols (HasPackage b) v
