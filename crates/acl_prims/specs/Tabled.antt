-- The table of the primitives, as the code has it.
use Rattle.std.specs.Prelude.{ℕ, List, map}
use Rattle.model_symbols.specs.Symbols.{QualifiedName}
use Rattle.model_prims.specs.Rows.{Row, table}
use Rattle.acl_prims.specs.declared.rows.PrimRow.{PrimRow}

-- what a row says: a symbol, and how many arguments its primitive takes
abbrev pub Named : Type 0
Named = QualifiedName × ℕ

abbrev pub names_of : PrimRow → Named
names_of r = (record { home = r.package.now; name = r.name.now }, r.arity)

abbrev pub named_rows : List Named
named_rows = map (λ (r : Row). (r.symbol, r.arity)) table
