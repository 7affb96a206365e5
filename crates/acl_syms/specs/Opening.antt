-- How the table that every session begins with is built up.
use Rattle.std.specs.Prelude.{◌≡◌, ℕ, ◌<◌, List, [], ◌∷◌, length, map}
use Rattle.std.proofs.Common.{get_or}
use Rattle.model_symbols.specs.Symbols.{QualifiedName, Table, all_interned}
use Rattle.model_symbols.specs.Opening.{without_imports, common_lisp, keyword, acl2, hidden, common_lisp_symbols}
use Rattle.model_symbols.specs.Tables.{symbol_under}
use Rattle.acl_base.specs.declared.SymId.{SymId}

-- the table once all these are known
abbrev pub with_all : Table → List QualifiedName → Table
with_all t ss = record { packages = t.packages; symbols = all_interned t.symbols ss }

-- the symbols that a package has under names
abbrev pub names_in : Table → ℕ → List (List ℕ) → List QualifiedName
names_in t p names = map (symbol_under t p) names

-- the first symbols in order
pub record AreFirst (count : ℕ) (ids : List SymId) : Type 0 where
  pub many : length ids ≡ count
  pub each : (k : ℕ) (d : SymId) → k < length ids → (get_or ids k d).0 ≡ k

-- with the symbols of `COMMON-LISP`
unfoldable pub lisp_table : Table
lisp_table = record { packages = without_imports common_lisp ∷ without_imports keyword ∷ []; symbols = common_lisp_symbols }

-- with all packages
unfoldable pub full_packages : Table
full_packages = record {
  packages = without_imports common_lisp ∷ without_imports keyword ∷ record { name = acl2; imports = common_lisp_symbols } ∷ without_imports hidden ∷ [];
  symbols = common_lisp_symbols;
}
