-- The names in a core form: its variables, the names that it binds, and the functions that it calls.
use Rattle.std.specs.Prelude.{ℕ}
use Rattle.std.specs.List.{AllByRecursion}
use Rattle.model_terms.specs.Cores.{Core, Cores, none, more, Var, Const, If, Let, Mv, MvLet, StobjLet, WithLocal, MustBeEqual, Call}

unfoldable mutual
  -- each name in the form has the property
  pub Names : (ℕ → Type 0) → Core → Type 0
  Names P (Var x) = P x
  Names P (Const o) = Unit {0}
  Names P (If a b c) = Names P a × Names P b × Names P c
  Names P (Let names bound body) = AllByRecursion P names × NamesOfAll P bound × Names P body
  Names P (Mv parts) = NamesOfAll P parts
  Names P (MvLet names bound body) = AllByRecursion P names × Names P bound × Names P body
  Names P (StobjLet names bound vars producer consumer) = AllByRecursion P names × NamesOfAll P bound × AllByRecursion P vars × Names P producer × Names P consumer
  Names P (WithLocal stobj names producer body) = P stobj × AllByRecursion P names × Names P producer × Names P body
  Names P (MustBeEqual logic exec) = Names P logic × Names P exec
  Names P (Call f actuals) = P f × NamesOfAll P actuals

  pub NamesOfAll : (ℕ → Type 0) → Cores → Type 0
  NamesOfAll P none = Unit {0}
  NamesOfAll P (more f fs) = Names P f × NamesOfAll P fs
