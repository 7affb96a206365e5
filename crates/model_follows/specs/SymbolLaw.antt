-- Values of the logic do not depend on the symbols that a book has beside those of the world, as a law.
use Rattle.std.specs.Prelude.{◌≡◌, ℕ, ◌<◌, List, length, Some}
use Rattle.model_objects.specs.Named.{Knows}
use Rattle.model_symbols.specs.Symbols.{QualifiedName, Table}
use Rattle.model_symbols.specs.Growth.{Extends}
use Rattle.model_terms.specs.Cores.{Core, Cores, Var, Const, If, Let, Mv, MvLet, StobjLet, WithLocal, MustBeEqual, Call, none, more}
use Rattle.model_terms.specs.Worlds.{World, Function, Defined, definition}
use Rattle.model_logic.specs.Logic.{Thing, CallEndsWith}
use Rattle.model_accepted.specs.Threaded.{layout_of}
use Rattle.model_follows.specs.FollowedWorlds.{LayoutSymbols}
use Rattle.model_follows.specs.Follows.{table_of}
use Rattle.model_follows.specs.Corresponding.{theory_with}

-- the symbols of the constants that the logic meets in a form are below this number
unfoldable mutual
  pub KnowsForm : ℕ → Core → Type 0
  KnowsForm n (Var x) = Unit {0}
  KnowsForm n (Const o) = Knows n o
  KnowsForm n (If test then other) = KnowsForm n test × KnowsForm n then × KnowsForm n other
  KnowsForm n (Let names bound body) = KnowsForms n bound × KnowsForm n body
  KnowsForm n (Mv parts) = KnowsForms n parts
  KnowsForm n (MvLet names bound body) = KnowsForm n bound × KnowsForm n body
  KnowsForm n (StobjLet names bound vars producer consumer) = KnowsForms n bound × KnowsForm n producer × KnowsForm n consumer
  KnowsForm n (WithLocal stobj names producer body) = KnowsForm n producer × KnowsForm n body
  KnowsForm n (MustBeEqual logic exec) = KnowsForm n logic
  KnowsForm n (Call f actuals) = KnowsForms n actuals

  pub KnowsForms : ℕ → Cores → Type 0
  KnowsForms n none = Unit {0}
  KnowsForms n (more form forms) = KnowsForm n form × KnowsForms n forms

-- the same of the world's functions, also of those that cannot be executed, and of types and initial values
pub record IsWritten (w : World) (n : ℕ) : Type 0 where
  pub bodies : (x : ℕ) (f : Function) → definition w x ≡ Some (Defined f) → KnowsForm n f.body
  pub layouts : (x : ℕ) → LayoutSymbols (λ s. s < n) (layout_of w x)

pub record SymbolsNoMatter : Type 0 where
  pub calls : (w : World) (base : Table) (first second : List QualifiedName) → Extends base (table_of base.packages first) → Extends base (table_of base.packages second) → IsWritten w (length base.symbols)
      → (name : ℕ) (args : List Thing) (v : Thing) → CallEndsWith (theory_with w base first) name args v → CallEndsWith (theory_with w base second) name args v
