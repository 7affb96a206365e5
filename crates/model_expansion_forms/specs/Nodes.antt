-- What is said of each node of a core form: whom it calls, how many forms it has, and the constants that stand in it.
use Rattle.std.specs.Prelude.{◌≡◌, ℕ, ◌≤◌, ◌<◌, length, Some}
use Rattle.model_objects.specs.Named.{Symbols}
use Rattle.model_terms.specs.Cores.{Core, Cores, Var, Const, If, Let, Mv, MvLet, StobjLet, WithLocal, MustBeEqual, Call, none, more, count}
use Rattle.model_terms.specs.Worlds.{World, definition}
use Rattle.model_expansion.specs.TypeTerms.{depth_of}
use Rattle.model_expansion.specs.Expansion.{deepest_core, arity_of}

-- the property holds of each node; what a `STOBJ-LET` binds counts too
module _ (P : Core → Type 0) where
  abbrev mutual
    pub EachNode : Core → Type 0
    EachNode (Var x) = P (Var x)
    EachNode (Const o) = P (Const o)
    EachNode (If a b c) = P (If a b c) × EachNode a × EachNode b × EachNode c
    EachNode (Let names bound body) = P (Let names bound body) × AllNodes bound × EachNode body
    EachNode (Mv parts) = P (Mv parts) × AllNodes parts
    EachNode (MvLet names bound body) = P (MvLet names bound body) × EachNode bound × EachNode body
    EachNode (StobjLet names bound vars producer consumer) = P (StobjLet names bound vars producer consumer) × AllNodes bound × EachNode producer × EachNode consumer
    EachNode (WithLocal stobj names producer body) = P (WithLocal stobj names producer body) × EachNode producer × EachNode body
    EachNode (MustBeEqual logic exec) = P (MustBeEqual logic exec) × EachNode logic × EachNode exec
    EachNode (Call f actuals) = P (Call f actuals) × AllNodes actuals

    pub AllNodes : Cores → Type 0
    AllNodes none = Unit {0}
    AllNodes (more f fs) = EachNode f × AllNodes fs

-- a call is of a function that takes as many arguments as it has actuals
abbrev pub IsOwnCall : World → Core → Type 0
IsOwnCall w (Call f actuals) = arity_of (definition w f) ≡ Some (count actuals)
IsOwnCall w f = Unit {0}

-- a `LET` and a `STOBJ-LET` bind as many forms as names
abbrev pub HasForms : Core → Type 0
HasForms (Let names bound body) = count bound ≡ length names
HasForms (StobjLet names bound vars producer consumer) = count bound ≡ length names
HasForms f = Unit {0}

-- several values, and names of several values, are two at least
abbrev pub HasSeveral : Core → Type 0
HasSeveral (Mv parts) = 2 ≤ count parts
HasSeveral (MvLet names bound body) = 2 ≤ length names
HasSeveral (WithLocal stobj names producer body) = 2 ≤ length names
HasSeveral f = Unit {0}

-- each symbol in a constant has the property
abbrev pub HasConstant : (ℕ → Type 0) → Core → Type 0
HasConstant P (Const o) = Symbols P o
HasConstant P f = Unit {0}

-- a number below n
abbrev pub IsBelow : ℕ → ℕ → Type 0
IsBelow n s = s < n

-- a form as the definitions after expansion take it
pub record IsWellCalled (w : World) (f : Core) : Type 0 where
  pub closed : EachNode (IsOwnCall w) f
  pub formed : EachNode HasForms f
  pub several : EachNode HasSeveral f
  pub depth : depth_of f ≤ deepest_core
