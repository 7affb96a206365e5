-- When one outcome agrees with another, and worlds that have grown.
use Rattle.std.specs.Prelude.{◌≡◌, ℕ, List, [], ◌∷◌, Option, Some, None, ◌⊎◌}
use Rattle.model_terms.specs.Cores.{Core, Cores, Reached, Var, Const, If, Let, Mv, MvLet, StobjLet, WithLocal, MustBeEqual, Call, none, more, reached}
use Rattle.model_terms.specs.Worlds.{World, Definition, Shape, Field, definition, Primitive, Defined, Macro, Constant, Concrete, Generated, Abstract, OfAbstract, Named, Signed}
use Rattle.model_terms.specs.Worlds as worlds
use Rattle.model_eval.specs.Outcomes.{Stop, Outcome, Gives, Stops, Unknown}

-- ---- outcomes

-- the second is the first, unless the first is a stop that is excused
abbrev pub Agrees : {S : Type 0} → (Stop S → Type 0) → Outcome S → Outcome S → Type 0
Agrees Excused (Gives values state) r = r ≡ Gives values state
Agrees Excused (Stops stop origin state) r = Excused stop ⊎ (r ≡ Stops stop origin state)
Agrees Excused Unknown r = r ≡ Unknown

-- ---- names that a form needs

-- each name that is called, borrowed by or made a local stobj in the form stands
module _ (Stands : ℕ → Type 0) where
  abbrev pub ReachedStands : Option Reached → Type 0
  ReachedStands None = Unit {0}
  ReachedStands (Some by) = Stands by.accessor

  abbrev mutual
    pub Closed : Core → Type 0
    Closed (Var x) = Unit {0}
    Closed (Const o) = Unit {0}
    Closed (If a b c) = Closed a × Closed b × Closed c
    Closed (Let names forms body) = AllClosed forms × Closed body
    Closed (Mv parts) = AllClosed parts
    Closed (MvLet names form body) = Closed form × Closed body
    Closed (StobjLet names forms vars producer consumer) = AllReached forms × Closed producer × Closed consumer
    Closed (WithLocal stobj names producer body) = Stands stobj × Closed producer × Closed body
    Closed (MustBeEqual logic exec) = Closed logic
    Closed (Call f actuals) = Stands f × AllClosed actuals

    pub AllClosed : Cores → Type 0
    AllClosed none = Unit {0}
    AllClosed (more form forms) = Closed form × AllClosed forms

    pub AllReached : Cores → Type 0
    AllReached none = Unit {0}
    AllReached (more form forms) = ReachedStands (reached form) × AllReached forms

  -- the same of the stobjs that are children
  abbrev pub ShapeStands : Shape → Type 0
  ShapeStands (worlds.Scalar written initial) = Unit {0}
  ShapeStands (worlds.Array written initial length resizable) = Unit {0}
  ShapeStands (worlds.Hash test) = Unit {0}
  ShapeStands (worlds.Child stobj) = Stands stobj
  ShapeStands (worlds.Children stobj length) = Stands stobj

  abbrev pub FieldsStand : List Field → Type 0
  FieldsStand [] = Unit {0}
  FieldsStand (f ∷ fs) = ShapeStands f.shape × FieldsStand fs

  -- the same of what a definition runs or is made of
  abbrev pub ClosedDefinition : Definition → Type 0
  ClosedDefinition (Primitive name row) = Unit {0}
  ClosedDefinition (Defined f) = Closed f.guard × Closed f.body
  ClosedDefinition (Macro name formals body) = Unit {0}
  ClosedDefinition (Constant name value) = Unit {0}
  ClosedDefinition (Concrete d class) = FieldsStand d.fields
  ClosedDefinition (Generated g) = Stands g.stobj
  ClosedDefinition (Abstract d) = Stands d.foundation
  ClosedDefinition (OfAbstract f) = Closed f.guard × Stands f.exec
  ClosedDefinition (Named name formals) = Unit {0}
  ClosedDefinition (Signed name formals signature executable) = Unit {0}

-- ---- worlds

-- a name of the world
abbrev pub StandsIn : World → ℕ → Type 0
StandsIn w x = (d : Definition) × (definition w x ≡ Some d)

-- each name that a definition needs is one of the world
pub record IsClosedWorld (w : World) : Type 0 where
  pub definitions : (x : ℕ) (d : Definition) → definition w x ≡ Some d → ClosedDefinition (StandsIn w) d

-- each definition of the first world stands in the second
pub record HasGrown (old new : World) : Type 0 where
  pub same : (x : ℕ) (d : Definition) → definition old x ≡ Some d → definition new x ≡ Some d
