-- Resolved forms: a variable is a slot of the window in which a scope has its values, a function the number of its definition.
use Rattle.std.specs.Prelude.{ℕ, Bool, List, [], ◌∷◌, Option}
use Rattle.model_objects.specs.Object.{Object}

-- a variable or a constant
pub data Operand : Type 0 where
  Slot : ℕ → Operand
  Const : Object ℕ → Operand

-- a child that a `STOBJ-LET` binds
pub record Child : Type 0 where
  pub name : ℕ
  pub accessor : ℕ  -- the number of its definition
  pub index : Option Operand  -- its place in an array of children
  pub parent : Operand  -- the variable of the parent
  pub returns : Bool  -- whether the producer gives it back

-- the number that stands first is the slot at which the form's own values begin: part k of a form has its value in that slot and
-- k more, and so have the names that it binds
mutual
  pub data Tree : Type 0 where
    Leaf : Operand → Tree
    If : ℕ → Tree → Tree → Tree → Tree
    Let : ℕ → Trees → Tree → Tree  -- what is bound, body
    Mv : ℕ → Trees → Tree
    MvLet : ℕ → Tree → Tree → Tree  -- bound form, body
    StobjLet : ℕ → List Child → Tree → Tree → Tree  -- producer, consumer
    WithLocal : ℕ → ℕ → Tree → Tree → Tree  -- stobj, producer, body
    MustBeEqual : Tree → Tree  -- the logic's part
    Call : ℕ → ℕ → Trees → Tree  -- the number of the function, actuals

  pub data Trees : Type 0 where
    none : Trees
    more : Tree → Trees → Trees

abbrev pub trees : List Tree → Trees
trees [] = none
trees (t ∷ ts) = more t (trees ts)
