-- Core forms: what expansion leaves of a form. Names and functions are the numbers of their symbols (ACL2's manual, topic
-- TERM).
use Rattle.std.specs.Prelude.{ℕ, zero, suc, ◌+◌, List, [], ◌∷◌, Option, Some, None, option_map, option_and_then}
use Rattle.model_objects.specs.Object.{Object}

mutual
  -- names and the forms that belong to them stand apart, in the same order
  pub data Core : Type 0 where
    Var : ℕ → Core
    Const : Object ℕ → Core
    If : Core → Core → Core → Core
    Let : List ℕ → Cores → Core → Core  -- names, what is bound to them, body
    Mv : Cores → Core
    MvLet : List ℕ → Core → Core → Core  -- names, bound form, body
    StobjLet : List ℕ → Cores → List ℕ → Core → Core → Core  -- children, what is bound to them, variables, producer, consumer
    WithLocal : ℕ → List ℕ → Core → Core → Core  -- stobj, names, producer, body
    MustBeEqual : Core → Core → Core  -- the logic's part, and the one that would be run
    Call : ℕ → Cores → Core

  -- a list of core forms
  pub data Cores : Type 0 where
    none : Cores
    more : Core → Cores → Cores

abbrev pub cores : List Core → Cores
cores [] = none
cores (f ∷ fs) = more f (cores fs)

abbrev pub count : Cores → ℕ
count none = 0
count (more f fs) = 1 + count fs

-- ---- places

-- a form after others
abbrev pub and_last : Cores → Core → Cores
and_last none f = more f none
and_last (more g gs) f = more g (and_last gs f)

-- the children of a form, by their numbers from 0; what a `STOBJ-LET` binds is none
abbrev pub children : Core → Cores
children (Var x) = none
children (Const o) = none
children (If a b c) = more a (more b (more c none))
children (Let names bound body) = and_last bound body
children (Mv parts) = parts
children (MvLet names bound body) = more bound (more body none)
children (StobjLet names bound vars producer consumer) = more producer (more consumer none)
children (WithLocal stobj names producer body) = more producer (more body none)
children (MustBeEqual logic exec) = more logic (more exec none)
children (Call f actuals) = actuals

abbrev pub child_at : Cores → ℕ → Option Core
child_at none i = None
child_at (more f fs) zero = Some f
child_at (more f fs) (suc i) = child_at fs i

-- the number of a child, the number of a child of that, and so on
abbrev pub Place : Type 0
Place = List ℕ

-- the form at a place
abbrev pub form_at : Core → Place → Option Core
form_at f [] = Some f
form_at f (i ∷ place) = option_and_then (λ g. form_at g place) (child_at (children f) i)

-- ---- what is read off a form

-- the name of a variable
abbrev pub variable : Core → Option ℕ
variable (Var x) = Some x
variable f = None

-- what a `STOBJ-LET` binds to a child: the child's accessor, the index in an array of children, and the variable of the parent
pub record Reached : Type 0 where
  pub accessor : ℕ
  pub index : Option Core
  pub parent : ℕ

-- an accessor with its index and the variable of a parent
abbrev pub reached_from : ℕ → Option Core → Core → Option Reached
reached_from f index parent = option_map (λ p. record { accessor = f; index = index; parent = p }) (variable parent)

-- (f p) or (f index p), p a variable
abbrev pub reached_by : ℕ → Cores → Option Reached
reached_by f none = None
reached_by f (more p none) = reached_from f None p
reached_by f (more index (more p none)) = reached_from f (Some index) p
reached_by f (more a (more b (more c rest))) = None

abbrev pub reached : Core → Option Reached
reached (Call f actuals) = reached_by f actuals
reached f = None
