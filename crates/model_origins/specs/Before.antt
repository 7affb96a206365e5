-- Worlds that became this one, in which functions were checked: what was found in them is found however the world grows.
use Rattle.std.specs.Prelude.{◌≡◌, ℕ, true, Some}
use Rattle.model_terms.specs.declared.role.AbstractRole.TheVariants as abstract_role
use Rattle.model_terms.specs.Cores.{Core}
use Rattle.model_terms.specs.Worlds.{World, Definition, Function, FunctionOfAbstract, MacroFormals, definition, Primitive, Defined, Macro, Constant, Concrete, Generated, Abstract, OfAbstract, Named, Signed}
use Rattle.model_eval_laws.specs.Agreement.{IsClosedWorld}
use Rattle.model_lawful.specs.Growth.{Becomes, HasLawfulStobjs}
use Rattle.model_slots.specs.Trees.{Tree}
use Rattle.model_window.specs.Stands.{Origins}
use Rattle.model_macro_bodies.specs.Bodies.{HasBody}

pub record IsBefore (c w : World) : Type 0 where
  pub closed : IsClosedWorld c
  pub stobjs : HasLawfulStobjs c
  pub becomes : Becomes c w

-- the worlds in which the functions of a world were checked became it
pub record AreBefore (w : World) (origins : Origins) : Type 0 where
  pub guard : (x : ℕ) (f : Function) → definition w x ≡ Some (Defined f) → f.executable ≡ true → IsBefore (origins.guard x) w
  pub body : (x : ℕ) (f : Function) → definition w x ≡ Some (Defined f) → f.executable ≡ true → IsBefore (origins.body x) w
  pub export : (x : ℕ) (f : FunctionOfAbstract) → definition w x ≡ Some (OfAbstract f) → f.role ≡ abstract_role.Export → IsBefore (origins.guard x) w

-- so did that in which no rule failed at a macro
pub record HadBody (w : World) (formals : MacroFormals) (body : Core) (tree : Tree) : Type 0 where
  pub has : HasBody w formals body tree
  pub before : IsBefore has.world w

-- it is no function that was written, and no function of an abstract stobj
abbrev pub HasNoCode : Definition → Type 0
HasNoCode (Primitive name row) = Unit {0}
HasNoCode (Defined f) = ⊥
HasNoCode (Macro name formals body) = Unit {0}
HasNoCode (Constant name value) = Unit {0}
HasNoCode (Concrete d class) = Unit {0}
HasNoCode (Generated g) = Unit {0}
HasNoCode (Abstract d) = Unit {0}
HasNoCode (OfAbstract f) = ⊥
HasNoCode (Named name formals) = Unit {0}
HasNoCode (Signed name formals signature executable) = Unit {0}
