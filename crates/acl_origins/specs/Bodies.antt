-- The bodies of macros in a table of terms.
use Rattle.std.specs.Prelude.{◌<◌, List, length}
use Rattle.std.specs.List.{AllByRecursion, Contains}
use Rattle.acl_heap.specs.Objects.{Objects}
use Rattle.model_terms.specs.Worlds.{World}
use Rattle.model_macro_bodies.specs.Bodies.{HasBody}
use Rattle.model_origins.specs.Before.{HadBody}
use Rattle.acl_terms.specs.Definitions.{seen_formals}
use Rattle.acl_terms.specs.Forms.{seen_core}
use Rattle.acl_terms.specs.declared.definition.Macro.{Macro}
use Rattle.acl_terms.specs.declared.definition.Definition.{Definition}
use Rattle.acl_terms.specs.declared.definition.Definition.TheVariants as definition
use Rattle.acl_code.specs.declared.term.Term.{Term}
use Rattle.acl_code.specs.Tables.{tree_at}

-- the term of a macro's body is a number of the table
abbrev pub MacroWithin : List Term → Definition → Type 0
MacroWithin ts (definition.Primitive name row arity) = Unit {0}
MacroWithin ts (definition.Function f) = Unit {0}
MacroWithin ts (definition.Macro m) = m.body_term.0 < length ts
MacroWithin ts (definition.Constant name value) = Unit {0}
MacroWithin ts (definition.Object descriptor layout class) = Unit {0}
MacroWithin ts (definition.Generated f) = Unit {0}
MacroWithin ts (definition.Abstract descriptor) = Unit {0}
MacroWithin ts (definition.OfAbstract f) = Unit {0}
MacroWithin ts (definition.Named name formals) = Unit {0}
MacroWithin ts (definition.Signed name formals signature executable) = Unit {0}

abbrev pub MacrosWithin : List Term → List Definition → Type 0
MacrosWithin ts ds = AllByRecursion (MacroWithin ts) ds

-- it is no macro
abbrev pub HasNoBody : Definition → Type 0
HasNoBody (definition.Primitive name row arity) = Unit {0}
HasNoBody (definition.Function f) = Unit {0}
HasNoBody (definition.Macro m) = ⊥
HasNoBody (definition.Constant name value) = Unit {0}
HasNoBody (definition.Object descriptor layout class) = Unit {0}
HasNoBody (definition.Generated f) = Unit {0}
HasNoBody (definition.Abstract descriptor) = Unit {0}
HasNoBody (definition.OfAbstract f) = Unit {0}
HasNoBody (definition.Named name formals) = Unit {0}
HasNoBody (definition.Signed name formals signature executable) = Unit {0}

-- the term of each macro among these definitions stands for the tree of its body, as the machine asks it in this world
pub record HaveBodies (h : Objects) (w : World) (ts : List Term) (ds : List Definition) : Type 0 where
  pub each : (m : Macro) → Contains ds (definition.Macro m) → HasBody w (seen_formals h m.formals) (seen_core h m.body) (tree_at h ts m.body_term)

-- and the world in which no rule failed at it became this one
pub record HadBodies (h : Objects) (w : World) (ts : List Term) (ds : List Definition) : Type 0 where
  pub each : (m : Macro) → Contains ds (definition.Macro m) → HadBody w (seen_formals h m.formals) (seen_core h m.body) (tree_at h ts m.body_term)
