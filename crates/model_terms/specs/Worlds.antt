-- Worlds: the definitions that stand, by the numbers of their names (ACL2's manual, topic WORLD).
use Rattle.std.specs.Prelude.{ℕ, List, map, Bool, Option, nat_eq}
use Rattle.std.specs.List.{find, IsDistinct}
use Rattle.acl_base.specs.declared.layout.Test.{Test}
use Rattle.model_objects.specs.Object.{Object}
use Rattle.model_prims.specs.Rows.{Row}
use Rattle.model_terms.specs.declared.role.Role.{Role}
use Rattle.model_terms.specs.declared.role.AbstractRole.{AbstractRole}
use Rattle.model_terms.specs.Cores.{Core}

-- an output, or the kind of a name: ordinary, or the stobj of this name
pub data Out : Type 0 where
  Ordinary : Out
  Stobj : ℕ → Out

pub record Signature : Type 0 where
  pub ins : List Out
  pub outs : List Out

-- a name in scope
pub record Entry : Type 0 where
  pub name : ℕ
  pub kind : Out

-- names, the outermost first; of a name that stands twice the last counts
abbrev pub Scope : Type 0
Scope = List Entry

-- ---- stobjs

-- a field: one element, an array, a hash field, a stobj, an array of stobjs
pub data Shape : Type 0 where
  Scalar : Object ℕ → Object ℕ → Shape  -- its type as it was written, initial value
  Array : Object ℕ → Object ℕ → ℕ → Bool → Shape  -- the type and initial value of an element, first length, whether it may be resized
  Hash : Test → Shape
  Child : ℕ → Shape  -- its stobj
  Children : ℕ → ℕ → Shape  -- the stobj of each, length

pub record Field : Type 0 where
  pub name : ℕ
  pub shape : Shape
  pub made : List ℕ  -- the names of its functions, its recognizer first

pub record Descriptor : Type 0 where
  pub name : ℕ
  pub recognizer : ℕ
  pub creator : ℕ
  pub fields : List Field
  pub congruent_to : Option ℕ

-- ---- abstract stobjs

pub record AbstractFunction : Type 0 where
  pub name : ℕ
  pub logic : ℕ
  pub exec : ℕ

pub record AbstractDescriptor : Type 0 where
  pub name : ℕ
  pub foundation : ℕ
  pub corr : ℕ
  pub recognizer : AbstractFunction
  pub creator : AbstractFunction
  pub exports : List AbstractFunction

-- ---- definitions

-- a formal that may be left out: what it then is, and the formal that says whether it was there
pub record OptionalFormal : Type 0 where
  pub name : ℕ
  pub default : Object ℕ
  pub supplied : Option ℕ

pub record MacroFormals : Type 0 where
  pub required : List ℕ
  pub optional : List OptionalFormal
  pub rest : Option ℕ
  pub keys : Option (List OptionalFormal)  -- where `&key` is among them, also with no formal behind it

pub record Function : Type 0 where
  pub name : ℕ
  pub formals : List ℕ
  pub signature : Signature
  pub guard : Core
  pub body : Core
  pub executable : Bool

-- a function that a concrete stobj comes with, of the field of this number where it is one of a field
pub record GeneratedFunction : Type 0 where
  pub name : ℕ
  pub stobj : ℕ
  pub field : Option ℕ
  pub role : Role
  pub signature : Signature

-- a function of an abstract stobj
pub record FunctionOfAbstract : Type 0 where
  pub name : ℕ
  pub stobj : ℕ
  pub role : AbstractRole
  pub formals : List ℕ
  pub signature : Signature
  pub guard : Core
  pub logic : ℕ
  pub exec : ℕ

pub data Definition : Type 0 where
  Primitive : ℕ → Row → Definition  -- name
  Defined : Function → Definition
  Macro : ℕ → MacroFormals → Core → Definition  -- name, formals, body
  Constant : ℕ → Object ℕ → Definition  -- name, value
  Concrete : Descriptor → ℕ → Definition  -- a stobj, and the first stobj of its congruence class
  Generated : GeneratedFunction → Definition
  Abstract : AbstractDescriptor → Definition
  OfAbstract : FunctionOfAbstract → Definition
  Named : ℕ → List ℕ → Definition  -- a function that is being admitted: name, formals
  Signed : ℕ → List ℕ → Signature → Bool → Definition  -- the same with its signature, and whether it is executable

abbrev pub definition_name : Definition → ℕ
definition_name (Primitive name row) = name
definition_name (Defined f) = f.name
definition_name (Macro name formals body) = name
definition_name (Constant name value) = name
definition_name (Concrete d class) = d.name
definition_name (Generated f) = f.name
definition_name (Abstract d) = d.name
definition_name (OfAbstract f) = f.name
definition_name (Named name formals) = name
definition_name (Signed name formals signature executable) = name

-- definitions, in the order in which they were admitted
abbrev pub World : Type 0
World = List Definition

-- no two definitions have one name
abbrev pub HasDistinctNames : World → Type 0
HasDistinctNames w = IsDistinct nat_eq (map definition_name w)

-- the definition of a name
abbrev pub definition : World → ℕ → Option Definition
definition w x = find (λ d. nat_eq x (definition_name d)) w
