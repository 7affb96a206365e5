-- The definitions that those of the program stand for in a heap, and how far their words reach.
use Rattle.std.specs.Prelude.{◌≡◌, ℕ, ◌≤◌, ◌<◌, List, map, max, length, unwrap_or, slice_get, Option, Some, None}
use Rattle.acl_heap.specs.Objects.{Objects, object_of, reach}
use Rattle.model_prims.specs.Rows.{Row, table, no_row, arity_of}
use Rattle.model_terms.specs.Worlds as worlds
use Rattle.acl_terms.specs.declared.stobj.Shape.{Shape}
use Rattle.acl_terms.specs.declared.stobj.Shape.TheVariants as shape
use Rattle.acl_terms.specs.declared.stobj.FieldDescriptor.{FieldDescriptor}
use Rattle.acl_terms.specs.declared.stobj.Descriptor.{Descriptor}
use Rattle.acl_terms.specs.declared.stobj.AbsFunction.{AbsFunction}
use Rattle.acl_terms.specs.declared.stobj.AbsDescriptor.{AbsDescriptor}
use Rattle.acl_terms.specs.declared.definition.OptionalFormal.{OptionalFormal}
use Rattle.acl_terms.specs.declared.definition.MacroFormals.{MacroFormals}
use Rattle.acl_terms.specs.declared.definition.Function.{Function}
use Rattle.acl_terms.specs.declared.definition.GeneratedFunction.{GeneratedFunction}
use Rattle.acl_terms.specs.declared.definition.AbstractFunction.{AbstractFunction}
use Rattle.acl_terms.specs.declared.definition.Definition.{Definition}
use Rattle.acl_terms.specs.declared.definition.Definition.TheVariants as definition
use Rattle.acl_terms.specs.Forms.{numbers, seen_core, core_reach, most}
use Rattle.acl_terms.specs.Signatures.{seen_signature, seen_name}

-- ---- objects

abbrev pub seen_shape : Objects → Shape → worlds.Shape
seen_shape h (shape.Scalar spec initial) = worlds.Scalar (object_of h spec) (object_of h initial)
seen_shape h (shape.Array spec initial len resizable) = worlds.Array (object_of h spec) (object_of h initial) len resizable
seen_shape h (shape.Hash test) = worlds.Hash test
seen_shape h (shape.Child stobj) = worlds.Child stobj.0
seen_shape h (shape.Children stobj len) = worlds.Children stobj.0 len

abbrev pub seen_field : Objects → FieldDescriptor → worlds.Field
seen_field h f = record { name = f.name.0; shape = seen_shape h f.shape; made = numbers f.made }

abbrev pub seen_descriptor : Objects → Descriptor → worlds.Descriptor
seen_descriptor h d = record {
  name = d.name.0;
  recognizer = d.recognizer.0;
  creator = d.creator.0;
  fields = map (seen_field h) d.fields;
  congruent_to = seen_name d.congruent_to;
}

abbrev pub seen_abs_function : AbsFunction → worlds.AbstractFunction
seen_abs_function f = record { name = f.name.0; logic = f.logic.0; exec = f.exec.0 }

abbrev pub seen_abs_descriptor : AbsDescriptor → worlds.AbstractDescriptor
seen_abs_descriptor d = record {
  name = d.name.0;
  foundation = d.foundation.0;
  corr = d.corr.0;
  recognizer = seen_abs_function d.recognizer;
  creator = seen_abs_function d.creator;
  exports = map seen_abs_function d.exports;
}

-- ---- definitions

abbrev pub seen_optional : Objects → OptionalFormal → worlds.OptionalFormal
seen_optional h f = record { name = f.name.0; default = object_of h f.default; supplied = seen_name f.supplied }

-- the formals behind a mark, where it stands
abbrev pub seen_optionals : Objects → Option (List OptionalFormal) → Option (List worlds.OptionalFormal)
seen_optionals h None = None
seen_optionals h (Some fs) = Some (map (seen_optional h) fs)

abbrev pub optionals_reach : Option (List OptionalFormal) → ℕ
optionals_reach None = 0
optionals_reach (Some fs) = most (map (λ (o : OptionalFormal). reach o.default) fs)

abbrev pub seen_formals : Objects → MacroFormals → worlds.MacroFormals
seen_formals h f = record {
  required = numbers f.required;
  optional = map (seen_optional h) f.optional;
  rest = seen_name f.rest;
  keys = seen_optionals h f.keys;
}

abbrev pub seen_function : Objects → Function → worlds.Function
seen_function h f = record {
  name = f.name.0;
  formals = numbers f.formals;
  signature = seen_signature f.signature;
  guard = seen_core h f.guard;
  body = seen_core h f.body;
  executable = f.executable;
}

abbrev pub seen_generated : GeneratedFunction → worlds.GeneratedFunction
seen_generated f = record { name = f.name.0; stobj = f.stobj.0; field = f.field; role = f.role; signature = seen_signature f.signature }

abbrev pub seen_of_abstract : Objects → AbstractFunction → worlds.FunctionOfAbstract
seen_of_abstract h f = record {
  name = f.name.0;
  stobj = f.stobj.0;
  role = f.role;
  formals = numbers f.formals;
  signature = seen_signature f.signature;
  guard = seen_core h f.guard;
  logic = f.logic.0;
  exec = f.exec.0;
}

-- the row of the table of primitives
abbrev pub row_at : ℕ → Row
row_at n = unwrap_or (slice_get table n) no_row

abbrev pub seen_definition : Objects → Definition → worlds.Definition
seen_definition h (definition.Primitive name row arity) = worlds.Primitive name.0 (row_at row)
seen_definition h (definition.Function f) = worlds.Defined (seen_function h f)
seen_definition h (definition.Macro m) = worlds.Macro m.name.0 (seen_formals h m.formals) (seen_core h m.body)
seen_definition h (definition.Constant name value) = worlds.Constant name.0 (object_of h value)
seen_definition h (definition.Object descriptor layout class) = worlds.Concrete (seen_descriptor h descriptor) class.0
seen_definition h (definition.Generated f) = worlds.Generated (seen_generated f)
seen_definition h (definition.Abstract descriptor) = worlds.Abstract (seen_abs_descriptor descriptor)
seen_definition h (definition.OfAbstract f) = worlds.OfAbstract (seen_of_abstract h f)
seen_definition h (definition.Named name formals) = worlds.Named name.0 (numbers formals)
seen_definition h (definition.Signed name formals signature executable) = worlds.Signed name.0 (numbers formals) (seen_signature signature) executable

abbrev pub seen_definitions : Objects → List Definition → worlds.World
seen_definitions h ds = map (seen_definition h) ds

-- the number of a definition's name
abbrev pub name_in : Definition → ℕ
name_in (definition.Primitive name row arity) = name.0
name_in (definition.Function f) = f.name.0
name_in (definition.Macro m) = m.name.0
name_in (definition.Constant name value) = name.0
name_in (definition.Object descriptor layout class) = descriptor.name.0
name_in (definition.Generated f) = f.name.0
name_in (definition.Abstract descriptor) = descriptor.name.0
name_in (definition.OfAbstract f) = f.name.0
name_in (definition.Named name formals) = name.0
name_in (definition.Signed name formals signature executable) = name.0

-- a primitive has its row's number of arguments
abbrev pub FitsTable : Definition → Type 0
FitsTable (definition.Primitive name row arity) = (row < length table) × (arity ≡ arity_of row)
FitsTable (definition.Function f) = Unit {0}
FitsTable (definition.Macro m) = Unit {0}
FitsTable (definition.Constant name value) = Unit {0}
FitsTable (definition.Object descriptor layout class) = Unit {0}
FitsTable (definition.Generated f) = Unit {0}
FitsTable (definition.Abstract descriptor) = Unit {0}
FitsTable (definition.OfAbstract f) = Unit {0}
FitsTable (definition.Named name formals) = Unit {0}
FitsTable (definition.Signed name formals signature executable) = Unit {0}

-- ---- words

abbrev pub shape_reach : Shape → ℕ
shape_reach (shape.Scalar spec initial) = max (reach spec) (reach initial)
shape_reach (shape.Array spec initial len resizable) = max (reach spec) (reach initial)
shape_reach (shape.Hash test) = 0
shape_reach (shape.Child stobj) = 0
shape_reach (shape.Children stobj len) = 0

abbrev pub descriptor_reach : Descriptor → ℕ
descriptor_reach d = most (map (λ (f : FieldDescriptor). shape_reach f.shape) d.fields)

abbrev pub formals_reach : MacroFormals → ℕ
formals_reach f = max (most (map (λ (o : OptionalFormal). reach o.default) f.optional)) (optionals_reach f.keys)

-- how many cells a heap has at least in which the definition's words lie
abbrev pub definition_reach : Definition → ℕ
definition_reach (definition.Primitive name row arity) = 0
definition_reach (definition.Function f) = max (core_reach f.guard) (core_reach f.body)
definition_reach (definition.Macro m) = max (formals_reach m.formals) (core_reach m.body)
definition_reach (definition.Constant name value) = reach value
definition_reach (definition.Object descriptor layout class) = descriptor_reach descriptor
definition_reach (definition.Generated f) = 0
definition_reach (definition.Abstract descriptor) = 0
definition_reach (definition.OfAbstract f) = core_reach f.guard
definition_reach (definition.Named name formals) = 0
definition_reach (definition.Signed name formals signature executable) = 0

-- each word of the definition lies below the top of the heap
abbrev pub DefinitionLies : Objects → Definition → Type 0
DefinitionLies h d = definition_reach d ≤ length h

abbrev pub definitions_reach : List Definition → ℕ
definitions_reach ds = most (map definition_reach ds)

abbrev pub DefinitionsLie : Objects → List Definition → Type 0
DefinitionsLie h ds = definitions_reach ds ≤ length h
