-- The layout of a stobj: each field is of the general kind, and a child is laid out as its stobj is.
use Rattle.std.specs.Prelude.{ℕ, List, map, Option, Some, None, slice_get, option_and_then}
use Rattle.std.specs.Option.{option_map_or}
use Rattle.acl_base.specs.declared.LayoutId.{LayoutId}
use Rattle.acl_base.specs.declared.layout.Field.{Field}
use Rattle.acl_base.specs.declared.layout.Field.TheVariants as field
use Rattle.acl_base.specs.declared.layout.Kind.TheVariants.{General}
use Rattle.acl_terms.specs.declared.definition.Definition.{Definition}
use Rattle.acl_terms.specs.declared.definition.Definition.TheVariants as definition
use Rattle.acl_terms.specs.declared.stobj.Shape.{Shape}
use Rattle.acl_terms.specs.declared.stobj.Shape.TheVariants as shape
use Rattle.acl_terms.specs.declared.stobj.FieldDescriptor.{FieldDescriptor}
use Rattle.acl_worlds.specs.Contents.{Content, number_of}

abbrev pub no_layout : LayoutId
no_layout = record { 0 = 0 }

-- the layout of a concrete stobj
abbrev pub layout_in : Definition → LayoutId
layout_in (definition.Primitive name row arity) = no_layout
layout_in (definition.Function f) = no_layout
layout_in (definition.Macro m) = no_layout
layout_in (definition.Constant name value) = no_layout
layout_in (definition.Object descriptor layout class) = layout
layout_in (definition.Generated f) = no_layout
layout_in (definition.Abstract descriptor) = no_layout
layout_in (definition.OfAbstract f) = no_layout
layout_in (definition.Named name formals) = no_layout
layout_in (definition.Signed name formals signature executable) = no_layout

abbrev pub layout_number : Content → ℕ → LayoutId
layout_number w x = option_map_or layout_in (option_and_then (slice_get w.definitions) (number_of w x)) no_layout

abbrev pub field_laid : Content → Shape → Field
field_laid w (shape.Scalar spec initial) = field.Scalar General initial
field_laid w (shape.Array spec initial len resizable) = field.Array General initial len resizable
field_laid w (shape.Hash test) = field.Hash test
field_laid w (shape.Child stobj) = field.Child (layout_number w stobj.0)
field_laid w (shape.Children stobj len) = field.Children (layout_number w stobj.0) len

abbrev pub fields_laid : Content → List FieldDescriptor → List Field
fields_laid w fs = map (λ (f : FieldDescriptor). field_laid w f.shape) fs
