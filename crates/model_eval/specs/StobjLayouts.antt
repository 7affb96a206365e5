-- What evaluation takes from a world (ACL2's manual, topic DEFSTOBJ).
use Rattle.std.specs.Prelude.{ℕ, zero, suc, List, [], ◌∷◌, Option, Some, None, unwrap_or}
use Rattle.model_objects.specs.Object.{Object}
use Rattle.model_lists.specs.Types.{ValueType, Anything, type_of}
use Rattle.model_lists.specs.Lists.{StobjList}
use Rattle.model_lists.specs.Layouts.{Layout, NoField, initial}
use Rattle.model_lists.specs.Layouts as layout
use Rattle.model_terms.specs.Worlds.{World, Definition, Descriptor, Shape, Field, definition, Primitive, Defined, Macro, Constant, Concrete, Generated, Abstract, OfAbstract, Named, Signed}
use Rattle.model_terms.specs.Worlds as worlds

-- the most stobjs that are nested in each other, the outermost counted
abbrev pub most_nested : ℕ
most_nested = 64

module _ {S : Type 0} (see : Object ℕ → Object S) where
  -- the type that a field was given; each value meets one that is not accepted
  abbrev pub field_type : Object ℕ → ValueType S
  field_type written = unwrap_or (type_of see written) Anything

  -- a field; `child` gives the layout of another stobj
  abbrev pub shape_layout : (ℕ → Layout S) → Shape → Layout S
  shape_layout child (worlds.Scalar written initial) = layout.Scalar (field_type written) (see initial)
  shape_layout child (worlds.Array written initial length resizable) = layout.Array (field_type written) (see initial) length resizable
  shape_layout child (worlds.Hash test) = layout.Hash test
  shape_layout child (worlds.Child stobj) = child stobj
  shape_layout child (worlds.Children stobj length) = layout.Children length (child stobj)

  abbrev pub fields_layout : (ℕ → Layout S) → List Field → Layout S
  fields_layout child [] = NoField
  fields_layout child (f ∷ fs) = layout.Field (shape_layout child f.shape) (fields_layout child fs)

  -- a stobj; an abstract one is as its foundation
  abbrev pub defined_layout : (ℕ → Layout S) → Option Definition → Layout S
  defined_layout child None = NoField
  defined_layout child (Some (Primitive name row)) = NoField
  defined_layout child (Some (Defined f)) = NoField
  defined_layout child (Some (Macro name formals body)) = NoField
  defined_layout child (Some (Constant name value)) = NoField
  defined_layout child (Some (Concrete d class)) = fields_layout child d.fields
  defined_layout child (Some (Generated f)) = NoField
  defined_layout child (Some (Abstract d)) = child d.foundation
  defined_layout child (Some (OfAbstract f)) = NoField
  defined_layout child (Some (Named name formals)) = NoField
  defined_layout child (Some (Signed name formals signature executable)) = NoField

  unfoldable pub layout_within : World → ℕ → ℕ → Layout S
  layout_within w zero stobj = NoField
  layout_within w (suc d) stobj = defined_layout (layout_within w d) (definition w stobj)

  -- the layout of a stobj of the world
  abbrev pub stobj_layout : World → ℕ → Layout S
  stobj_layout w stobj = layout_within w (suc most_nested) stobj

-- the list of a new stobj
abbrev pub new_list : World → ℕ → StobjList ℕ
new_list w x = initial (stobj_layout (λ (o : Object ℕ). o) w x)
