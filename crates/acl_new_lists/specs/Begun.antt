-- What stobjs begin as where so many may be nested in each other, and their fields where so many may be nested in each.
use Rattle.std.specs.Prelude.{ℕ, ◌≤◌, List, map, length, Option, Some, None}
use Rattle.model_objects.specs.Object.{Object}
use Rattle.model_lists.specs.Lists.{StobjList}
use Rattle.model_lists.specs.Layouts.{initial}
use Rattle.model_terms.specs.Worlds as worlds
use Rattle.model_eval.specs.StobjLayouts.{shape_layout, fields_layout, layout_within}
use Rattle.acl_heap.specs.Objects.{Objects}
use Rattle.acl_terms.specs.Forms.{most}
use Rattle.acl_terms.specs.Definitions.{shape_reach}
use Rattle.acl_terms.specs.declared.stobj.FieldDescriptor.{FieldDescriptor}

abbrev pub itself : Object ℕ → Object ℕ
itself o = o

unfoldable pub begun : worlds.World → ℕ → ℕ → StobjList ℕ
begun w d x = initial (layout_within itself w d x)

unfoldable pub shape_begun : worlds.World → ℕ → worlds.Shape → StobjList ℕ
shape_begun w d s = initial (shape_layout itself (layout_within itself w d) s)

unfoldable pub fields_begun : worlds.World → ℕ → List worlds.Field → StobjList ℕ
fields_begun w d fs = initial (fields_layout itself (layout_within itself w d) fs)

-- the foundation of an abstract stobj
abbrev pub foundation_in : worlds.Definition → Option ℕ
foundation_in (worlds.Primitive name row) = None
foundation_in (worlds.Defined f) = None
foundation_in (worlds.Macro name formals body) = None
foundation_in (worlds.Constant name value) = None
foundation_in (worlds.Concrete d class) = None
foundation_in (worlds.Generated f) = None
foundation_in (worlds.Abstract d) = Some d.foundation
foundation_in (worlds.OfAbstract f) = None
foundation_in (worlds.Named name formals) = None
foundation_in (worlds.Signed name formals signature executable) = None

-- each word of the fields lies below the top of the heap
abbrev pub FieldsLie : Objects → List FieldDescriptor → Type 0
FieldsLie h fs = most (map (λ (f : FieldDescriptor). shape_reach f.shape) fs) ≤ length h
