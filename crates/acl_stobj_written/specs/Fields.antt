-- Fields as they are written, and with their shapes, that those of the program stand for in a heap.
use Rattle.std.specs.Prelude.{◌≡◌, ℕ, ◌≤◌, List, map, max, length, Option, Some, None}
use Rattle.model_objects.specs.Object.{Object}
use Rattle.model_terms.specs.Worlds as worlds
use Rattle.model_stobjs.specs.Descriptors as written
use Rattle.acl_base.specs.declared.Word.{Word}
use Rattle.acl_heap.specs.Objects.{Objects, object_of, Lies}
use Rattle.acl_terms.specs.Forms.{most}
use Rattle.acl_terms.specs.Definitions.{seen_shape, shape_reach}
use Rattle.acl_layers.specs.Lists.{items_along}
use Rattle.acl_stobj_read.specs.declared.written.WrittenField.{WrittenField}
use Rattle.acl_stobj_read.specs.Written.{seen_written, written_reach, seen_fields, fields_reach}
use Rattle.acl_stobj_written.specs.declared.shaped.ShapedField.{ShapedField}

abbrev pub SeenField : Objects → Option WrittenField → Option written.WrittenField → Type 0
SeenField h None o = o ≡ None
SeenField h (Some f) o = (o ≡ Some (seen_written h f)) × (written_reach f ≤ length h)

-- fields, and the list of what stands behind them
abbrev pub SeenFields : Objects → Option (List WrittenField × Word) → Option (List written.WrittenField) → List (Object ℕ) → Type 0
SeenFields h None o rest = o ≡ None
SeenFields h (Some p) o rest = (o ≡ Some (seen_fields h p.0)) × (fields_reach p.0 ≤ length h) × Lies h p.1 × (rest ≡ items_along (object_of h p.1))

abbrev pub written_of : List ShapedField → List WrittenField
written_of fs = map (λ (f : ShapedField). f.written) fs

abbrev pub seen_shaped : Objects → List ShapedField → List (ℕ × worlds.Shape)
seen_shaped h fs = map (λ (f : ShapedField). (f.written.name.0, seen_shape h f.shape)) fs

abbrev pub shapes_reach : List ShapedField → ℕ
shapes_reach fs = most (map (λ (f : ShapedField). shape_reach f.shape) fs)

-- each field has the shape that its type gives it
abbrev pub AreShaped : worlds.World → Objects → List ShapedField → Type 0
AreShaped w h fs = map (λ (f : ShapedField). written.shape_of w (seen_written h f.written)) fs ≡ map (λ (f : ShapedField). Some (seen_shape h f.shape)) fs
