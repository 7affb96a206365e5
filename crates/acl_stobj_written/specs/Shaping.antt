-- Fields that were given their shapes.
use Rattle.std.specs.Prelude.{◌≡◌, ◌≤◌, List, ◌++◌, length, None}
use Rattle.model_terms.specs.Worlds as worlds
use Rattle.model_stobjs.specs.Answers.{first_given}
use Rattle.model_stobjs.specs.Descriptors as written
use Rattle.acl_heap.specs.Objects.{Objects}
use Rattle.acl_stobj_read.specs.declared.written.WrittenField.{WrittenField}
use Rattle.acl_stobj_read.specs.Written.{seen_fields, fields_reach}
use Rattle.acl_stobj_written.specs.declared.shaped.ShapedField.{ShapedField}
use Rattle.acl_stobj_written.specs.Fields.{written_of, seen_shaped, shapes_reach, AreShaped}

-- these fields have these shapes
pub record Shapes (w : worlds.World) (h : Objects) (found : List ShapedField) (fs : List WrittenField) : Type 0 where
  pub are : written_of found ≡ fs
  pub each : AreShaped w h found
  pub seen : written.shaped_fields w (seen_fields h fs) ≡ seen_shaped h found
  pub typed : first_given (written.bad_type w) (seen_fields h fs) ≡ None
  pub reach : shapes_reach found ≤ length h

-- some of the fields have their shapes, and no type was refused before those that are left
pub record Shaping (w : worlds.World) (h : Objects) (found : List ShapedField) (rest fs : List WrittenField) : Type 0 where
  pub are : written_of found ++ rest ≡ fs
  pub each : AreShaped w h found
  pub seen : written.shaped_fields w (seen_fields h fs) ≡ seen_shaped h found ++ written.shaped_fields w (seen_fields h rest)
  pub typed : first_given (written.bad_type w) (seen_fields h fs) ≡ first_given (written.bad_type w) (seen_fields h rest)
  pub reach : shapes_reach found ≤ length h
  pub left : fields_reach rest ≤ length h
