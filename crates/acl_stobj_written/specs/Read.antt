-- The definitions' written stobjs that those of the program stand for in a heap.
use Rattle.std.specs.Prelude.{◌≡◌, ◌≤◌, length, Option, Some, None}
use Rattle.model_terms.specs.Worlds as worlds
use Rattle.model_stobjs.specs.Descriptors as written
use Rattle.acl_heap.specs.Objects.{Objects}
use Rattle.acl_stobj_read.specs.declared.written.WrittenStobj.{WrittenStobj}
use Rattle.acl_stobj_read.specs.Written.{seen_fields, seen_stobj, stobj_reach}
use Rattle.acl_stobj_written.specs.declared.reading.ReadStobj.{ReadStobj}
use Rattle.acl_stobj_written.specs.Fields.{seen_shaped, shapes_reach}

abbrev pub SeenStobj : Objects → Option WrittenStobj → Option written.WrittenStobj → Type 0
SeenStobj h None o = o ≡ None
SeenStobj h (Some s) o = (o ≡ Some (seen_stobj h s)) × (stobj_reach s ≤ length h)

-- a stobj that was read, and its fields with their shapes
abbrev pub IsRead : worlds.World → Objects → ReadStobj → Option written.WrittenStobj → Type 0
IsRead w h r o =
    (o ≡ Some (seen_stobj h r.written)) × (written.shaped_fields w (seen_fields h r.written.fields) ≡ seen_shaped h r.fields)
    × (stobj_reach r.written ≤ length h) × (shapes_reach r.fields ≤ length h)
