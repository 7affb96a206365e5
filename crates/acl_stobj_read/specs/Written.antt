-- The definitions' written stobjs that those of the program stand for in a heap.
use Rattle.std.specs.Prelude.{◌≡◌, ℕ, ◌≤◌, List, map, max, length, Option, Some, None, option_map}
use Rattle.model_objects.specs.Object.{Object, Symbol}
use Rattle.model_terms.specs.Worlds as worlds
use Rattle.model_stobjs.specs.Descriptors as written
use Rattle.acl_base.specs.declared.SymId.{SymId}
use Rattle.acl_base.specs.declared.Word.{Word}
use Rattle.acl_heap.specs.Objects.{Objects, object_of, reach}
use Rattle.acl_terms.specs.Forms.{most}
use Rattle.acl_terms.specs.Signatures.{seen_name}
use Rattle.acl_terms.specs.declared.stobj.Shape.{Shape}
use Rattle.acl_terms.specs.Definitions.{seen_shape, shape_reach}
use Rattle.acl_layers.specs.Lists.{option_reach}
use Rattle.acl_stobj_read.specs.declared.written.WrittenField.{WrittenField}
use Rattle.acl_stobj_read.specs.declared.written.WrittenStobj.{WrittenStobj}

abbrev pub seen_written : Objects → WrittenField → written.WrittenField
seen_written h f = record { name = f.name.0; type = object_of h f.spec; initial = option_map (object_of h) f.initial; resizable = f.resizable }

abbrev pub written_reach : WrittenField → ℕ
written_reach f = max (reach f.spec) (option_reach f.initial)

abbrev pub seen_fields : Objects → List WrittenField → List written.WrittenField
seen_fields h fs = map (seen_written h) fs

abbrev pub fields_reach : List WrittenField → ℕ
fields_reach fs = most (map written_reach fs)

abbrev pub seen_pair : SymId × SymId → ℕ × ℕ
seen_pair p = (p.0.0, p.1.0)

abbrev pub seen_renaming : List (SymId × SymId) → List (ℕ × ℕ)
seen_renaming ps = map seen_pair ps

abbrev pub SeenPair : Option (SymId × SymId) → Option (ℕ × ℕ) → Type 0
SeenPair None o = o ≡ None
SeenPair (Some p) o = o ≡ Some (seen_pair p)

abbrev pub SeenRenaming : Option (List (SymId × SymId)) → Option (List (ℕ × ℕ)) → Type 0
SeenRenaming None o = o ≡ None
SeenRenaming (Some ps) o = o ≡ Some (seen_renaming ps)

-- the stobj that is to be congruent, where there is one
abbrev pub SeenOld : Option (Option SymId) → Option (Option ℕ) → Type 0
SeenOld None o = o ≡ None
SeenOld (Some x) o = o ≡ Some (seen_name x)

abbrev pub seen_stobj : Objects → WrittenStobj → written.WrittenStobj
seen_stobj h s = record { name = object_of h s.name; fields = seen_fields h s.fields; renaming = seen_renaming s.renaming; congruent_to = seen_name s.congruent_to }

abbrev pub stobj_reach : WrittenStobj → ℕ
stobj_reach s = max (reach s.name) (fields_reach s.fields)

abbrev pub SeenShape : Objects → Option Shape → Option worlds.Shape → Type 0
SeenShape h None o = o ≡ None
SeenShape h (Some s) o = (o ≡ Some (seen_shape h s)) × (shape_reach s ≤ length h)

-- the names of fields, and those that are to be put for others, as objects
abbrev pub field_names : List WrittenField → List (Object ℕ)
field_names fs = map (λ (f : WrittenField). Symbol f.name.0) fs

abbrev pub renamed_names : List (SymId × SymId) → List (Object ℕ)
renamed_names ps = map (λ (p : SymId × SymId). Symbol p.1.0) ps
