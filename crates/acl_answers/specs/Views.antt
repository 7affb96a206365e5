-- The sessions of the definitions that the code's sessions stand for, where the table is at hand.
use Rattle.std.specs.Prelude.{◌≡◌, ℕ, ◌<◌, List, length, map, Option, Some, None}
use Rattle.std.specs.Option.{option_map}
use Rattle.model_symbols.specs.Symbols.{QualifiedName, Table, symbol_at}
use Rattle.model_output_so_far.specs.Sessions as model
use Rattle.model_output_so_far.specs.Lines as lines
use Rattle.model_output_so_far.specs.Objects.{read_field, updated_field}
use Rattle.acl_base.specs.declared.SymId.{SymId}
use Rattle.acl_heap.specs.Objects.{Objects, object_of}
use Rattle.acl_commands.specs.Views.{bytes_in}
use Rattle.acl_answers.specs.declared.stobj.Field.{Field}
use Rattle.acl_answers.specs.declared.stobj.Stobj.{Stobj}
use Rattle.acl_answers.specs.declared.Session.{Session}
use Rattle.acl_answers.specs.declared.lines.Refusal.{Refusal}
use Rattle.acl_answers.specs.declared.lines.Refusal.TheVariants as refusal
use Rattle.acl_answers.specs.declared.stobj.FieldUse.{FieldUse}
use Rattle.acl_answers.specs.declared.stobj.FieldUse.TheVariants.{Reads, Updates}

abbrev pub name_of : Table → SymId → QualifiedName
name_of t s = symbol_at t.symbols s.0

abbrev pub names_of : Table → List SymId → List QualifiedName
names_of t ids = map (name_of t) ids

abbrev pub field_view : Table → Field → model.Field
field_view t f = record { name = name_of t f.name; updater = name_of t f.updater }

abbrev pub fields_view : Table → List Field → List model.Field
fields_view t fields = map (field_view t) fields

abbrev pub stobj_view : Table → Stobj → model.Stobj
stobj_view t o = record { name = name_of t o.name; fields = fields_view t o.fields.items; values = o.values.items }

-- a session without an object
abbrev pub session_in : Table → ℕ → model.Session
session_in t current = record { table = t; current = current; object = None }

-- a session with this object
abbrev pub session_of : Table → ℕ → Stobj → model.Session
session_of t current o = record { table = t; current = current; object = Some (stobj_view t o) }

abbrev pub session_view : Table → Session → model.Session
session_view t s = record { table = t; current = s.current.0; object = option_map (stobj_view t) s.object }

abbrev pub refusal_view : Table → Objects → Refusal → lines.Refusal
refusal_view t h refusal.NotYet = lines.NotYet
refusal_view t h (refusal.BadShape f) = lines.BadShape (name_of t f)
refusal_view t h (refusal.BadName f) = lines.BadName (name_of t f)
refusal_view t h refusal.SymbolLimit = lines.SymbolLimit
refusal_view t h (refusal.NameInUse f) = lines.NameInUse (name_of t f)
refusal_view t h (refusal.UnknownPackage w) = lines.UnknownPackage (bytes_in (object_of h w))

-- what a function does with a field of an object
abbrev pub Uses : model.Stobj → QualifiedName → Option FieldUse → Type 0
Uses o f None = (read_field o f ≡ None) × (updated_field o f ≡ None)
Uses o f (Some (Reads k)) = (read_field o f ≡ Some k) × (k < length o.values)
Uses o f (Some (Updates k)) = (read_field o f ≡ None) × (updated_field o f ≡ Some k) × (k < length o.values)

-- and of the object of a session, if it has one
abbrev pub UsesOf : Option model.Stobj → QualifiedName → Option FieldUse → Type 0
UsesOf None f None = Unit {0}
UsesOf None f (Some u) = ⊥
UsesOf (Some o) f u = Uses o f u
