-- The definitions' written macros that those of the program stand for in a heap.
use Rattle.std.specs.Prelude.{◌≡◌, ℕ, ◌≤◌, List, map, max, length, Option, Some, None}
use Rattle.model_objects.specs.Object.{Object}
use Rattle.model_events.specs.Macros as written
use Rattle.acl_base.specs.declared.Word.{Word}
use Rattle.acl_heap.specs.Objects.{Objects, object_of, reach}
use Rattle.acl_terms.specs.Forms.{most}
use Rattle.acl_layers.specs.Lists.{option_reach}
use Rattle.acl_declare.specs.Said.{words_at, words_reach}
use Rattle.acl_macros.specs.declared.written.WrittenOptional.{WrittenOptional}
use Rattle.acl_macros.specs.declared.written.WrittenFormals.{WrittenFormals}
use Rattle.acl_macros.specs.declared.written.WrittenMacro.{WrittenMacro}

abbrev pub seen_word : Objects → Option Word → Option (Object ℕ)
seen_word h None = None
seen_word h (Some w) = Some (object_of h w)

-- ---- formals that may be left out

abbrev pub seen_optional : Objects → WrittenOptional → written.WrittenOptional
seen_optional h f = record { name = object_of h f.name; default = object_of h f.default; supplied = seen_word h f.supplied }

abbrev pub optional_reach : WrittenOptional → ℕ
optional_reach f = max (reach f.name) (max (reach f.default) (option_reach f.supplied))

abbrev pub seen_optionals : Objects → List WrittenOptional → List written.WrittenOptional
seen_optionals h fs = map (seen_optional h) fs

abbrev pub optionals_reach : List WrittenOptional → ℕ
optionals_reach fs = most (map optional_reach fs)

abbrev pub SeenOptional : Objects → Option WrittenOptional → Option written.WrittenOptional → Type 0
SeenOptional h None o = o ≡ None
SeenOptional h (Some f) o = (o ≡ Some (seen_optional h f)) × (optional_reach f ≤ length h)

-- those behind a mark, where it stands
abbrev pub seen_keys : Objects → Option (List WrittenOptional) → Option (List written.WrittenOptional)
seen_keys h None = None
seen_keys h (Some fs) = Some (seen_optionals h fs)

abbrev pub keys_reach : Option (List WrittenOptional) → ℕ
keys_reach None = 0
keys_reach (Some fs) = optionals_reach fs

-- ---- all formals

abbrev pub seen_formals : Objects → WrittenFormals → written.WrittenFormals
seen_formals h f = record { required = words_at h f.required; optional = seen_optionals h f.optional; rest = seen_word h f.rest; keys = seen_keys h f.keys }

abbrev pub formals_reach : WrittenFormals → ℕ
formals_reach f = max (words_reach f.required) (max (optionals_reach f.optional) (max (option_reach f.rest) (keys_reach f.keys)))

abbrev pub SeenFormals : Objects → Option WrittenFormals → Option written.WrittenFormals → Type 0
SeenFormals h None o = o ≡ None
SeenFormals h (Some f) o = (o ≡ Some (seen_formals h f)) × (formals_reach f ≤ length h)

-- ---- macros

abbrev pub seen_macro : Objects → WrittenMacro → written.WrittenMacro
seen_macro h m = record { name = object_of h m.name; formals = seen_formals h m.formals; items = words_at h m.items; body = object_of h m.body }

abbrev pub macro_reach : WrittenMacro → ℕ
macro_reach m = max (reach m.name) (max (formals_reach m.formals) (max (words_reach m.items) (reach m.body)))

abbrev pub SeenMacro : Objects → Option WrittenMacro → Option written.WrittenMacro → Type 0
SeenMacro h None o = o ≡ None
SeenMacro h (Some m) o = (o ≡ Some (seen_macro h m)) × (macro_reach m ≤ length h)
