-- The definitions' written functions that those of the program stand for in a heap.
use Rattle.std.specs.Prelude.{◌≡◌, ℕ, ◌≤◌, List, map, max, length, Option, Some, None}
use Rattle.model_events.specs.Functions as written
use Rattle.acl_heap.specs.Objects.{Objects, object_of, reach}
use Rattle.acl_terms.specs.Forms.{most}
use Rattle.acl_layers.specs.Lists.{items_along}
use Rattle.acl_declare.specs.Said.{words_at, words_reach}
use Rattle.acl_drafts.specs.declared.written.WrittenFunction.{WrittenFunction}

abbrev pub seen_function : Objects → WrittenFunction → written.WrittenFunction
seen_function h f = record {
  name = object_of h f.name;
  formals = items_along (object_of h f.formals);
  items = words_at h f.items;
  body = object_of h f.body;
  executable = f.executable;
}

abbrev pub function_reach : WrittenFunction → ℕ
function_reach f = max (reach f.name) (max (reach f.formals) (max (words_reach f.items) (reach f.body)))

abbrev pub seen_functions : Objects → List WrittenFunction → List written.WrittenFunction
seen_functions h fs = map (seen_function h) fs

abbrev pub functions_reach : List WrittenFunction → ℕ
functions_reach fs = most (map function_reach fs)

-- a function, whose words lie in the heap, or none
abbrev pub SeenFunction : Objects → Option WrittenFunction → Option written.WrittenFunction → Type 0
SeenFunction h None o = o ≡ None
SeenFunction h (Some f) o = (o ≡ Some (seen_function h f)) × (function_reach f ≤ length h)

abbrev pub SeenFunctions : Objects → Option (List WrittenFunction) → Option (List written.WrittenFunction) → Type 0
SeenFunctions h None o = o ≡ None
SeenFunctions h (Some fs) o = (o ≡ Some (seen_functions h fs)) × (functions_reach fs ≤ length h)
