-- The names of written functions in a heap.
use Rattle.std.specs.Prelude.{ℕ, List, map}
use Rattle.model_objects.specs.Object.{Object}
use Rattle.model_expansion.specs.Forms.{symbol_or_nil}
use Rattle.acl_heap.specs.Objects.{Objects, object_of}
use Rattle.acl_drafts.specs.declared.written.WrittenFunction.{WrittenFunction}

-- as objects
abbrev pub names_at : Objects → List WrittenFunction → List (Object ℕ)
names_at h fs = map (λ (f : WrittenFunction). object_of h f.name) fs

-- by their numbers, NIL's where a name is no symbol
abbrev pub numbers_at : Objects → List WrittenFunction → List ℕ
numbers_at h fs = map (λ (f : WrittenFunction). symbol_or_nil (object_of h f.name)) fs
