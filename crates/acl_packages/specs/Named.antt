-- A name with a form, as they are read in a heap.
use Rattle.std.specs.Prelude.{◌≡◌, ℕ, ◌≤◌, length, Option, Some, None}
use Rattle.model_objects.specs.Object.{Object}
use Rattle.acl_base.specs.declared.Word.{Word}
use Rattle.acl_heap.specs.Objects.{Objects, object_of, Lies}

abbrev pub SeenNamed : Objects → Option (Word × Word) → Option (Object ℕ × Object ℕ) → Type 0
SeenNamed h None o = o ≡ None
SeenNamed h (Some p) o = (o ≡ Some (object_of h p.0, object_of h p.1)) × Lies h p.0 × Lies h p.1
