-- What an MV-LET of the program stands for in a heap.
use Rattle.std.specs.Prelude.{◌≡◌, ℕ, List, Option, Some, None}
use Rattle.model_objects.specs.Object.{Object}
use Rattle.acl_heap.specs.Objects.{Objects, object_of, Lies}
use Rattle.acl_terms.specs.Forms.{numbers}
use Rattle.acl_layers.specs.declared.scoping.MvLet.{MvLet}

abbrev pub SeenMvLet : Objects → Option MvLet → Option (List ℕ × Object ℕ × Object ℕ) → Type 0
SeenMvLet h None o = o ≡ None
SeenMvLet h (Some m) o = (o ≡ Some (numbers m.names, object_of h m.form, object_of h m.body)) × Lies h m.form × Lies h m.body
