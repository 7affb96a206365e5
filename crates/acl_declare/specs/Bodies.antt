-- Bodies behind declarations.
use Rattle.std.specs.Prelude.{◌≡◌, ℕ, ◌≤◌, ◌++◌, List, length, Option, Some, None}
use Rattle.model_objects.specs.Object.{Object}
use Rattle.acl_base.specs.declared.Word.{Word}
use Rattle.acl_heap.specs.Objects.{Objects, object_of, Lies}
use Rattle.acl_declare.specs.Said.{words_at, words_reach}

-- the items of declarations, and the body
abbrev pub SeenBody : Objects → Option (List Word × Word) → Option (List (Object ℕ) × Object ℕ) → Type 0
SeenBody h None o = o ≡ None
SeenBody h (Some p) o = (o ≡ Some (words_at h p.0, object_of h p.1)) × (words_reach p.0 ≤ length h) × Lies h p.1

-- items that were found, and more of them
abbrev pub with_found : List (Object ℕ) → Option (List (Object ℕ)) → Option (List (Object ℕ))
with_found done None = None
with_found done (Some more) = Some (done ++ more)

-- items that were found, and what is found behind them
abbrev pub after_items : List (Object ℕ) → Option (List (Object ℕ) × Object ℕ) → Option (List (Object ℕ) × Object ℕ)
after_items done None = None
after_items done (Some p) = Some (done ++ p.0, p.1)
