-- Lists of one.
use Rattle.std.specs.Prelude.{ℕ, List, [], ◌∷◌, Option, Some, None}
use Rattle.model_objects.specs.Object.{Object}

abbrev pub only : List (Object ℕ) → Option (Object ℕ)
only [] = None
only (a ∷ []) = Some a
only (a ∷ (b ∷ os)) = None
