-- What holds of the fields of an array.
use Rattle.std.specs.Prelude.{◌≡◌, ℕ, ◌≤◌, List, length}

-- The array has the first `len` of the `used` elements of its block, whose room it knows, and holds the handle that the block came from.
pub record IsSound {X A : Type 0} (len used room held : ℕ) (items : List X) (alloc heap : A) : Type 0 where
  pub within : len ≤ used
  pub all_used : used ≡ length items
  pub all_room : room ≡ held
  pub used_fits : used ≤ room
  pub same_heap : heap ≡ alloc
