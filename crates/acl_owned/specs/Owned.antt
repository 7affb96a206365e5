-- What an object of its own has, and sums of cells.
use Rattle.std.specs.Prelude.{◌≡◌, ℕ, ◌≤◌, ◌^◌, Option, Some, None}
use Rattle.model_objects.specs.Object.{cells, max_weight}
use Rattle.acl_pool.specs.Roots.{Held, IsLive, object_at}
use Rattle.acl_pool.specs.declared.Root.{Root}

-- the root is live, and its number of cells is that of its object
pub record Owns (p : Held) (r : Root) : Type 0 where
  pub live : IsLive p r
  pub takes : r.cells ≡ cells (object_at p r)
  pub most : r.cells ≤ max_weight

-- the sum, where it is one of 64 bits
abbrev pub IsSum : Option ℕ → ℕ → Type 0
IsSum None n = 2 ^ 64 ≤ n
IsSum (Some m) n = m ≡ n
