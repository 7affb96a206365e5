-- Worlds in which functions were checked, as a world grows.
use Rattle.std.specs.Prelude.{◌≡◌, ℕ, Some, None}
use Rattle.model_terms.specs.Worlds.{World, Definition, definition}
use Rattle.model_window.specs.Stands.{Origins}

-- what stands in the world has the worlds that it had
pub record GoOn (w : World) (old new : Origins) : Type 0 where
  pub guard : (x : ℕ) (d : Definition) → definition w x ≡ Some d → new.guard x ≡ old.guard x
  pub body : (x : ℕ) (d : Definition) → definition w x ≡ Some d → new.body x ≡ old.body x

-- all else has this one
pub record HaveElse (w c : World) (origins : Origins) : Type 0 where
  pub guard : (x : ℕ) → definition w x ≡ None → origins.guard x ≡ c
  pub body : (x : ℕ) → definition w x ≡ None → origins.body x ≡ c
