-- Depths of stobjs that are known.
use Rattle.std.specs.Prelude.{◌≡◌, ℕ, min, nat_eq, Some}
use Rattle.std.specs.HashMap.{HashMap, get}
use Rattle.model_terms.specs.Worlds.{World}
use Rattle.model_stobjs.specs.Descriptors.{nesting_within}

-- each is the depth of the stobj, however deep it is followed
pub record KnowsDepths {S : Type 0} (w : World) (known : HashMap ℕ ℕ S) : Type 0 where
  pub each : (x d : ℕ) → get nat_eq known x ≡ Some d → (k : ℕ) → nesting_within w k x ≡ min k d
