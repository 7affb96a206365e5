-- Where no level is left, that is the fault: before all else of the node, and before it counts.
use Rattle.std.specs.Prelude.{◌≡◌}
use Rattle.model_expansion.specs.Faults.{TooNested}
use Rattle.model_expansion.specs.Layers.{Part}
use Rattle.model_expansion.specs.Expansion.{Setting, Progress, Fails, grown}

pub record DepthComesFirst : Type 0 where
  pub at_the_limit : (x : Setting) (q : Part) (p : Progress) → grown x 0 q p ≡ Fails TooNested p
