-- Where no level is left.
use Rattle.std.specs.Prelude.{◌≡◌, refl}
use Rattle.model_expansion.specs.Faults.{TooNested}
use Rattle.model_expansion.specs.Layers.{Part}
use Rattle.model_expansion.specs.Expansion.{Setting, Progress, Fails, grown}
use Rattle.model_expansion_laws.specs.Depth.{DepthComesFirst}

at_the_limit : (x : Setting) (q : Part) (p : Progress) → grown x 0 q p ≡ Fails TooNested p
unfolding grown
at_the_limit x q p = refl

pub depth_comes_first : DepthComesFirst
depth_comes_first = record { at_the_limit = at_the_limit }
