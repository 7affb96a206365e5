-- Functions that were accepted in worlds that became this one.
use Rattle.model_terms.specs.Worlds.{World}
use Rattle.model_window.specs.Frames.{Code}
use Rattle.model_macro_bodies.specs.Bodies.{AreRun}
use Rattle.model_origins.specs.Before.{AreBefore}

pub record WereRun (w : World) (code : Code) : Type 0 where
  pub run : AreRun w code
  pub before : AreBefore w run.origins
