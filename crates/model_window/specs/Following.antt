-- The worlds of the forms that a machine has after a turn.
use Rattle.std.specs.Prelude.{ℕ, zero, suc, List, [], ◌∷◌, Option, Some, None}
use Rattle.model_terms.specs.Worlds.{World}
use Rattle.model_eval.specs.Outcomes.{Shown}
use Rattle.model_eval.specs.Keeping.{Keeping}
use Rattle.model_eval.specs.Evaluated.{RulesOf, leaf}
use Rattle.model_machine.specs.Frames.{Step, Test, Parts, Several, Calling, Guarding, Running, Allowing, Exporting, Borrowing, Producing, Putting, Local, Last, Frame, Control, Begin, Give, Stopped, Machine}
use Rattle.model_window.specs.Stands.{Origins, Worlds}

abbrev pub worlds_of : World → List World → World → Worlds
worlds_of c cs d = record { frames = c ∷ cs; control = d }

-- a form that is opened has a frame
abbrev pub after_begin : {S : Type 0} → Option (Shown S) → ℕ → Worlds → Worlds
after_begin (Some v) room worlds = worlds
after_begin None zero worlds = worlds
after_begin None (suc room) worlds = worlds_of worlds.control worlds.frames worlds.control

-- a function's guard and body are of worlds of their own
abbrev pub after_step : {S B : Type 0} → Origins → Step S B → World → List World → Worlds
after_step origins (Test b d) c cs = worlds_of c cs c
after_step origins (Parts forms before goal) c cs = worlds_of c cs c
after_step origins (Several names body) c cs = worlds_of c cs c
after_step origins (Calling f actuals) c cs = worlds_of (origins.body f) cs (origins.guard f)
after_step origins (Guarding export name formals actuals body behind) c cs = worlds_of c cs c
after_step origins (Running export formals actuals behind) c cs = worlds_of c cs c
after_step origins (Allowing f actuals begun behind) c cs = worlds_of c cs c
after_step origins (Exporting f actuals begun) c cs = worlds_of (origins.body f.exec) cs (origins.guard f.exec)
after_step origins (Borrowing names forms loans vars producer consumer) c cs = worlds_of c cs c
after_step origins (Producing vars loans consumer) c cs = worlds_of c cs c
after_step origins (Putting vars left loans consumer given) c cs = worlds_of c cs c
after_step origins (Local names body) c cs = worlds_of c cs c
after_step origins (Last export) c cs = record { frames = cs; control = c }

abbrev pub after_give : {S B : Type 0} → Origins → List (Frame S B) → List World → Worlds → Worlds
after_give origins [] cs worlds = worlds
after_give origins (f ∷ fs) [] worlds = worlds
after_give origins (f ∷ fs) (c ∷ cs) worlds = after_step origins f.step c cs

abbrev pub after_stop : List World → World → Worlds
after_stop [] d = record { frames = []; control = d }
after_stop (c ∷ cs) d = record { frames = cs; control = d }

module _ {S O B : Type 0} {keeping : Keeping S O B} (r : RulesOf keeping) where
  abbrev pub after_control : Origins → ℕ → List (Frame S B) → Control S → Worlds → Worlds
  after_control origins room frames (Begin form variables) worlds = after_begin (leaf r form variables) room worlds
  after_control origins room frames (Give values) worlds = after_give origins frames worlds.frames worlds
  after_control origins room frames (Stopped stop origin) worlds = after_stop worlds.frames worlds.control

  -- the worlds after a turn
  unfoldable pub worlds_after : Origins → Worlds → Machine S O B → Worlds
  worlds_after origins worlds m = after_control origins m.room m.frames m.control worlds
