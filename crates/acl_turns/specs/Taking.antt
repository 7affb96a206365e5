-- What a turn has done.
use Rattle.std.specs.Prelude.{◌≡◌, ℕ, List, []}
use Rattle.model_eval.specs.Keeping.{Keeping}
use Rattle.acl_machine.specs.declared.frame.Turn.{Turn}
use Rattle.acl_machine.specs.declared.frame.Turn.TheVariants as turns
use Rattle.acl_machine.specs.declared.machine.Machine.{Machine}
use Rattle.acl_machine.specs.Views.{Around}
use Rattle.acl_machine.specs.Turns.{IsOver, IsLate}
use Rattle.acl_machine.specs.Keeping.{TurnsTo, StillKeeps}

module _ {O B : Type 0} (keeping : Keeping ℕ O B) where
  -- there was no turn to take: the machine is over, and all is as it was
  pub record Ended (Before After : O → List B → Type 0) (a after : Around) (old new : Machine) : Type 0 where
    pub over : IsOver keeping after new
    pub late : IsLate new.control
    pub closed : new.frames ≡ []
    pub same : new ≡ old
    pub there : after ≡ a
    pub still : StillKeeps Before After

  abbrev pub Taken : (O → List B → Type 0) → (O → List B → Type 0) → Around → Around → Machine → Machine → Turn → Type 0
  Taken Before After a after old new turns.Going = TurnsTo keeping Before After a after old new
  Taken Before After a after old new turns.Over = Ended Before After a after old new
