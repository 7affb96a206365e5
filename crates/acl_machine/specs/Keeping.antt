-- Turns that change what is kept, and how much calls that are open have left behind.
use Rattle.std.specs.Prelude.{◌≡◌, ℕ, ◌+◌, List, [], ◌∷◌, length, Option, Some, None}
use Rattle.model_eval.specs.Keeping.{Keeping}
use Rattle.model_window.specs.Frames as windows
use Rattle.acl_machine.specs.declared.frame.Inside.{Inside}
use Rattle.acl_machine.specs.declared.frame.Step.{Step}
use Rattle.acl_machine.specs.declared.frame.Step.TheVariants as step
use Rattle.acl_machine.specs.declared.frame.Frame.{Frame}
use Rattle.acl_machine.specs.declared.machine.Machine.{Machine}
use Rattle.acl_machine.specs.Views.{Around, machine_of}
use Rattle.acl_machine.specs.Turns.{turned}

-- how much an export's call has left behind
abbrev pub inside_lefts : Option Inside → ℕ
inside_lefts None = 0
inside_lefts (Some x) = 1

-- and a form that is open
abbrev pub lefts_in : Step → ℕ
lefts_in (step.Test held other) = 0
lefts_in (step.Parts at count next left goal) = 0
lefts_in (step.Several at body) = 0
lefts_in (step.Calling at function count) = 0
lefts_in (step.Guarding inside function names) = inside_lefts inside + 1
lefts_in (step.Running inside function names) = inside_lefts inside + 1
lefts_in (step.Allowing function names number) = 2
lefts_in (step.Exporting function names number) = 1
lefts_in (step.Borrowing at term bound) = 0
lefts_in (step.Producing at loans consumer) = 0
lefts_in (step.Putting at put loans consumer) = 0
lefts_in (step.Local at body) = 0
lefts_in (step.Last inside) = inside_lefts inside

abbrev pub all_lefts : List Frame → ℕ
all_lefts [] = 0
all_lefts (f ∷ fs) = lefts_in f.step + all_lefts fs

-- what is kept with a machine, and what its open calls have left behind
pub record Goes {O B : Type 0} (Keeps : O → List B → Type 0) (m : Machine) (kept : O) (lefts : List B) : Type 0 where
  pub keeps : Keeps kept lefts
  pub behind : length lefts ≡ all_lefts m.frames

module _ {O B : Type 0} (keeping : Keeping ℕ O B) where
  -- from these things that are kept a turn goes to others, which are kept after it
  pub record GoesTo (After : O → List B → Type 0) (a after : Around) (old new : Machine) (d : B) (kept : O) (lefts : List B) : Type 0 where
    pub later : O
    pub left : List B
    pub goes : Goes After new later left
    pub is : turned keeping a d kept lefts old ≡ windows.Going (machine_of after d later left new)

  -- a turn, whatever may have been kept before it
  pub record TurnsTo (Before After : O → List B → Type 0) (a after : Around) (old new : Machine) : Type 0 where
    pub turns : (d : B) (kept : O) (lefts : List B) → Goes Before old kept lefts → GoesTo After a after old new d kept lefts

-- a keeper may be asked for something, on what it keeps with a machine
pub record MayGo {O B : Type 0} (Keeps : O → List B → Type 0) (May : O → List B → Type 0) (m : Machine) : Type 0 where
  pub kept : O
  pub lefts : List B
  pub goes : Goes Keeps m kept lefts
  pub may : May kept lefts

-- what was kept before a turn is kept after it
abbrev pub StillKeeps : {O B : Type 0} → (O → List B → Type 0) → (O → List B → Type 0) → Type 0
StillKeeps Before After = (kept : _) (lefts : List _) → Before kept lefts → After kept lefts
