-- A machine over trees: its values lie on one stack, and a frame has the number at which its window begins.
use Rattle.std.specs.Prelude.{ℕ, List, Bool, Option}
use Rattle.model_terms.specs.Worlds.{FunctionOfAbstract}
use Rattle.model_eval.specs.Outcomes.{Shown, Stop, Origin, StateOf, OutcomeOf}
use Rattle.model_eval.specs.Keeping.{Loan}
use Rattle.model_machine.specs.Frames.{Begun}
use Rattle.model_slots.specs.Trees.{Tree, Trees, Child}
use Rattle.model_window.specs.Windows.{Memory}

-- the trees of a world's functions, by the numbers of their definitions
pub record Code : Type 0 where
  pub guard : ℕ → Tree
  pub body : ℕ → Tree

-- an export whose exec function runs: the export, its actuals in the frame's window (so many, and the names of the stobjs among
-- them), its call, and the outer calls before those of the exec function
pub record Export (B : Type 0) : Type 0 where
  pub name : ℕ
  pub count : ℕ
  pub names : List ℕ
  pub begun : Begun B
  pub outer : ℕ

-- a child that is lent, and whether the producer gives it back
pub record Borrowed (S : Type 0) : Type 0 where
  pub loan : Loan S
  pub returns : Bool

-- what is done once all parts of a form have values
pub data Then : Type 0 where
  ThenBody : Tree → Then
  ThenValues : Then
  ThenCall : ℕ → Then  -- the number of the function

-- what an open form waits for; a slot is the first of the form's own, where its values lie
pub data Step (S B : Type 0) : Type 0 where
  Test : Tree → Tree → Step S B  -- what comes where it holds, and where not
  Parts : ℕ → ℕ → Trees → Then → Step S B  -- slot, how many parts have values, the parts after this one
  Several : ℕ → Tree → Step S B  -- slot, body
  -- a call: slot, the number of the function, how many actuals
  Calling : ℕ → ℕ → ℕ → Step S B
  -- in the callee's window: the function's name and formals, the names of the stobjs among the actuals, body
  Guarding : Option (Export B) → ℕ → List ℕ → List ℕ → Tree → B → Step S B
  Running : Option (Export B) → List ℕ → List ℕ → B → Step S B  -- formals, names
  -- an export, in the window of its actuals: its guard, and then its exec function; the names of the stobjs among the actuals
  Allowing : FunctionOfAbstract → List ℕ → Begun B → B → Step S B
  Exporting : FunctionOfAbstract → List ℕ → Begun B → Step S B
  -- children, from a slot: those left to be bound, those bound, producer, consumer; the producer; those left to be put back, all
  Borrowing : ℕ → List Child → List (Borrowed S) → Tree → Tree → Step S B
  Producing : ℕ → List (Borrowed S) → Tree → Step S B
  Putting : ℕ → List (Borrowed S) → List (Borrowed S) → Tree → Step S B
  Local : ℕ → Tree → Step S B  -- slot, body
  Last : Option (Export B) → Step S B  -- its own value

pub record Frame (S B : Type 0) : Type 0 where
  pub step : Step S B
  pub base : ℕ

pub data Control (S : Type 0) : Type 0 where
  Begin : Tree → ℕ → Control S  -- a tree, and where its window begins
  Give : List (Shown S) → Control S
  Stopped : Stop S → Origin → Control S

pub record Machine (S O B : Type 0) : Type 0 where
  pub room : ℕ  -- how many more forms may be open
  pub frames : List (Frame S B)
  pub memory : Memory S
  pub control : Control S
  pub state : StateOf O

pub data Turned (S O B : Type 0) : Type 0 where
  Going : Machine S O B → Turned S O B
  Over : OutcomeOf S O → Turned S O B
