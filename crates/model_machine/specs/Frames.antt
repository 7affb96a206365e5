-- A machine: a frame for each form that is open, the innermost first, and what is done next.
use Rattle.std.specs.Prelude.{ℕ, List, Option}
use Rattle.model_terms.specs.Cores.{Core, Cores}
use Rattle.model_terms.specs.Worlds.{FunctionOfAbstract}
use Rattle.model_eval.specs.Outcomes.{Shown, Stop, Origin, StateOf, OutcomeOf}
use Rattle.model_eval.specs.Keeping.{Loan}
use Rattle.model_eval.specs.Variables.{Variables}

-- an export's call: what it left behind, and the number that it has among the outer calls; `B` is what a call leaves behind
pub record Begun (B : Type 0) : Type 0 where
  pub before : B
  pub number : ℕ

-- an export whose exec function runs: the export, its actuals, its call, and the outer calls before those of the exec function
pub record Export (S B : Type 0) : Type 0 where
  pub name : ℕ
  pub actuals : List (Shown S)
  pub begun : Begun B
  pub outer : ℕ

-- what is done once all parts of a form have values
pub data Then : Type 0 where
  ThenBody : List ℕ → Core → Then  -- names, body
  ThenValues : Then
  ThenCall : ℕ → Then  -- function

-- what an open form waits for
pub data Step (S B : Type 0) : Type 0 where
  Test : Core → Core → Step S B  -- what comes where it holds, and where not
  Parts : Cores → List (Shown S) → Then → Step S B  -- the parts after this one, the values before it
  Several : List ℕ → Core → Step S B  -- names, body
  -- a call: function, actuals
  Calling : ℕ → List (Shown S) → Step S B
  Guarding : Option (Export S B) → ℕ → List ℕ → List (Shown S) → Core → B → Step S B  -- function, formals, actuals, body
  Running : Option (Export S B) → List ℕ → List (Shown S) → B → Step S B  -- formals, actuals
  -- an export: its guard, and then its exec function
  Allowing : FunctionOfAbstract → List (Shown S) → Begun B → B → Step S B
  Exporting : FunctionOfAbstract → List (Shown S) → Begun B → Step S B
  -- children: those left to be bound, the loans so far, variables, producer, consumer; the producer; the loans left to be put back, all loans, and the values
  Borrowing : List ℕ → Cores → List (Loan S) → List ℕ → Core → Core → Step S B
  Producing : List ℕ → List (Loan S) → Core → Step S B
  Putting : List ℕ → List (Loan S) → List (Loan S) → Core → List (Shown S) → Step S B
  Local : List ℕ → Core → Step S B  -- names, body
  Last : Option (Export S B) → Step S B  -- its own value

pub record Frame (S B : Type 0) : Type 0 where
  pub step : Step S B
  pub variables : Variables S

pub data Control (S : Type 0) : Type 0 where
  Begin : Core → Variables S → Control S
  Give : List (Shown S) → Control S  -- values of what the innermost form waits for
  Stopped : Stop S → Origin → Control S

pub record Machine (S O B : Type 0) : Type 0 where
  pub room : ℕ  -- how many more forms may be open
  pub frames : List (Frame S B)
  pub control : Control S
  pub state : StateOf O

pub data Turned (S O B : Type 0) : Type 0 where
  Going : Machine S O B → Turned S O B
  Over : OutcomeOf S O → Turned S O B
