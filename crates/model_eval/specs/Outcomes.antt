-- What an evaluation ends with (ACL2's manual, topic EVALUATION).
use Rattle.std.specs.Prelude.{ℕ, ◌+◌, List, Option, Some, None, nat_lt, if◌then◌else◌}
use Rattle.model_objects.specs.Object.{Object}
use Rattle.model_symbols.specs.Symbols.{QualifiedName}
use Rattle.model_lists.specs.Lists.{StobjList}

-- what a form gives, and what a variable or a formal is
pub data Shown (S : Type 0) : Type 0 where
  Plain : Object S → Shown S  -- an ordinary value
  StobjNamed : ℕ → Shown S  -- a stobj, by the variable that it has where it is seen

-- why an evaluation stopped; functions by name
pub data Stop (S : Type 0) : Type 0 where
  Guard : ℕ → List (Shown S) → Stop S  -- the function and its arguments
  Steps : Stop S
  Depth : Stop S
  Range : ℕ → Stop S
  Large : ℕ → Stop S
  Symbols : ℕ → Stop S

-- the list of each stobj in scope by its variable, the innermost first
abbrev pub Stobjs : Type 0 → Type 0
Stobjs S = List (ℕ × StobjList S)

-- what is threaded through an evaluation; `O` is what the stobjs in scope are kept in
pub record StateOf (O : Type 0) : Type 0 where
  pub stobjs : O
  pub symbols : List QualifiedName
  -- the calls counted so far, and those of them that no export made
  pub calls : ℕ
  pub outer : ℕ

-- where a stop came from
pub record Origin : Type 0 where
  pub inside : Option ℕ  -- the outermost export that it came inside
  -- the outer call, counted from 1, before which abstract evaluation is cut to have done as much: the call of the outermost
  -- export that was under way, else the next one
  pub cut : ℕ

pub data OutcomeOf (S O : Type 0) : Type 0 where
  Gives : List (Shown S) → StateOf O → OutcomeOf S O
  Stops : Stop S → Origin → StateOf O → OutcomeOf S O
  Unknown : OutcomeOf S O  -- no outcome, as a value of the logic does not end

-- the same where each stobj is kept as its list
abbrev pub State : Type 0 → Type 0
State S = StateOf (Stobjs S)

abbrev pub Outcome : Type 0 → Type 0
Outcome S = OutcomeOf S (Stobjs S)

-- what comes after values; a stop is the end
abbrev pub then_with : {S O : Type 0} → OutcomeOf S O → (List (Shown S) → StateOf O → OutcomeOf S O) → OutcomeOf S O
then_with (Gives values state) go = go values state
then_with (Stops stop origin state) go = Stops stop origin state
then_with Unknown go = Unknown

-- an outcome with another state
abbrev pub with_state : {S O : Type 0} → (StateOf O → StateOf O) → OutcomeOf S O → OutcomeOf S O
with_state change (Gives values state) = Gives values (change state)
with_state change (Stops stop origin state) = Stops stop origin (change state)
with_state change Unknown = Unknown

-- ---- where stops come from

-- no export is under way
abbrev pub here : {O : Type 0} → StateOf O → Origin
here state = record { inside = None; cut = state.outer + 1 }

abbrev pub stops_here : {S O : Type 0} → Stop S → StateOf O → OutcomeOf S O
stops_here stop state = Stops stop (here state) state

-- the exec function of this export was running
abbrev pub inside_of : ℕ → Origin → Origin
inside_of export origin = record origin { inside = Some export }

-- an export's call was under way that was the outer call of this number
abbrev pub cut_before : ℕ → Origin → Origin
cut_before n origin = record origin { cut = n }

-- the outcome of such a call
abbrev pub cut_at : {S O : Type 0} → ℕ → OutcomeOf S O → OutcomeOf S O
cut_at n (Gives values state) = Gives values state
cut_at n (Stops stop origin state) = Stops stop (cut_before n origin) state
cut_at n Unknown = Unknown

-- ---- calls

abbrev pub one_more_call : {O : Type 0} → StateOf O → StateOf O
one_more_call state = record state { calls = state.calls + 1; outer = state.outer + 1 }

-- a call that is counted, and then the rest; no call passes the limit
abbrev pub counting : {S O : Type 0} → ℕ → StateOf O → (StateOf O → OutcomeOf S O) → OutcomeOf S O
counting limit state go = if nat_lt state.calls limit then go (one_more_call state) else stops_here Steps state
