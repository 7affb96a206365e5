-- The state of a machine over trees with its frames closed, and evaluation with no more calls than it has counted.
use Rattle.std.specs.Prelude.{◌≡◌, ℕ, ◌≤◌, List, [], ◌∷◌, length, Option, Some, None}
use Rattle.model_terms.specs.Cores.{Core}
use Rattle.model_terms.specs.Worlds.{World}
use Rattle.model_eval.specs.Outcomes.{StateOf, OutcomeOf, Gives, Stops, Unknown}
use Rattle.model_eval.specs.Keeping.{Keeping, leaving, put_all, ending_loans, unmaking}
use Rattle.model_eval.specs.Evaluated.{RulesOf, evaluated}
use Rattle.model_machine.specs.Frames as machine
use Rattle.model_machine.specs.Ending as machines
use Rattle.model_machine.specs.Stands.{running}
use Rattle.model_machine.specs.Cutting.{with_limit, PrimitivesCountNone, PrimitivesWriteNone}
use Rattle.model_slots.specs.Trees.{Tree}
use Rattle.model_slots.specs.Environments.{Environment, LiesBelow, variables_in}
use Rattle.model_slots.specs.Resolved.{resolved}
use Rattle.model_window.specs.Windows.{Memory, actuals_at}
use Rattle.model_window.specs.Frames.{Code, Step, Test, Parts, Several, Calling, Guarding, Running, Allowing, Exporting, Borrowing, Producing, Putting, Local, Last, Frame, Machine, Going}
use Rattle.model_window.specs.Turns.{loans_of, out_of, closed_state, begun_on}
use Rattle.model_window.specs.Stands.{Origins, IsEarlier, HoldsTrees, SeesNil}
use Rattle.model_window.specs.Laws.{begun_in, FitsFor, Leads}

module _ {S O B : Type 0} {keeping : Keeping S O B} (r : RulesOf keeping) (code : Code) where
  -- a form ends by values: its state, seen from outside
  abbrev pub ended_state : Memory S → ℕ → Step S B → StateOf O → StateOf O
  ended_state memory base (Test held other) state = state
  ended_state memory base (Parts s count trees goal) state = state
  ended_state memory base (Several s body) state = state
  ended_state memory base (Calling s n count) state = state
  ended_state memory base (Guarding export name formals names body behind) state =
      out_of r code export (leaving keeping formals (actuals_at memory base (length formals) names) behind state)
  ended_state memory base (Running export formals names behind) state =
      out_of r code export (leaving keeping formals (actuals_at memory base (length formals) names) behind state)
  ended_state memory base (Allowing f names begun behind) state = leaving keeping f.formals (actuals_at memory base (length f.formals) names) behind state
  ended_state memory base (Exporting f names begun) state = state
  ended_state memory base (Borrowing s children borrowed producer consumer) state = state
  ended_state memory base (Producing s borrowed consumer) state =
      ending_loans keeping (length borrowed) (record state { stobjs = put_all keeping (loans_of borrowed) state.stobjs })
  ended_state memory base (Putting s left borrowed consumer) state =
      ending_loans keeping (length borrowed) (record state { stobjs = put_all keeping (loans_of borrowed) state.stobjs })
  ended_state memory base (Local s body) state = unmaking keeping state
  ended_state memory base (Last export) state = out_of r code export state

  -- all frames closed by values, and by a stop, which abandons the exports that run
  abbrev pub passed : Memory S → List (Frame S B) → StateOf O → StateOf O
  passed memory [] state = state
  passed memory (f ∷ fs) state = passed memory fs (ended_state memory f.base f.step state)

  abbrev pub settled : Memory S → List (Frame S B) → StateOf O → StateOf O
  settled memory [] state = state
  settled memory (f ∷ fs) state = settled memory fs (closed_state r code memory f.base f.step state)

  abbrev pub state_by : Option ℕ → Memory S → List (Frame S B) → StateOf O → StateOf O
  state_by None memory frames state = passed memory frames state
  state_by (Some export) memory frames state = settled memory frames state

  -- the state of an outcome is that of a machine with these frames: an export that the outcome stopped inside is abandoned, and
  -- what was done in any other stays
  abbrev pub HasStateNow : Memory S → List (Frame S B) → StateOf O → OutcomeOf S O → Type 0
  HasStateNow memory frames state (Gives values after) = after ≡ passed memory frames state
  HasStateNow memory frames state (Stops stop origin after) = after ≡ state_by origin.inside memory frames state
  HasStateNow memory frames state Unknown = ⊥

-- a machine that was begun on the tree of a form: evaluation of the form with no more calls than the machine has counted ends or
-- stops in just the state that the machine has, its frames closed
pub record IsCutNow {S O B : Type 0} (keeping : Keeping S O B) : Type 0 where
  pub cut : (r : RulesOf keeping) (origins : Origins) (code : Code) → HoldsTrees r.world origins code → SeesNil r → PrimitivesCountNone r → PrimitivesWriteNone r
      → (c : World) (depth s : ℕ) (env : Environment) (form : Core) (tree : Tree) (memory : Memory S) (state : StateOf O) → IsEarlier c r.world → LiesBelow s env → resolved c env s form ≡ Some tree
      → (n : ℕ) (m : Machine S O B) → state.calls ≤ r.limit
      → FitsFor r origins n (begun_in c) (machine.Going (machines.begun_on depth form (variables_in memory env) state))
      → Leads r code n (Going (begun_on depth tree memory state)) m
      → HasStateNow r code m.memory m.frames m.state (evaluated (running (with_limit m.state.calls r)) depth form (variables_in memory env) state)
