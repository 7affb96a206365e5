-- A session in which a concrete stobj and an abstract one are live and the obligations hold, and commands there: they meet the
-- statements on sessions that commands have made.
use Rattle.std.specs.Prelude.{◌≡◌, ◌≢◌, ℕ, List, [], ◌∷◌, length, true, codes, Some, None, pos}
use Rattle.model_objects.specs.Object.{Object, Integer, Symbol, Pair}
use Rattle.model_symbols.specs.Opening.{nil_name}
use Rattle.model_symbols.specs.Growth.{Extends}
use Rattle.model_symbols.specs.Tables.{IsTable}
use Rattle.model_text.specs.Token.{Form}
use Rattle.model_text.specs.Next.{Stands, next_at}
use Rattle.model_lists.specs.Lists.{StobjList, Value, End, Item}
use Rattle.model_terms.specs.declared.rule.Mode.{Mode}
use Rattle.model_terms.specs.declared.rule.Mode.TheVariants.{Logic}
use Rattle.model_terms.specs.Cores.{Core, Const, Var, Let, Mv, WithLocal, Call, more, none}
use Rattle.model_terms.specs.Worlds.{Out, Scope, Descriptor, AbstractDescriptor, Concrete, Abstract, definition}
use Rattle.model_terms.specs.Faults.{first_fault, expression_fault}
use Rattle.model_eval.specs.Outcomes.{Shown, Plain, Stobjs, State, Gives}
use Rattle.model_eval.specs.Variables.{Variables}
use Rattle.model_eval.specs.Checked.{checked}
use Rattle.model_logic.specs.Logic.{Values}
use Rattle.model_abstract.specs.Corresponding.{Correspond}
use Rattle.model_accepted.specs.Threaded.{IsFormed}
use Rattle.model_accepted.specs.StobjScopes.{AreVariables}
use Rattle.model_follows.specs.FollowedWorlds.{IsSuited}
use Rattle.model_follows.specs.Follows.{table_of}
use Rattle.model_follows.specs.AbstractLists.{AreLive}
use Rattle.model_follows.specs.Corresponding.{AreValues}
use Rattle.model_in_place.specs.Commands.{live_scope}
use Rattle.model_expansion.specs.Forms.{list}
use Rattle.model_expansion.specs.Expansion.{Progress, Makes, expanded, at_start}
use Rattle.model_events.specs.Events.{Limits, setting}
use Rattle.model_books.specs.Opening.{Session}
use Rattle.model_books.specs.Commands.{command}
use Rattle.model_books.specs.Output.{numbered}
use Rattle.model_abstract_books.specs.Commands.{Lists, theory_of}
use Rattle.model_abstract_books.specs.Holding.{ObligationsHold}
use Rattle.model_abstract_books_rows.specs.Identity.{identity_session}
use Rattle.model_abstract_books_rows.specs.Rows.{usual}
use Rattle.model_made.specs.Made.{IsMade}
use Rattle.model_headline.specs.Logic.{IsAsked}
use Rattle.model_headline.specs.Written.{LeavesLive, StandsAfterMemory, HoldsCells}

-- ---- the session: `ST$C` is the symbol of number 196, `UPDATE-VAL$C` of 203, `X` of 205, `ST` of 212, `VAL` of 214, `UPDATE-VAL` of 215

-- the stobjs with one integer each
abbrev pub one_integer : ℕ → StobjList ℕ
one_integer n = Item (Value (Integer (pos n))) End

abbrev pub both_with : ℕ → ℕ → Stobjs ℕ
both_with m n = (196, one_integer m) ∷ (212, one_integer n) ∷ []

-- the list of the concrete one in the logic, and that of the abstract one
abbrev pub concrete_list : Lists
concrete_list = (196, Item (Value (Integer (pos 0))) End) ∷ []

abbrev pub both_lists : Lists
both_lists = (196, Item (Value (Integer (pos 0))) End) ∷ (212, Value (Pair (Integer (pos 0)) (Symbol nil_name))) ∷ []

-- the form is what these bytes are read as, and no new symbol stands in them
pub record IsReadAs (s : Session) (text : List ℕ) (form : Object ℕ) : Type 0 where
  pub read : Form
  pub stands : next_at s.environment.packages s.environment.current s.symbols 0 text true ≡ Stands read (length text) s.symbols
  pub same : numbered s.symbols read ≡ form

-- an integer that takes a cell
abbrev pub large : ℕ
large = 18446744073709551616

-- the concrete stobj is written
abbrev pub writing : Object ℕ
writing = list (Symbol 203 ∷ Integer (pos large) ∷ Symbol 196 ∷ [])

-- an export of the abstract one is called
abbrev pub exporting : Object ℕ
exporting = list (Symbol 215 ∷ Integer (pos 5) ∷ Symbol 212 ∷ [])

-- exports are called on a local stobj: it is written, and then it is read
abbrev pub local_exports : Core
local_exports =
    WithLocal 212 (205 ∷ 212 ∷ [])
    (Let (212 ∷ []) (more (Call 215 (more (Const (Integer (pos 5))) (more (Var 212) none))) none) (Mv (more (Call 214 (more (Var 212) none)) (more (Var 212) none))))
    (Var 205)

-- ---- what is asked of a form

-- an expression of which `InPlaceEqualsApplicative` speaks
pub record IsAccepted (k : Limits) (s : Session) (form : Object ℕ) : Type 0 where
  pub made : IsMade s
  pub core : Core
  pub progress : Progress
  pub makes : expanded (setting s.environment k) form (at_start s.symbols) ≡ Makes core progress
  pub accepted : expression_fault s.environment.world (live_scope s.stobjs) core ≡ None

-- a core form of which `LogicFollows` speaks, with the stobjs and the lists of a state, and what checked evaluation ends with
pub record IsFollowable (k : Limits) (s : Session) (form : Core) (stobjs : Stobjs ℕ) (lists : Lists) (given : List (Shown ℕ)) : Type 0 where
  pub made : IsMade s
  pub hold : ObligationsHold (theory_of s.environment s.symbols)
  pub mode : Mode
  pub scope : Scope
  pub expected : List Out
  pub executable : mode ≢ Logic
  pub accepted : first_fault s.environment.world mode scope form expected ≡ None
  pub formed : IsFormed s.environment.world form
  pub suited : IsSuited s.environment.world (length s.symbols) form
  pub variables : Variables ℕ
  pub state : State ℕ
  pub values : Values
  pub has : state.stobjs ≡ stobjs
  pub table : IsTable (table_of s.environment.packages state.symbols)
  pub grown : Extends (table_of s.environment.packages s.symbols) (table_of s.environment.packages state.symbols)
  pub are : AreVariables scope variables
  pub live : AreLive scope state.stobjs
  pub correspond : Correspond (theory_of s.environment state.symbols) state.stobjs lists
  pub known : AreValues scope variables state.symbols lists values
  pub after : State ℕ
  pub ends : checked s.environment.world s.environment.packages k.steps k.depth form variables state ≡ Gives given after

-- ---- the statements are met

pub record AreMetAt (s : Session) : Type 0 where
  pub live : s.stobjs ≡ both_with 0 0
  pub concrete_one : (d : Descriptor) × (class : ℕ) × (definition s.environment.world 196 ≡ Some (Concrete d class))
  pub abstract_one : (d : AbstractDescriptor) × (definition s.environment.world 212 ≡ Some (Abstract d))
  pub read_writing : IsReadAs s (codes "(update-val$c 18446744073709551616 st$c)") writing
  pub read_exporting : IsReadAs s (codes "(update-val 5 st)") exporting
  pub in_place : IsAccepted usual s writing
  pub asked : IsAsked usual s exporting both_lists
  pub follows : IsFollowable usual s local_exports ((196, one_integer 0) ∷ []) concrete_list (Plain (Integer (pos 5)) ∷ [])
  pub leaves : LeavesLive usual s writing (both_with 0 0) (both_with large 0)
  pub leaves_export : LeavesLive usual s exporting (both_with 0 0) (both_with 0 5)
  -- want of memory in the only call of the command, before it writes
  pub memory : StandsAfterMemory usual s writing 1 (both_with 0 0) s
  pub cells : HoldsCells s 0
  pub cells_after : HoldsCells (command usual s writing).session 1

abbrev pub AreMetWithLiveStobjs : Type 0
AreMetWithLiveStobjs = AreMetAt identity_session
