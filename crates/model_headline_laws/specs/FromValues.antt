-- The logic follows checked evaluation in every session that commands have made, where the obligations hold of values.
use Rattle.std.specs.Prelude.{◌≡◌, ◌≢◌, ℕ, List, length, Some, None}
use Rattle.model_symbols.specs.Growth.{Extends}
use Rattle.model_symbols.specs.Tables.{IsTable}
use Rattle.model_terms.specs.declared.rule.Mode.{Mode}
use Rattle.model_terms.specs.declared.rule.Mode.TheVariants.{Logic}
use Rattle.model_terms.specs.Cores.{Core}
use Rattle.model_terms.specs.Worlds.{Out, Scope, FunctionOfAbstract, OfAbstract, definition}
use Rattle.model_terms.specs.Faults.{first_fault}
use Rattle.model_eval.specs.Outcomes.{State}
use Rattle.model_eval.specs.Variables.{Variables}
use Rattle.model_eval.specs.Checked.{checked}
use Rattle.model_logic.specs.Logic.{Values}
use Rattle.model_abstract.specs.Corresponding.{Correspond}
use Rattle.model_accepted.specs.Threaded.{IsFormed}
use Rattle.model_accepted.specs.StobjScopes.{AreVariables}
use Rattle.model_follows.specs.Abstract.{ObligationsInLogic}
use Rattle.model_follows.specs.FollowedWorlds.{IsSuited}
use Rattle.model_follows.specs.Follows.{table_of, IfGives}
use Rattle.model_follows.specs.AbstractLists.{AreLive}
use Rattle.model_follows.specs.Corresponding.{AreValues}
use Rattle.model_books.specs.Opening.{Session}
use Rattle.model_abstract_books.specs.Commands.{Lists, theory_of}
use Rattle.model_made.specs.Made.{IsMade}
use Rattle.model_headline.specs.Logic.{LogicGives}

-- what `LogicFollows` claims of a session
pub record FollowsIn (s : Session) : Type 0 where
  pub follows : (mode : Mode) (scope : Scope) (form : Core) (expected : List Out) → mode ≢ Logic → first_fault s.environment.world mode scope form expected ≡ None
      → IsFormed s.environment.world form → IsSuited s.environment.world (length s.symbols) form
      → (k d : ℕ) (variables : Variables ℕ) (state : State ℕ) (lists : Lists) (values : Values)
      → IsTable (table_of s.environment.packages state.symbols) → Extends (table_of s.environment.packages s.symbols) (table_of s.environment.packages state.symbols)
      → AreVariables scope variables → AreLive scope state.stobjs → Correspond (theory_of s.environment state.symbols) state.stobjs lists → AreValues scope variables state.symbols lists values
      → IfGives (LogicGives s scope expected form values lists) (checked s.environment.world s.environment.packages k d form variables state)

-- as `LogicFollows`, but from the obligations as they are said of values in place of the printed forms; and where no function is
-- of an abstract stobj, from none
pub record LogicFollowsFromValues : Type 0 where
  pub follows : (s : Session) → IsMade s → ObligationsInLogic (theory_of s.environment s.symbols) → FollowsIn s
  pub plainly : (s : Session) → IsMade s → ((x : ℕ) (f : FunctionOfAbstract) → definition s.environment.world x ≡ Some (OfAbstract f) → ⊥) → FollowsIn s
