-- The logic follows checked evaluation, and abstract stobjs answer as their logic: of every session that commands have made.
use Rattle.std.specs.Prelude.{◌≡◌, ◌≢◌, ℕ, List, length, map, true, false, Option, Some, None}
use Rattle.model_objects.specs.Object.{Object, is_value}
use Rattle.model_objects.specs.Named.{Knows}
use Rattle.model_symbols.specs.Symbols.{form_of}
use Rattle.model_symbols.specs.Growth.{Extends}
use Rattle.model_symbols.specs.Tables.{IsTable}
use Rattle.model_terms.specs.declared.rule.Mode.{Mode}
use Rattle.model_terms.specs.declared.rule.Mode.TheVariants.{Logic}
use Rattle.model_terms.specs.Cores.{Core}
use Rattle.model_terms.specs.Worlds.{Out, Scope, Constant, definition}
use Rattle.model_terms.specs.Faults.{first_fault}
use Rattle.model_eval.specs.Outcomes.{Shown, State}
use Rattle.model_eval.specs.Variables.{Variables}
use Rattle.model_eval.specs.Checked.{checked}
use Rattle.model_logic.specs.Logic.{Thing, Values, EndsWith}
use Rattle.model_abstract.specs.Corresponding.{Correspond}
use Rattle.model_abstract.specs.Rules.{out_parts}
use Rattle.model_accepted.specs.Threaded.{IsFormed}
use Rattle.model_accepted.specs.StobjScopes.{AreVariables}
use Rattle.model_follows.specs.FollowedWorlds.{IsSuited}
use Rattle.model_follows.specs.Follows.{table_of, IfGives}
use Rattle.model_follows.specs.AbstractLists.{AreLive}
use Rattle.model_follows.specs.Corresponding.{AreValues, Leaves, as_thing}
use Rattle.model_events.specs.Events.{Limits, Name}
use Rattle.model_books.specs.Opening.{Session}
use Rattle.model_books.specs.Commands.{Answered, Event, command}
use Rattle.model_abstract_books.specs.Answers.{answer_named, is_excepted}
use Rattle.model_abstract_books.specs.Commands.{Lists, AbstractOutcome, theory_of, AnswersAbstractly}
use Rattle.model_abstract_books.specs.Foundations.{prints_foundations}
use Rattle.model_abstract_books.specs.Cut.{command_cut}
use Rattle.model_abstract_books.specs.Holding.{ObligationsHold}
use Rattle.model_made.specs.Made.{IsMade}

-- what the logic gives where checked evaluation ended with these values in this state: a value whose parts, one an output, are the
-- values; lists that correspond to the stobjs then; and a stobj that is not returned has the list that it had
pub record LogicGives (s : Session) (scope : Scope) (expected : List Out) (form : Core) (values : Values) (lists : Lists) (given : List (Shown ℕ)) (after : State ℕ) : Type 0 where
  pub last : Lists
  pub correspond : Correspond (theory_of s.environment after.symbols) after.stobjs last
  pub leaves : Leaves scope expected lists last
  pub value : Thing
  pub ends : EndsWith (theory_of s.environment s.symbols) form values value
  pub parts : out_parts (theory_of s.environment s.symbols) 0 expected value ≡ map (as_thing after.symbols last) given

-- *The logic follows checked evaluation.* In a session that commands have made, where the obligations hold: where checked evaluation
-- of an accepted form ends with values, the logic's value of the form on lists that correspond ends, with what corresponds to
-- them, and the lists correspond afterwards. Of several outputs the logic's value has the outputs as its first elements: a logic
-- function that does not run may give a longer list.
-- Proved in `model_headline_laws` (`logic_follows`).
pub record LogicFollows : Type 0 where
  pub follows : (s : Session) → IsMade s → ObligationsHold (theory_of s.environment s.symbols)
      → (mode : Mode) (scope : Scope) (form : Core) (expected : List Out) → mode ≢ Logic → first_fault s.environment.world mode scope form expected ≡ None
      → IsFormed s.environment.world form → IsSuited s.environment.world (length s.symbols) form
      → (k d : ℕ) (variables : Variables ℕ) (state : State ℕ) (lists : Lists) (values : Values)
      → IsTable (table_of s.environment.packages state.symbols) → Extends (table_of s.environment.packages s.symbols) (table_of s.environment.packages state.symbols)
      → AreVariables scope variables → AreLive scope state.stobjs → Correspond (theory_of s.environment state.symbols) state.stobjs lists → AreValues scope variables state.symbols lists values
      → IfGives (LogicGives s scope expected form values lists) (checked s.environment.world s.environment.packages k d form variables state)

-- ---- abstract stobjs answer as their logic

-- a constant that the command defined has in the logic this value
pub record IsConstant (o : Answered) (value : Thing) : Type 0 where
  pub name : ℕ
  pub said : o.answer ≡ Event (Name name)
  pub written : Object ℕ
  pub stands : definition o.session.environment.world name ≡ Some (Constant name written)
  pub same : form_of o.session.symbols written ≡ value

abbrev pub IsConstantIfAny : Answered → Option Thing → Type 0
IsConstantIfAny o None = Unit {0}
IsConstantIfAny o (Some value) = IsConstant o value

-- the answer is that of abstract evaluation, where it does not print foundations; the lists correspond afterwards; and the calls
-- are those that no export made
pub record FollowsIn (o : Answered) (a : AbstractOutcome) (unseen : Type 0) : Type 0 where
  pub answer : (unseen → ⊥) → a.answer ≡ answer_named o.session.symbols o.answer
  pub lists : Correspond (theory_of o.session.environment o.session.symbols) o.session.stobjs a.lists
  pub calls : a.calls ≡ o.outer
  pub value : IsConstantIfAny o a.value

-- what is asked of a command: commands have made the session, its form is a value whose symbols are known, the obligations hold
-- in the world after it, and the lists correspond before it
pub record IsAsked (k : Limits) (s : Session) (form : Object ℕ) (lists : Lists) : Type 0 where
  pub made : IsMade s
  pub known : Knows (length s.symbols) form
  pub value : is_value form ≡ true
  pub hold : ObligationsHold (theory_of (command k s form).session.environment (command k s form).session.symbols)
  pub correspond : Correspond (theory_of s.environment s.symbols) s.stobjs lists

-- *Abstract stobjs answer as their logic definitions.* A command that does not stop at a limit or inside an export is answered by
-- abstract evaluation on any lists that correspond, with the same answer and as many outer calls, and the lists correspond
-- afterwards. After one that does, the lists correspond to those of abstract evaluation cut before the outer call that the
-- command names, so that the commands after it answer again as their logic definitions.
-- NOT PROVED.
pub record AnswersAsTheLogic : Type 0 where
  pub answers : (k : Limits) (s : Session) (form : Object ℕ) (lists : Lists) → IsAsked k s form lists → is_excepted (command k s form).answer ≡ false
      → (a : AbstractOutcome) × AnswersAbstractly k s lists form a × FollowsIn (command k s form) a (prints_foundations s form ≡ true)
  pub stops : (k : Limits) (s : Session) (form : Object ℕ) (lists : Lists) → IsAsked k s form lists → is_excepted (command k s form).answer ≡ true
      → (last : Lists) × (budget : ℕ) × (command_cut budget k s lists (command k s form).cut form ≡ Some last)
      × Correspond (theory_of (command k s form).session.environment (command k s form).session.symbols) (command k s form).session.stobjs last
