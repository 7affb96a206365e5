-- The logic follows checked evaluation where stobjs may be abstract, in the words of lists that correspond.
use Rattle.std.specs.Prelude.{◌≡◌, ◌≢◌, ℕ, List, map, length, true, false, Some, None}
use Rattle.model_symbols.specs.Symbols.{QualifiedName, Table}
use Rattle.model_symbols.specs.Growth.{Extends}
use Rattle.model_symbols.specs.Tables.{IsTable}
use Rattle.model_prims.specs.Laws.{NamesTruth}
use Rattle.model_terms.specs.declared.rule.Mode.{Mode}
use Rattle.model_terms.specs.declared.rule.Mode.TheVariants.{Logic}
use Rattle.model_terms.specs.Cores.{Core}
use Rattle.model_terms.specs.Worlds.{World, AbstractDescriptor, Abstract, definition, Out, Scope}
use Rattle.model_terms.specs.Faults.{first_fault}
use Rattle.model_terms.specs.Classes.{repeats}
use Rattle.model_eval.specs.Outcomes.{Shown, Stobjs, State}
use Rattle.model_eval.specs.Variables.{Variables}
use Rattle.model_eval.specs.Checked.{checked}
use Rattle.model_logic.specs.Logic.{Theory, Thing, Values, EndsWith}
use Rattle.model_abstract.specs.Corresponding.{Correspond}
use Rattle.model_abstract.specs.Rules.{out_parts}
use Rattle.model_eval_laws.specs.Scope.{names, is_among}
use Rattle.model_accepted.specs.Threaded.{layout_of, IsFormed, Suits, IsThreaded}
use Rattle.model_accepted.specs.StobjScopes.{IsStobj, AreVariables}
use Rattle.model_follows.specs.FollowedWorlds.{IsSuited}
use Rattle.model_follows.specs.Follows.{table_of, IfGives}
use Rattle.model_follows.specs.Held.{AreSeenIn}
use Rattle.model_follows.specs.Corresponding.{Lists, theory_with, AreValues, Leaves, as_thing}
use Rattle.model_follows.specs.SymbolLaw.{IsWritten}
use Rattle.model_follows.specs.Abstract.{ObligationsInLogic, abstract_ground, IsFollowedBeside}

-- the stobjs are those of the scope, each once
pub record AreLive (scope : Scope) (stobjs : Stobjs ℕ) : Type 0 where
  pub there : (x : ℕ) → IsStobj scope x → is_among x (names stobjs) ≡ true
  pub only : (x : ℕ) → is_among x (names stobjs) ≡ true → IsStobj scope x
  pub once : repeats (names stobjs) ≡ false

-- an abstract stobj has the layout of its foundation
pub record AreLaidOut (w : World) : Type 0 where
  pub alike : (x : ℕ) (d : AbstractDescriptor) → definition w x ≡ Some (Abstract d) → layout_of w x ≡ layout_of w d.foundation

-- lists that correspond after a form, of which that of a stobj that is not returned stays; and the logic's value, which has the
-- outputs as its parts
pub record FollowInParts (w : World) (base : Table) (b : Theory) (scope : Scope) (expected : List Out) (form : Core) (values : Values) (lists : Lists) (given : List (Shown ℕ)) (u : State ℕ) : Type 0 where
  pub last : Lists
  pub correspond : Correspond (theory_with w base u.symbols) u.stobjs last
  pub leaves : Leaves scope expected lists last
  pub value : Thing
  pub ends : EndsWith b form values value
  pub parts : out_parts b 0 expected value ≡ map (as_thing u.symbols last) given

pub record LogicFollowsAbstractOnLists : Type 0 where
  pub follows : (w : World) (base : Table) (symbols : List QualifiedName) (threaded : IsThreaded w) → IsFollowedBeside w (abstract_ground w base symbols) threaded → IsWritten w (length base.symbols) → AreLaidOut w
      → Extends base (table_of base.packages symbols) → ObligationsInLogic (theory_with w base symbols)
      → (c : World) (mode : Mode) (scope : Scope) (form : Core) (expected : List Out) → Suits c w → AreSeenIn w (abstract_ground w base symbols) c → mode ≢ Logic → first_fault c mode scope form expected ≡ None → IsFormed c form
      → IsSuited w (length base.symbols) form
      → (k d : ℕ) (variables : Variables ℕ) (s : State ℕ) (lists : Lists) (values : Values)
      → IsTable (table_of base.packages s.symbols) → NamesTruth (table_of base.packages s.symbols) → Extends base (table_of base.packages s.symbols)
      → AreVariables scope variables → AreLive scope s.stobjs → Correspond (theory_with w base s.symbols) s.stobjs lists → AreValues scope variables s.symbols lists values
      → IfGives (FollowInParts w base (theory_with w base symbols) scope expected form values lists) (checked w base.packages k d form variables s)
