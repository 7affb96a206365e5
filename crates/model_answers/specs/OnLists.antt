-- The same in the words of lists that correspond.
use Rattle.std.specs.Prelude.{◌≡◌, ◌≢◌, ℕ, ◌+◌, ◌≤◌, List, length, map, false, None}
use Rattle.model_symbols.specs.Symbols.{QualifiedName, Table}
use Rattle.model_symbols.specs.Growth.{Extends}
use Rattle.model_symbols.specs.Tables.{IsTable}
use Rattle.model_prims.specs.Laws.{NamesTruth}
use Rattle.model_terms.specs.declared.rule.Mode.{Mode}
use Rattle.model_terms.specs.declared.rule.Mode.TheVariants.{Logic}
use Rattle.model_terms.specs.Cores.{Core}
use Rattle.model_terms.specs.Worlds.{World, Out, Scope}
use Rattle.model_terms.specs.Faults.{first_fault}
use Rattle.model_eval.specs.Outcomes.{State, Outcome, Gives, Stops, Unknown}
use Rattle.model_eval.specs.Variables.{Variables}
use Rattle.model_eval.specs.Checked.{checked}
use Rattle.model_abstract.specs.Rules.{abstractly}
use Rattle.model_abstract.specs.Corresponding.{Correspond}
use Rattle.model_abstract_books.specs.Answers.{shown_named, stop_named, is_excepted_stop}
use Rattle.model_accepted.specs.Threaded.{IsFormed, Suits, IsThreaded}
use Rattle.model_accepted.specs.StobjScopes.{AreVariables}
use Rattle.model_follows.specs.FollowedWorlds.{IsSuited}
use Rattle.model_follows.specs.Follows.{table_of}
use Rattle.model_follows.specs.Held.{AreSeenIn}
use Rattle.model_follows.specs.Corresponding.{theory_with}
use Rattle.model_follows.specs.SymbolLaw.{IsWritten}
use Rattle.model_follows.specs.Abstract.{ObligationsInLogic, abstract_ground, IsFollowedBeside}
use Rattle.model_follows.specs.AbstractLists.{AreLive, AreLaidOut}
use Rattle.model_answers.specs.Beside.{named_variables, KnowsVariables}

-- within any budget that suffices, and any limit of calls that is not met, abstract evaluation ends in this way; it counted the
-- outer calls, and its lists correspond to those of checked evaluation
pub record EndsAs (w : World) (base : Table) (offset : ℕ) (u : State ℕ) (ended : State QualifiedName → Outcome QualifiedName) (run : ℕ → ℕ → Outcome QualifiedName) : Type 0 where
  pub after : State QualifiedName
  pub correspond : Correspond (theory_with w base u.symbols) u.stobjs after.stobjs
  pub calls : after.calls ≡ offset + u.outer
  pub budget : ℕ
  pub runs : (m k : ℕ) → budget ≤ m → after.calls ≤ k → run m k ≡ ended after

-- the same values, or the same stop from the same place, unless it is at a limit or inside an export
abbrev pub AnswersOn : World → Table → ℕ → Outcome ℕ → (ℕ → ℕ → Outcome QualifiedName) → Type 0
AnswersOn w base offset (Gives given u) run = EndsAs w base offset u (λ after. Gives (map (shown_named u.symbols) given) after) run
AnswersOn w base offset (Stops stop origin u) run = is_excepted_stop stop origin.inside ≡ false → EndsAs w base offset u (λ after. Stops (stop_named u.symbols stop) origin after) run
AnswersOn w base offset Unknown run = Unit {0}

-- abstract evaluation of an accepted form on lists that correspond, `offset` calls having been counted before
pub record FormsAnswerOnLists : Type 0 where
  pub answers : (w : World) (base : Table) (symbols : List QualifiedName) (threaded : IsThreaded w) → IsFollowedBeside w (abstract_ground w base symbols) threaded → IsWritten w (length base.symbols) → AreLaidOut w
      → Extends base (table_of base.packages symbols) → ObligationsInLogic (theory_with w base symbols)
      → (c : World) (mode : Mode) (scope : Scope) (form : Core) (expected : List Out) → Suits c w → AreSeenIn w (abstract_ground w base symbols) c → mode ≢ Logic → first_fault c mode scope form expected ≡ None → IsFormed c form
      → IsSuited w (length base.symbols) form
      → (limit d offset : ℕ) (variables : Variables ℕ) (s : State ℕ) (a : State QualifiedName)
      → IsTable (table_of base.packages s.symbols) → NamesTruth (table_of base.packages s.symbols) → Extends base (table_of base.packages s.symbols)
      → AreVariables scope variables → AreLive scope s.stobjs → KnowsVariables (length s.symbols) variables → Correspond (theory_with w base s.symbols) s.stobjs a.stobjs → a.outer ≡ s.outer → a.calls ≡ offset + s.outer
      → AnswersOn w base offset (checked w base.packages limit d form variables s) (λ m k. abstractly (theory_with w base symbols) m k d form (named_variables s.symbols variables) a)
