-- Accepted forms have in abstract evaluation the answers that they have in checked evaluation, as a law (ACL2's manual, topic
use Rattle.std.specs.Prelude.{◌≡◌, ◌≢◌, ℕ, List, length, None}
use Rattle.model_symbols.specs.Symbols.{QualifiedName, Table}
use Rattle.model_symbols.specs.Growth.{Extends}
use Rattle.model_terms.specs.declared.rule.Mode.{Mode}
use Rattle.model_terms.specs.declared.rule.Mode.TheVariants.{Logic}
use Rattle.model_terms.specs.Cores.{Core}
use Rattle.model_terms.specs.Worlds.{World, Out, Scope}
use Rattle.model_terms.specs.Faults.{first_fault}
use Rattle.model_eval.specs.Outcomes.{State}
use Rattle.model_eval.specs.Variables.{Variables}
use Rattle.model_eval.specs.Checked.{checked}
use Rattle.model_eval_laws.specs.Scope.{names}
use Rattle.model_abstract.specs.Rules.{abstractly}
use Rattle.model_accepted.specs.Threaded.{IsFormed, Suits, IsThreaded}
use Rattle.model_accepted.specs.StobjScopes.{AreVariables}
use Rattle.model_follows.specs.FollowedWorlds.{IsSuited}
use Rattle.model_follows.specs.Follows.{table_of, IsSound, AreFitting}
use Rattle.model_follows.specs.Held.{AreSeenIn, ground_book}
use Rattle.model_follows.specs.Abstract.{ObligationsInLogic, abstract_ground, IsFollowedBeside}
use Rattle.model_answers.specs.Beside.{named_variables, KnowsVariables, AreTogether, AnswersAs}

-- DEFABSSTOBJ).

-- where a state of abstract evaluation goes with one of checked evaluation, for every limit of calls and every depth: what
-- checked evaluation of an accepted form ends with, unless it stops at a limit or inside an export, abstract evaluation ends with
-- within any budget that suffices and any limit that is not met, and the states go with each other afterwards
pub record FormsAnswer : Type 0 where
  pub answers : (w : World) (base : Table) (symbols : List QualifiedName) (threaded : IsThreaded w) → IsFollowedBeside w (abstract_ground w base symbols) threaded
      → Extends base (table_of base.packages symbols) → ObligationsInLogic (ground_book w (abstract_ground w base symbols))
      → (c : World) (mode : Mode) (scope : Scope) (form : Core) (expected : List Out) → Suits c w → AreSeenIn w (abstract_ground w base symbols) c → mode ≢ Logic → first_fault c mode scope form expected ≡ None → IsFormed c form
      → IsSuited w (length base.symbols) form
      → (limit d offset : ℕ) (variables : Variables ℕ) (s : State ℕ) (a : State QualifiedName)
      → AreVariables scope variables → AreFitting w scope s.stobjs → IsSound w base scope s.symbols s.stobjs → KnowsVariables (length s.symbols) variables → AreTogether w (abstract_ground w base symbols) offset s a
      → AnswersAs w (abstract_ground w base symbols) offset s.symbols (names s.stobjs) a.calls (checked w base.packages limit d form variables s)
      (λ m k. abstractly (ground_book w (abstract_ground w base symbols)) m k d form (named_variables s.symbols variables) a)
