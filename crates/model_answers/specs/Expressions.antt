-- The expression of a command, answered by abstract evaluation.
use Rattle.std.specs.Prelude.{◌≡◌, ℕ, ◌≤◌, false, Some, None, length}
use Rattle.model_symbols.specs.Tables.{IsTable}
use Rattle.model_prims.specs.Laws.{NamesTruth}
use Rattle.model_terms.specs.Cores.{Core}
use Rattle.model_terms.specs.Classes.{repeats}
use Rattle.model_terms.specs.Faults.{expression_fault}
use Rattle.model_abstract.specs.Corresponding.{Correspond}
use Rattle.model_expansion.specs.Expansion.{Progress}
use Rattle.model_events.specs.Events.{Limits}
use Rattle.model_books.specs.Opening.{Session}
use Rattle.model_books.specs.Commands.{Answered, live_scope}
use Rattle.model_books.specs.Commands as commands
use Rattle.model_abstract_books.specs.Answers.{answer_named, is_excepted}
use Rattle.model_abstract_books.specs.Commands.{Lists, AbstractOutcome, theory_of, core_outcome}
use Rattle.model_eval_laws.specs.Scope.{names}
use Rattle.model_accepted.specs.Threaded.{IsFormed, Suits, IsThreaded}
use Rattle.model_follows.specs.FollowedWorlds.{IsSuited}
use Rattle.model_follows.specs.Follows.{table_of}
use Rattle.model_follows.specs.Held.{AreSeenIn}
use Rattle.model_follows.specs.SymbolLaw.{IsWritten}
use Rattle.model_follows.specs.Abstract.{ObligationsInLogic, abstract_ground, IsFollowedBeside}
use Rattle.model_follows.specs.AbstractLists.{AreLaidOut}

-- what is asked of a session, the symbols being those after an expansion, and of a form: what holds of each that commands make
pub record IsReady (k : Limits) (s : Session) (f : Core) (p : Progress) : Type 0 where
  pub threaded : IsThreaded s.environment.world
  pub followed : IsFollowedBeside s.environment.world (abstract_ground s.environment.world (table_of s.environment.packages p.symbols) p.symbols) threaded
  pub written : IsWritten s.environment.world (length p.symbols)
  pub laid : AreLaidOut s.environment.world
  pub obligations : ObligationsInLogic (theory_of s.environment p.symbols)
  pub suits : Suits s.environment.world s.environment.world
  pub seen : AreSeenIn s.environment.world (abstract_ground s.environment.world (table_of s.environment.packages p.symbols) p.symbols) s.environment.world
  pub formed : IsFormed s.environment.world f
  pub suited : IsSuited s.environment.world (length p.symbols) f
  pub table : IsTable (table_of s.environment.packages p.symbols)
  pub truth : NamesTruth (table_of s.environment.packages p.symbols)
  pub once : repeats (names s.stobjs) ≡ false
  pub outer : p.outer ≤ p.calls
  pub within : p.calls ≤ k.steps

-- the same answer, as many calls as outer calls, and lists that correspond
pub record Agrees (o : Answered) (a : AbstractOutcome) : Type 0 where
  pub answer : a.answer ≡ answer_named o.session.symbols o.answer
  pub lists : Correspond (theory_of o.session.environment o.session.symbols) o.session.stobjs a.lists
  pub calls : a.calls ≡ o.outer
  pub value : a.value ≡ None

-- a command's accepted form, evaluated on lists that correspond
pub record ExpressionsAnswer : Type 0 where
  pub answers : (k : Limits) (s : Session) (f : Core) (p : Progress) (lists : Lists) → IsReady k s f p → expression_fault s.environment.world (live_scope s.stobjs) f ≡ None
      → Correspond (theory_of s.environment p.symbols) s.stobjs lists → is_excepted (commands.core_outcome k s f p None).answer ≡ false
      → (a : AbstractOutcome) × ((budget : ℕ) × (core_outcome budget k s lists f p None ≡ Some a)) × Agrees (commands.core_outcome k s f p None) a
