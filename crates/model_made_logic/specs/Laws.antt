-- What is said of sessions that commands have made, and of evaluation there, as laws.
use Rattle.std.specs.Prelude.{◌≡◌, ℕ, ◌≤◌, List, length, true, false, Some, None}
use Rattle.model_objects.specs.Object.{Object}
use Rattle.model_objects.specs.Named.{Knows}
use Rattle.model_symbols.specs.Symbols.{QualifiedName, Package}
use Rattle.model_symbols.specs.Tables.{IsTable}
use Rattle.model_terms.specs.Cores.{Core}
use Rattle.model_terms.specs.Worlds.{World, AbstractDescriptor, Function, GeneratedFunction, FunctionOfAbstract, Defined, Generated, Abstract, OfAbstract, definition}
use Rattle.model_terms.specs.Faults.{expression_fault}
use Rattle.model_terms.specs.declared.role.AbstractRole.TheVariants as abstract_role
use Rattle.model_terms.specs.Accessors.{is_internal}
use Rattle.model_eval.specs.Outcomes.{State}
use Rattle.model_eval.specs.Variables.{Variables, list_of}
use Rattle.model_eval.specs.Checked.{checked}
use Rattle.model_expansion.specs.Expansion.{Setting, Progress, Makes, expanded, at_start}
use Rattle.model_expansion_forms.specs.Rows.{Supplies}
use Rattle.model_events.specs.Events.{Limits, setting}
use Rattle.model_books.specs.Opening.{Session, opening_session}
use Rattle.model_books.specs.Commands.{live_scope, command}
use Rattle.model_prims.specs.Kinds.{by_number}
use Rattle.model_prims.specs.Laws.{NamesTruth}
use Rattle.model_lists_laws.specs.Laws.{HasInitials}
use Rattle.model_accepted.specs.Threaded.{layout_of}
use Rattle.model_follows.specs.FollowedWorlds.{KnowsList, IsMadeFor, HasAbstractCreator, IsSuited, IsFollowed}
use Rattle.model_follows.specs.Abstract.{abstract_of, IsOfAbstract}
use Rattle.model_follows.specs.Follows.{table_of}
use Rattle.model_made.specs.Lawful.{IsLawfulSession}
use Rattle.model_made.specs.Made.{Step, knowing, HasRead, IsMade}
use Rattle.model_made_logic.specs.Known.{IsKnownSession, KnowsStobjs, KnowsVariables, KnowsForm, KnowsDefinitions, KnowsWorld, EndsKnown}

-- where what a form is evaluated in has known symbols, so has what its checked evaluation ends with, and a table of symbols
-- stays one; abstract stobjs are among the stobjs
pub record EvaluationKeepsKnown : Type 0 where
  pub known : (w : World) (n : ℕ) → 2 ≤ n → KnowsWorld w n → (packages : List Package) (k d : ℕ) (form : Core) (variables : Variables ℕ) (s : State ℕ)
      → KnowsForm n form → n ≤ length s.symbols → KnowsVariables (length s.symbols) variables → KnowsStobjs (length s.symbols) s.stobjs
      → EndsKnown packages s.symbols (checked w packages k d form variables s)

-- where definitions have known symbols, evaluation takes known symbols from the world, those of layouts too, and expansion
-- is supplied with them
pub record DefinitionsSupply : Type 0 where
  pub world : (w : World) (n : ℕ) → KnowsDefinitions w n → KnowsWorld w n
  pub supplies : (x : Setting) (n : ℕ) → 2 ≤ n → KnowsDefinitions x.world n → Supplies x n

-- a command keeps a session known: its symbols are a table, and those of its definitions and live stobjs are among them
pub record CommandsKeepTables : Type 0 where
  pub command : (k : Limits) (s : Session) (form : Object ℕ) → IsLawfulSession s → IsKnownSession s → Knows (length s.symbols) form → IsKnownSession (command k s form).session
  pub read : (s : Session) (t : Step) → IsKnownSession s → HasRead s t → IsKnownSession (knowing s t.read)

-- the session that every run begins with is known, and so is each that commands have made
pub record MadeSessionsAreKnown : Type 0 where
  pub opening : IsKnownSession opening_session
  pub known : (s : Session) → IsMade s → IsKnownSession s
  pub table : (s : Session) → IsMade s → IsTable (table_of s.environment.packages s.symbols)
  pub truth : (s : Session) → IsMade s → NamesTruth (table_of s.environment.packages s.symbols)
  pub live : (s : Session) → IsMade s → (x : ℕ) → KnowsList (length s.symbols) (list_of s.stobjs x)
  pub world : (s : Session) → IsMade s → KnowsWorld s.environment.world (length s.symbols)
  pub supplies : (s : Session) (k : Limits) → IsMade s → Supplies (setting s.environment k) (length s.symbols)

-- each function that a concrete stobj comes with, and that forms may call, has its inputs in the order that the logic asks,
-- each initial value meets its type, and the stobj is no abstract one
pub record MadeStobjsAreStocked : Type 0 where
  pub made : (s : Session) → IsMade s → (x : ℕ) (g : GeneratedFunction) → definition s.environment.world x ≡ Some (Generated g) → is_internal s.environment.world (Generated g) ≡ false → IsMadeFor s.environment.world g
  pub initials : (s : Session) → IsMade s → (x : ℕ) → HasInitials by_number (layout_of s.environment.world x)
  pub plain : (s : Session) → IsMade s → (x : ℕ) (g : GeneratedFunction) → definition s.environment.world x ≡ Some (Generated g) → abstract_of (definition s.environment.world g.stobj) ≡ None

-- a form that a command expands to and that is accepted is as the logic asks
pub record AcceptedFormsAreSuited : Type 0 where
  pub suited : (s : Session) → IsMade s → (k : Limits) (form : Object ℕ) (symbols : List QualifiedName) → length s.symbols ≤ length symbols → Knows (length symbols) form → (f : Core) (p : Progress) → expanded (setting s.environment k) form (at_start symbols) ≡ Makes f p
      → expression_fault s.environment.world (live_scope s.stobjs) f ≡ None → IsSuited s.environment.world (length p.symbols) f

-- the functions that run of a world that commands have made are as the logic asks; what is of an abstract stobj has a logic
-- function that is of none; and where nothing is of an abstract stobj the whole world is as the logic asks
pub record MadeWorldsAreFollowed : Type 0 where
  pub functions : (s : Session) → IsMade s → (x : ℕ) (f : Function) → definition s.environment.world x ≡ Some (Defined f) → f.executable ≡ true
      → IsSuited s.environment.world (length s.symbols) f.guard × IsSuited s.environment.world (length s.symbols) f.body
  pub followed : (s : Session) → IsMade s → ((x : ℕ) (f : FunctionOfAbstract) → definition s.environment.world x ≡ Some (OfAbstract f) → ⊥) → IsFollowed s.environment.world (length s.symbols)
  pub creators : (s : Session) → IsMade s → (x : ℕ) (d : AbstractDescriptor) → definition s.environment.world x ≡ Some (Abstract d) → HasAbstractCreator s.environment.world x
  pub abstracts : (s : Session) → IsMade s → (x : ℕ) (f : FunctionOfAbstract) → definition s.environment.world x ≡ Some (OfAbstract f) → IsOfAbstract s.environment.world f
  pub exports : (s : Session) → IsMade s → (x : ℕ) (f : FunctionOfAbstract) → definition s.environment.world x ≡ Some (OfAbstract f) → f.role ≡ abstract_role.Export → IsSuited s.environment.world (length s.symbols) f.guard
