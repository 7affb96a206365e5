-- Which worlds and sessions are lawful.
use Rattle.std.specs.Prelude.{ℕ, List, ◌++◌}
use Rattle.model_symbols.specs.Symbols.{Package}
use Rattle.model_objects.specs.Object.{Object}
use Rattle.model_terms.specs.Worlds.{World, Descriptor, AbstractDescriptor}
use Rattle.model_expansion.specs.Expansion.{Setting, Progress}
use Rattle.model_stobjs.specs.Answers.{EventResult, Grants, Refuses, Halts}
use Rattle.model_stobjs.specs.Descriptors.{descriptor_read}
use Rattle.model_stobjs.specs.Abstracts.{abstract_read, abstract_entries}
use Rattle.model_stobjs.specs.Entries.{stobj_entries}
use Rattle.model_accepted.specs.Threaded.{Suits, IsThreaded}
use Rattle.model_lawful.specs.Lawful.{IsLawful}
use Rattle.model_events.specs.Events.{Limits}
use Rattle.model_books.specs.Commands.{command}
use Rattle.model_events.specs.Macros.{macro_read}
use Rattle.model_events.specs.Constants.{constant_read}
use Rattle.model_events.specs.Functions.{functions_read}
use Rattle.model_books.specs.Opening.{Session, opening_session, opening_world}
use Rattle.model_made.specs.Made.{IsMade}
use Rattle.model_made.specs.Lawful.{IsLawfulWorld, IsLawfulSession}

-- the session that every run begins with is lawful
pub record OpeningIsLawful : Type 0 where
  pub world : IsLawfulWorld opening_world
  pub session : IsLawfulSession opening_session

-- where an event grants definitions, the world is lawful with them
abbrev pub StaysLawful : World → EventResult World → Type 0
StaysLawful w (Grants new p) = IsLawfulWorld (w ++ new)
StaysLawful w (Refuses r p) = Unit {0}
StaysLawful w (Halts stop inside p) = Unit {0}

-- the same of a stobj with the functions that it comes with
abbrev pub StaysLawfulWith : World → EventResult Descriptor → Type 0
StaysLawfulWith w (Grants d p) = IsLawfulWorld (w ++ stobj_entries w d)
StaysLawfulWith w (Refuses r p) = Unit {0}
StaysLawfulWith w (Halts stop inside p) = Unit {0}

-- the same of an abstract stobj with its functions
abbrev pub StaysLawfulAbstractly : World → EventResult AbstractDescriptor → Type 0
StaysLawfulAbstractly w (Grants d p) = IsLawfulWorld (w ++ abstract_entries w d)
StaysLawfulAbstractly w (Refuses r p) = Unit {0}
StaysLawfulAbstractly w (Halts stop inside p) = Unit {0}

-- each event that brings definitions keeps a lawful world lawful
pub record DefinitionsStayLawful : Type 0 where
  pub macros : (x : Setting) → IsLawfulWorld x.world → (d : Object ℕ) (p : Progress) → StaysLawful x.world (macro_read x d p)
  pub constants : (x : Setting) → IsLawfulWorld x.world → (d : Object ℕ) (p : Progress) → StaysLawful x.world (constant_read x d p)
  pub functions : (x : Setting) → IsLawfulWorld x.world → (head : ℕ) (d : Object ℕ) (p : Progress) → StaysLawful x.world (functions_read x head d p)
  pub stobjs : (w : World) → IsLawfulWorld w → (packages : List Package) (d : Object ℕ) (p : Progress) → StaysLawfulWith w (descriptor_read w packages d p)
  pub abstract_stobjs : (w : World) → IsLawfulWorld w → (packages : List Package) (d : Object ℕ) (p : Progress) → StaysLawfulAbstractly w (abstract_read w packages d p)

-- a command keeps a session lawful, whether it is refused, stops or ends
pub record CommandsStayLawful : Type 0 where
  pub command : (k : Limits) (s : Session) (form : Object ℕ) → IsLawfulSession s → IsLawfulSession (command k s form).session

-- what is asked of a world where forms run: it is threaded, and suits itself
pub record LawfulSessionsAreThreaded : Type 0 where
  pub threaded : (s : Session) → IsLawfulSession s → IsThreaded s.environment.world
  pub suits : (s : Session) → IsLawfulSession s → Suits s.environment.world s.environment.world

-- a session that commands made is lawful; so its world is, which is threaded and suits itself
pub record MadeSessionsAreLawful : Type 0 where
  pub lawful : (s : Session) → IsMade s → IsLawfulSession s
  pub world : (s : Session) → IsMade s → IsLawful s.environment.world
  pub threaded : (s : Session) → IsMade s → IsThreaded s.environment.world
  pub suits : (s : Session) → IsMade s → Suits s.environment.world s.environment.world
