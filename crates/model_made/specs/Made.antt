-- Sessions that commands have made, from the session that every run begins with.
use Rattle.std.specs.Prelude.{◌≡◌, ℕ, List, [], ◌∷◌, ◌++◌, length, true}
use Rattle.model_objects.specs.Object.{Object, is_value}
use Rattle.model_objects.specs.Named.{Knows}
use Rattle.model_symbols.specs.Symbols.{QualifiedName}
use Rattle.model_symbols.specs.Tables.{IsTable}
use Rattle.model_events.specs.Events.{Limits}
use Rattle.model_books.specs.Opening.{Session, opening_session}
use Rattle.model_books.specs.Commands.{command}

-- a command: its limits, the symbols that are known once its form is read, and the form
pub record Step : Type 0 where
  pub limits : Limits
  pub read : List QualifiedName
  pub form : Object ℕ

-- the session with these symbols known
abbrev pub knowing : Session → List QualifiedName → Session
knowing s symbols = record s { symbols = symbols }

-- the session after one command, and after several
abbrev pub after_step : Session → Step → Session
after_step s t = (command t.limits (knowing s t.read) t.form).session

abbrev pub commanded : Session → List Step → Session
commanded s [] = s
commanded s (t ∷ ts) = commanded (after_step s t) ts

-- reading adds symbols, and they are still a table; the form is a value whose symbols are known
pub record HasRead (s : Session) (t : Step) : Type 0 where
  pub added : (more : List QualifiedName) × (t.read ≡ s.symbols ++ more)
  pub table : IsTable (record { packages = s.environment.packages; symbols = t.read })
  pub known : Knows (length t.read) t.form
  pub value : is_value t.form ≡ true

abbrev pub AreRead : Session → List Step → Type 0
AreRead s [] = Unit {0}
AreRead s (t ∷ ts) = HasRead s t × AreRead (after_step s t) ts

-- commands have made it
abbrev pub IsMade : Session → Type 0
IsMade s = (ts : List Step) × AreRead opening_session ts × (s ≡ commanded opening_session ts)
