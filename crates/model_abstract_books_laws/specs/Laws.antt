-- Laws of the answers of abstract evaluation.
use Rattle.std.specs.Prelude.{◌≡◌, ℕ, ◌≤◌, ◌++◌, Some}
use Rattle.model_objects.specs.Object.{Object}
use Rattle.model_symbols.specs.Symbols.{QualifiedName}
use Rattle.model_events.specs.Events.{Limits}
use Rattle.model_books.specs.Opening.{Session}
use Rattle.model_books.specs.Commands.{Answer, Event, Skipped, Values, Show, Cells, Refused, Stopped}
use Rattle.model_abstract_books.specs.Commands.{Lists, AbstractOutcome, abstract_command, AnswersAbstractly}

-- the outcome that some budget gives is the same at every larger budget, and no other budget gives another
pub record AnswersAreDetermined : Type 0 where
  pub same : (m n : ℕ) (k : Limits) (s : Session) (lists : Lists) (form : Object ℕ) (o : AbstractOutcome) → m ≤ n → abstract_command m k s lists form ≡ Some o → abstract_command n k s lists form ≡ Some o
  pub one : (k : Limits) (s : Session) (lists : Lists) (form : Object ℕ) (o p : AbstractOutcome) → AnswersAbstractly k s lists form o → AnswersAbstractly k s lists form p → o ≡ p

-- the lists before an answer and after it: only an evaluation changes one, and an event only adds
abbrev pub KeepsLists : Lists → Lists → Answer QualifiedName → Type 0
KeepsLists old new (Event said) = (added : Lists) × (new ≡ old ++ added)
KeepsLists old new Skipped = new ≡ old
KeepsLists old new (Values values) = Unit {0}
KeepsLists old new (Show o) = new ≡ old
KeepsLists old new (Cells n) = new ≡ old
KeepsLists old new (Refused r) = new ≡ old
KeepsLists old new (Stopped stop inside) = Unit {0}

pub record AnswersKeepLists : Type 0 where
  pub kept : (m : ℕ) (k : Limits) (s : Session) (lists : Lists) (form : Object ℕ) (o : AbstractOutcome) → abstract_command m k s lists form ≡ Some o → KeepsLists lists o.lists o.answer

-- no answer counts more calls than the limit
pub record AnswersCountWithin : Type 0 where
  pub calls : (m : ℕ) (k : Limits) (s : Session) (lists : Lists) (form : Object ℕ) (o : AbstractOutcome) → abstract_command m k s lists form ≡ Some o → o.calls ≤ k.steps
