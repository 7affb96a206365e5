-- What a command counts.
use Rattle.std.specs.Prelude.{◌≡◌, ℕ, ◌≤◌, List, ◌++◌}
use Rattle.model_objects.specs.Object.{Object}
use Rattle.model_symbols.specs.Symbols.{QualifiedName}
use Rattle.model_events.specs.Events.{Limits}
use Rattle.model_books.specs.Opening.{Session}
use Rattle.model_books.specs.Commands.{command}

-- calls do not pass the limit, outer calls are calls, and symbols are only added
pub record CommandsCount : Type 0 where
  pub calls : (k : Limits) (s : Session) (form : Object ℕ) → (command k s form).calls ≤ k.steps
  pub outer : (k : Limits) (s : Session) (form : Object ℕ) → (command k s form).outer ≤ (command k s form).calls
  pub symbols : (k : Limits) (s : Session) (form : Object ℕ) → (added : List QualifiedName) × ((command k s form).session.symbols ≡ s.symbols ++ added)
