-- What is said of the sessions that books reach, as laws.
use Rattle.std.specs.Prelude.{◌≡◌, ℕ, List, true}
use Rattle.model_symbols.specs.Symbols.{QualifiedName, form_of}
use Rattle.model_text.specs.Token.{Form}
use Rattle.model_text.specs.Next.{Stands, next_at}
use Rattle.model_events.specs.Events.{Limits}
use Rattle.model_books.specs.Opening.{Session, opening_session}
use Rattle.model_books.specs.Commands.{command}
use Rattle.model_books.specs.Lines.{Bytes}
use Rattle.model_books.specs.Output.{Output, before, no_totals, numbered, book_output}
use Rattle.model_abstract_books_rows.specs.Books.{book_played}
use Rattle.model_made.specs.Made.{IsMade}
use Rattle.model_books_made.specs.Outcomes.{book_outcomes, AreMade, lines_of, totals_after, IsEnd}

-- commands have made the session that a run begins with, the session after each command that stands first where commands have
-- made the session before, the session after each command of a book, and the session at the end of a book that is answered twice
pub record BookSessionsAreMade : Type 0 where
  pub opening : IsMade opening_session
  pub next : (k : Limits) (s : Session) → IsMade s → (offset : ℕ) (bytes : Bytes) (f : Form) (end : ℕ) (symbols : List QualifiedName)
      → next_at s.environment.packages s.environment.current s.symbols offset bytes true ≡ Stands f end symbols
      → IsMade (command k (record s { symbols = symbols }) (numbered symbols f)).session
  -- the form by number is the form that was read
  pub form : (s : Session) → IsMade s → (offset : ℕ) (bytes : Bytes) (f : Form) (end : ℕ) (symbols : List QualifiedName)
      → next_at s.environment.packages s.environment.current s.symbols offset bytes true ≡ Stands f end symbols → form_of symbols (numbered symbols f) ≡ f
  pub book : (k : Limits) (bytes : Bytes) → AreMade (book_outcomes k bytes)
  pub played : (budget : ℕ) (k : Limits) (bytes : Bytes) → IsMade (book_played budget k bytes).session

-- a book's output is the lines of its outcomes, and then the end with their totals
pub record BooksPrintOutcomes : Type 0 where
  pub output : (k : Limits) (bytes : Bytes) → (end : Output) × IsEnd (totals_after no_totals (book_outcomes k bytes)) end × (book_output k bytes ≡ before (lines_of (book_outcomes k bytes)) end)
