-- A whole book whose commands are answered in place.
use Rattle.std.specs.Prelude.{ℕ, zero, suc, ◌-◌, ◌+◌, List, [], length, drop, true, Option, Some, None}
use Rattle.acl_base.specs.declared.status.Status.TheVariants.{Words}
use Rattle.model_text.specs.Next.{Next, Stands, Nothing, End, Faulty, next_at}
use Rattle.model_events.specs.Events.{Limits}
use Rattle.model_books.specs.Opening.{Session, opening_session}
use Rattle.model_books.specs.Lines.{Bytes}
use Rattle.model_books.specs.ProgramWords.{Given, given, limits}
use Rattle.model_books.specs.GeneratedBook.{generated_book}
use Rattle.model_books.specs.Output.{Totals, Output, no_totals, numbered, answered, ended, faulted}
use Rattle.model_in_place_books.specs.Commands.{command_in_place}

abbrev pub next_in_place : Limits → Session → Totals → (ℕ → Session → Totals → Output) → Next → Output
next_in_place bounds s t go (Stands f end symbols) = answered t (go end) (command_in_place bounds (record s { symbols = symbols }) (numbered symbols f))
next_in_place bounds s t go Nothing = ended t
next_in_place bounds s t go End = ended t
next_in_place bounds s t go (Faulty c offset) = faulted t c offset

-- the answers to the commands in the bytes that begin at an offset of the input, no more commands than this; each has a byte
unfoldable pub answers_in_place : Limits → ℕ → ℕ → Bytes → Session → Totals → Output
answers_in_place bounds zero offset bytes s t = ended t
answers_in_place bounds (suc n) offset bytes s t =
    next_in_place bounds s t (λ end. answers_in_place bounds n end (drop (end - offset) bytes))
    (next_at s.environment.packages s.environment.current s.symbols offset bytes true)

abbrev pub book_in_place : Limits → Bytes → Output
book_in_place bounds bytes = answers_in_place bounds (length bytes + 1) 0 bytes opening_session no_totals

abbrev pub given_in_place : Option Given → Bytes → Output
given_in_place None input = record { bytes = []; status = Words }
given_in_place (Some g) input = book_in_place (limits g) (book g.generate) where
  book : Option ℕ → Bytes
  book None = input
  book (Some n) = generated_book n

-- what is written for words and an input, and the status, where live stobjs are overwritten in place
unfoldable pub output_in_place : List Bytes → Bytes → Output
output_in_place words input = given_in_place (given words) input
