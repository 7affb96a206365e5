-- In place equals applicative, of whole books.
use Rattle.std.proofs.Common.{◌≡◌, ℕ, zero, suc, ◌+◌, ◌-◌, List, length, true, Option, Some, None, refl, ap, ◌∙◌}
use Rattle.std.specs.Prelude.{drop}
use Rattle.model_text.specs.Next.{Next, Stands, Nothing, End, Faulty, next_at}
use Rattle.model_events.specs.Events.{Limits}
use Rattle.model_books.specs.Opening.{Session, opening_session}
use Rattle.model_books.specs.Commands.{Answered, command}
use Rattle.model_books.specs.Lines.{Bytes, answer_lines}
use Rattle.model_books.specs.ProgramWords.{Given, given, limits}
use Rattle.model_books.specs.GeneratedBook.{generated_book}
use Rattle.model_books.specs.Output.{Totals, Output, no_totals, before, lines, counted, numbered, answered, next_answered, answers, given_output, output}
use Rattle.model_in_place_books.specs.Output.{next_in_place, answers_in_place, given_in_place, output_in_place}
use Rattle.model_made.specs.Made.{IsMade}
use Rattle.model_books_made.proofs.BookLemmas.{book_sessions_made}
use Rattle.model_headline.specs.InPlace.{BooksInPlace}
use Rattle.model_headline_laws.proofs.InPlaceLemmas.{command_same}

module _ (bounds : Limits) where
  -- the bytes behind a form
  abbrev behind : ℕ → ℕ → Bytes → Bytes
  behind offset end bytes = drop (end - offset) bytes

  next_same : (n offset : ℕ) (bytes : Bytes) (s : Session) (t : Totals) → IsMade s → (x : Next)
      → next_at s.environment.packages s.environment.current s.symbols offset bytes true ≡ x
      → ((end : ℕ) (after : Session) (u : Totals) → IsMade after
      → answers_in_place bounds n end (behind offset end bytes) after u ≡ answers bounds n end (behind offset end bytes) after u)
      → next_in_place bounds s t (λ end. answers_in_place bounds n end (behind offset end bytes)) x
      ≡ next_answered bounds s t (λ end. answers bounds n end (behind offset end bytes)) x
  next_same n offset bytes s t made (Stands f end symbols) e later =
      let o : Answered = command bounds (record s { symbols = symbols }) (numbered symbols f) in
      ap (λ (a : Answered). answered t (λ after u. answers_in_place bounds n end (behind offset end bytes) after u) a) (command_same bounds s symbols made (numbered symbols f))
      ∙ ap (λ (rest : Output). before (lines (answer_lines o.session o.answer)) rest)
      (later end o.session (counted t o) (book_sessions_made.next bounds s made offset bytes f end symbols e))
  next_same n offset bytes s t made Nothing e later = refl
  next_same n offset bytes s t made End e later = refl
  next_same n offset bytes s t made (Faulty c at) e later = refl

  answers_same : (n offset : ℕ) (bytes : Bytes) (s : Session) (t : Totals) → IsMade s → answers_in_place bounds n offset bytes s t ≡ answers bounds n offset bytes s t
  unfolding answers_in_place answers
  answers_same zero offset bytes s t made = refl
  answers_same (suc n) offset bytes s t made =
      next_same n offset bytes s t made (next_at s.environment.packages s.environment.current s.symbols offset bytes true) refl
      (λ end after u h. answers_same n end (behind offset end bytes) after u h)

given_same : (g : Option Given) (input : Bytes) → given_in_place g input ≡ given_output g input
given_same None input = refl
given_same (Some g) input = of_book g.generate where
  of_book : (book : Option ℕ) → given_in_place (Some (record g { generate = book })) input ≡ given_output (Some (record g { generate = book })) input
  of_book None = answers_same (limits g) (length input + 1) 0 input opening_session no_totals book_sessions_made.opening
  of_book (Some n) = answers_same (limits g) (length (generated_book n) + 1) 0 (generated_book n) opening_session no_totals book_sessions_made.opening

output_same : (words : List Bytes) (input : Bytes) → output_in_place words input ≡ output words input
unfolding output_in_place output
output_same words input = given_same (given words) input

pub books_in_place : BooksInPlace
books_in_place = record { same = λ words input. output_same words input }
