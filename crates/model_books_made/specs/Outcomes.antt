-- What the commands of a book are answered, one after the other, with the session after each (ACL2's manual, topic BOOKS).
use Rattle.std.specs.Prelude.{◌≡◌, ◌⊎◌, ℕ, zero, suc, ◌+◌, ◌-◌, List, [], ◌∷◌, ◌++◌, length, drop, true}
use Rattle.model_text.specs.declared.TextCause.{TextCause}
use Rattle.model_text.specs.Next.{Next, Stands, Nothing, End, Faulty, next_at}
use Rattle.model_events.specs.Events.{Limits}
use Rattle.model_books.specs.Opening.{Session, opening_session}
use Rattle.model_books.specs.Commands.{Answered, command}
use Rattle.model_books.specs.Lines.{Bytes, answer_lines}
use Rattle.model_books.specs.Output.{Totals, Output, counted, lines, ended, faulted, numbered}
use Rattle.model_made.specs.Made.{IsMade}

module _ (bounds : Limits) where
  -- that of the command that stands first, and those of what follows it
  abbrev pub next_outcomes : Session → (ℕ → Session → List Answered) → Next → List Answered
  next_outcomes s go (Stands f end symbols) =
      let o = command bounds (record s { symbols = symbols }) (numbered symbols f) in
      o ∷ go end o.session
  next_outcomes s go Nothing = []
  next_outcomes s go End = []
  next_outcomes s go (Faulty c offset) = []

  -- those of the commands in the bytes that begin at an offset of the input, no more commands than this
  unfoldable pub outcomes : ℕ → ℕ → Bytes → Session → List Answered
  outcomes zero offset bytes s = []
  outcomes (suc n) offset bytes s =
      next_outcomes s (λ end. outcomes n end (drop (end - offset) bytes)) (next_at s.environment.packages s.environment.current s.symbols offset bytes true)

-- those of a whole book
abbrev pub book_outcomes : Limits → Bytes → List Answered
book_outcomes bounds bytes = outcomes bounds (length bytes + 1) 0 bytes opening_session

-- commands have made the session after each
abbrev pub AreMade : List Answered → Type 0
AreMade [] = Unit {0}
AreMade (o ∷ os) = IsMade o.session × AreMade os

-- ---- what is written of them

abbrev pub lines_of : List Answered → Bytes
lines_of [] = []
lines_of (o ∷ os) = lines (answer_lines o.session o.answer) ++ lines_of os

abbrev pub totals_after : Totals → List Answered → Totals
totals_after t [] = t
totals_after t (o ∷ os) = totals_after (counted t o) os

-- the end of the input, or a fault of its text
abbrev pub IsEnd : Totals → Output → Type 0
IsEnd t out = (out ≡ ended t) ⊎ ((c : TextCause) × (offset : ℕ) × (out ≡ faulted t c offset))
