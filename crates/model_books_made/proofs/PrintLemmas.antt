-- A book's output is the lines of its outcomes, and then the end.
use Rattle.std.proofs.Common.{◌≡◌, ℕ, zero, suc, ◌+◌, ◌-◌, List, ◌∷◌, length, true, refl, sym, ap, ◌∙◌, inl, inr}
use Rattle.std.specs.Prelude.{drop}
use Rattle.std.proofs.lemmas.List.{append_assoc}
use Rattle.model_text.specs.Next.{Next, Stands, Nothing, End, Faulty, next_at}
use Rattle.model_events.specs.Events.{Limits}
use Rattle.model_books.specs.Opening.{Session, opening_session}
use Rattle.model_books.specs.Commands.{Answered, command}
use Rattle.model_books.specs.Lines.{Bytes, answer_lines}
use Rattle.model_books.specs.Output.{Totals, Output, before, counted, lines, ended, faulted, no_totals, numbered, next_answered, answers}
use Rattle.model_books_made.specs.Outcomes.{next_outcomes, outcomes, lines_of, totals_after, IsEnd}
use Rattle.model_books_made.specs.Laws.{BooksPrintOutcomes}

-- these lines and then an end
abbrev Prints : Totals → List Answered → Output → Type 0
Prints t os out = (end : Output) × IsEnd (totals_after t os) end × (out ≡ before (lines_of os) end)

prints_first : (t : Totals) (o : Answered) (os : List Answered) (out : Output) → Prints (counted t o) os out → Prints t (o ∷ os) (before (lines (answer_lines o.session o.answer)) out)
prints_first t o os out h =
    let first = lines (answer_lines o.session o.answer) in
    (h.0, h.1, ap (before first) h.2 ∙ ap (λ bytes. record h.0 { bytes = bytes }) (sym (append_assoc first (lines_of os) h.0.bytes)))

module _ (k : Limits) where
  outcomes_print : (n offset : ℕ) (bytes : Bytes) (s : Session) (t : Totals) → Prints t (outcomes k n offset bytes s) (answers k n offset bytes s t)
  unfolding outcomes answers
  outcomes_print zero offset bytes s t = (ended t, inl refl, refl)
  outcomes_print (suc n) offset bytes s t = go (next_at s.environment.packages s.environment.current s.symbols offset bytes true) (λ end. outcomes_print n end (drop (end - offset) bytes))
    where
      go : (next : Next) → ((end : ℕ) (q : Session) (u : Totals) → Prints u (outcomes k n end (drop (end - offset) bytes) q) (answers k n end (drop (end - offset) bytes) q u))
          → Prints t (next_outcomes k s (λ end. outcomes k n end (drop (end - offset) bytes)) next) (next_answered k s t (λ end. answers k n end (drop (end - offset) bytes)) next)
      go (Stands f end symbols) rest =
          let o = command k (record s { symbols = symbols }) (numbered symbols f) in
          prints_first t o _ _ (rest end o.session (counted t o))
      go Nothing rest = (ended t, inl refl, refl)
      go End rest = (ended t, inl refl, refl)
      go (Faulty c at) rest = (faulted t c at, inr (c, at, refl), refl)

pub books_print_outcomes : BooksPrintOutcomes
books_print_outcomes = record { output = λ k bytes. outcomes_print k (length bytes + 1) 0 bytes opening_session no_totals }
