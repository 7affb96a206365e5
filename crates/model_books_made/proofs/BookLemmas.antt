-- The sessions that books reach are made by commands.
use Rattle.std.proofs.Common.{◌≡◌, ℕ, zero, suc, ◌+◌, ◌-◌, List, [], ◌∷◌, ◌++◌, length, Bool, true, false, Option, Some, None, refl, sym, ap, ◌∙◌, subst}
use Rattle.std.specs.Prelude.{drop, pos, if◌then◌else◌}
use Rattle.model_objects.specs.Object.{Object, Integer}
use Rattle.model_symbols.specs.Tables.{IsTable}
use Rattle.model_symbols.specs.Symbols.{QualifiedName}
use Rattle.model_text.specs.Token.{Form}
use Rattle.model_text.specs.Next.{Next, Stands, Nothing, End, Faulty, next_at}
use Rattle.model_terms.specs.Sites.{below, below_parts, below_actuals}
use Rattle.model_terms.specs.Faults.{first_in, first_at, first_fault}
use Rattle.model_terms.specs.Outputs.{outputs}
use Rattle.model_eval.specs.Evaluated.{evaluated}
use Rattle.model_expansion.specs.Expansion.{look_at, settled, grown_all, grown}
use Rattle.model_events.specs.Events.{Limits}
use Rattle.model_books.specs.Opening.{Session, opening_session}
use Rattle.model_books.specs.Commands.{command}
use Rattle.model_books.specs.Lines.{Bytes}
use Rattle.model_books.specs.Output.{numbered}
use Rattle.model_abstract_books.specs.Answers.{is_excepted}
use Rattle.model_abstract_books.specs.Foundations.{prints_foundations}
use Rattle.model_abstract_books.specs.Commands.{Lists, AbstractOutcome, abstract_command}
use Rattle.model_abstract_books_rows.specs.Books as books
use Rattle.model_abstract_books_rows.specs.Books.{Played, played, book_played, next_played, unless_excepted, unseen, played_on, told}
use Rattle.model_made.specs.Made.{Step, knowing, after_step, commanded, HasRead, AreRead, IsMade}
use Rattle.model_books_made.specs.Outcomes.{AreMade, next_outcomes, outcomes}
use Rattle.model_books_made.specs.Laws.{BookSessionsAreMade}
use Rattle.model_books_made.proofs.ReadLemmas.{has_read, form_read}

-- ---- one command more

commanded_both : (s : Session) (ts us : List Step) → commanded s (ts ++ us) ≡ commanded (commanded s ts) us
commanded_both s [] us = refl
commanded_both s (t ∷ ts) us = commanded_both (after_step s t) ts us

read_both : (s : Session) (ts us : List Step) → AreRead s ts → AreRead (commanded s ts) us → AreRead s (ts ++ us)
read_both s [] us h g = g
read_both s (t ∷ ts) us h g = (h.0, read_both (after_step s t) ts us h.1 g)

pub made_then : (s : Session) (t : Step) → IsMade s → HasRead s t → IsMade (after_step s t)
made_then s t m h =
    let there : HasRead (commanded opening_session m.0) t = subst (λ q. HasRead q t) m.2 h in
    (m.0 ++ t ∷ [], read_both opening_session m.0 (t ∷ []) m.1 (there, tt), ap (λ q. after_step q t) m.2 ∙ sym (commanded_both opening_session m.0 (t ∷ [])))

pub opening_made : IsMade opening_session
opening_made = ([], tt, refl)

-- ---- symbols alone

-- a session in which only symbols were added is as after the command `0`
module _ (s : Session) (symbols : List QualifiedName) where
  abbrev zero_run : Step
  zero_run = record { limits = record { steps = 1; depth = 1 }; read = symbols; form = Integer (pos 0) }

  nothing_changed : after_step s zero_run ≡ knowing s symbols
  unfolding command look_at settled grown_all grown evaluated first_in first_at first_fault below below_parts below_actuals outputs
  nothing_changed = refl

  pub knowing_made : IsMade s → (more : List QualifiedName) × (symbols ≡ s.symbols ++ more) → IsTable (record { packages = s.environment.packages; symbols = symbols }) → IsMade (knowing s symbols)
  knowing_made m added table = subst IsMade nothing_changed (made_then s zero_run m (record { added = added; table = table; known = tt; value = refl }))

-- ---- the command that stands first

module _ (s : Session) (m : IsMade s) (offset : ℕ) (bytes : Bytes) (f : Form) (end : ℕ) (symbols : List QualifiedName) (e : next_at s.environment.packages s.environment.current s.symbols offset bytes true ≡ Stands f end symbols) where
  pub next_made : (k : Limits) → IsMade (command k (record s { symbols = symbols }) (numbered symbols f)).session
  next_made k = made_then s (record { limits = k; read = symbols; form = numbered symbols f }) m (has_read s m offset bytes f end symbols e k)

  pub reading_made : IsMade (knowing s symbols)
  reading_made =
      let h = has_read s m offset bytes f end symbols e (zero_run s symbols).limits in
      knowing_made s symbols m h.added h.table

-- ---- books

module _ (k : Limits) where
  outcomes_made : (n offset : ℕ) (bytes : Bytes) (s : Session) → IsMade s → AreMade (outcomes k n offset bytes s)
  unfolding outcomes
  outcomes_made zero offset bytes s m = tt
  outcomes_made (suc n) offset bytes s m =
      go (next_at s.environment.packages s.environment.current s.symbols offset bytes true) refl (λ end. outcomes_made n end (drop (end - offset) bytes))
    where
      go : (next : Next) → next_at s.environment.packages s.environment.current s.symbols offset bytes true ≡ next
          → ((end : ℕ) (q : Session) → IsMade q → AreMade (outcomes k n end (drop (end - offset) bytes) q))
          → AreMade (next_outcomes k s (λ end. outcomes k n end (drop (end - offset) bytes)) next)
      go (Stands f end symbols) e rest = let first = next_made s m offset bytes f end symbols e k in (first, rest end _ first)
      go Nothing e rest = tt
      go End e rest = tt
      go (Faulty c at) e rest = tt

-- ---- books that are answered twice

module _ (budget : ℕ) (k : Limits) where
  abbrev EndsMade : Played → Type 0
  EndsMade p = IsMade p.session

  module _ (s : Session) (lists : Lists) (form : Object ℕ) (before : IsMade s) (after : IsMade (command k s form).session) (go : Session → Lists → Played) (rest : (q : Session) (ls : Lists) → IsMade q → EndsMade (go q ls)) where
    on_made : (a : Option AbstractOutcome) → EndsMade (played_on budget k go (command k s form) lists a)
    on_made None = after
    on_made (Some a) = rest _ a.lists after

    unseen_made : (a : Option AbstractOutcome) → EndsMade (unseen budget k go (command k s form) lists a)
    unseen_made None = after
    unseen_made (Some a) = rest _ a.lists after

    if_made : (b : Bool) (x y : Played) → EndsMade x → EndsMade y → EndsMade (if b then x else y)
    if_made true x y h g = h
    if_made false x y h g = g

    command_played : EndsMade (books.commanded budget k go s lists form)
    command_played =
        if_made (is_excepted (command k s form).answer) _ _ before
        (if_made (prints_foundations s form) _ _ (unseen_made (abstract_command budget k s lists form)) (on_made (abstract_command budget k s lists form)))

  played_made : (n offset : ℕ) (bytes : Bytes) (s : Session) (lists : Lists) → IsMade s → EndsMade (played budget k n offset bytes s lists)
  unfolding played
  played_made zero offset bytes s lists m = m
  played_made (suc n) offset bytes s lists m =
      go (next_at s.environment.packages s.environment.current s.symbols offset bytes true) refl (λ end. played_made n end (drop (end - offset) bytes))
    where
      go : (next : Next) → next_at s.environment.packages s.environment.current s.symbols offset bytes true ≡ next
          → ((end : ℕ) (q : Session) (ls : Lists) → IsMade q → EndsMade (played budget k n end (drop (end - offset) bytes) q ls))
          → EndsMade (next_played budget k s lists (λ end. played budget k n end (drop (end - offset) bytes)) next)
      go (Stands f end symbols) e rest =
          command_played (knowing s symbols) lists (numbered symbols f) (reading_made s m offset bytes f end symbols e) (next_made s m offset bytes f end symbols e k) (λ q ls. played budget k n end (drop (end - offset) bytes) q ls) (rest end)
      go Nothing e rest = m
      go End e rest = m
      go (Faulty c at) e rest = m

  pub book_made : (bytes : Bytes) → IsMade (book_played budget k bytes).session
  unfolding book_played
  book_made bytes = played_made (length bytes + 1) 0 bytes opening_session [] opening_made

pub book_sessions_made : BookSessionsAreMade
book_sessions_made = record {
  opening = opening_made;
  next = λ k s m offset bytes f end symbols e. next_made s m offset bytes f end symbols e k;
  form = λ s m offset bytes f end symbols e. form_read s m offset bytes f end symbols e;
  book = λ k bytes. outcomes_made k (length bytes + 1) 0 bytes opening_session opening_made;
  played = λ budget k bytes. book_made budget k bytes;
}
