-- A book, each command answered twice: by checked evaluation, and by abstract evaluation on lists of its own.
use Rattle.std.specs.Prelude.{◌≡◌, ℕ, zero, suc, ◌+◌, ◌-◌, List, [], ◌∷◌, map, length, drop, nat_eq, Bool, true, false, Option, Some, None, option_map, if◌then◌else◌}
use Rattle.model_objects.specs.Object.{Object}
use Rattle.model_symbols.specs.Symbols.{QualifiedName}
use Rattle.model_text.specs.Next.{Next, Stands, Nothing, End, Faulty, next_at}
use Rattle.model_lists.specs.Lists.{StobjList}
use Rattle.model_eval.specs.Outcomes.{Stobjs}
use Rattle.model_events.specs.Events.{Limits}
use Rattle.model_books.specs.Opening.{Session, opening_session}
use Rattle.model_books.specs.Commands.{Answer, Answered, command}
use Rattle.model_books.specs.Lines.{Bytes}
use Rattle.model_books.specs.Output.{numbered}
use Rattle.model_abstract.specs.Corresponding.{named_list}
use Rattle.model_abstract_books.specs.Answers.{answer_named, is_excepted}
use Rattle.model_abstract_books.specs.Foundations.{prints_foundations}
use Rattle.model_abstract_books.specs.Commands.{Lists, AbstractOutcome, abstract_command}

-- an answer, and its calls: of checked evaluation those that no export made
pub record Told : Type 0 where
  pub answer : Answer QualifiedName
  pub calls : ℕ

abbrev pub told : Answered → Told
told o = record { answer = answer_named o.session.symbols o.answer; calls = o.outer }

abbrev pub told_abstractly : AbstractOutcome → Told
told_abstractly o = record { answer = o.answer; calls = o.calls }

-- ---- books

-- both answers to each command that is compared, and where the book ends
pub record Played : Type 0 where
  pub answers : List (Told × Option Told)
  pub session : Session
  pub lists : Lists

abbrev pub before : Told × Option Told → Played → Played
before both p = record p { answers = both ∷ p.answers }

module _ (budget : ℕ) (k : Limits) where
  abbrev pub at_end : Session → Lists → Played
  at_end s lists = record { answers = []; session = s; lists = lists }

  -- the answers go on where abstract evaluation has one
  abbrev pub played_on : (Session → Lists → Played) → Answered → Lists → Option AbstractOutcome → Played
  played_on go o lists None = before (told o, None) (at_end o.session lists)
  played_on go o lists (Some a) = before (told o, Some (told_abstractly a)) (go o.session a.lists)

  -- up to, and without, the first command that is excepted
  abbrev pub unless_excepted : Session → Lists → Answered → Played → Played
  unless_excepted s lists o others = if is_excepted o.answer then at_end s lists else others

  -- a command that prints foundations: its answers are not compared
  abbrev pub unseen : (Session → Lists → Played) → Answered → Lists → Option AbstractOutcome → Played
  unseen go o lists None = at_end o.session lists
  unseen go o lists (Some a) = go o.session a.lists

  abbrev pub commanded : (Session → Lists → Played) → Session → Lists → Object ℕ → Played
  commanded go s lists form =
      let o = command k s form in
      let a = abstract_command budget k s lists form in
      unless_excepted s lists o (if prints_foundations s form then unseen go o lists a else played_on go o lists a)

  abbrev pub next_played : Session → Lists → (ℕ → Session → Lists → Played) → Next → Played
  next_played s lists go (Stands f end symbols) = commanded (go end) (record s { symbols = symbols }) lists (numbered symbols f)
  next_played s lists go Nothing = at_end s lists
  next_played s lists go End = at_end s lists
  next_played s lists go (Faulty c offset) = at_end s lists

  -- the commands in the bytes that begin at an offset of the input, no more commands than this
  unfoldable pub played : ℕ → ℕ → Bytes → Session → Lists → Played
  played zero offset bytes s lists = at_end s lists
  played (suc n) offset bytes s lists =
      next_played s lists (λ end. played n end (drop (end - offset) bytes)) (next_at s.environment.packages s.environment.current s.symbols offset bytes true)

  unfoldable pub book_played : Bytes → Played
  book_played bytes = played (length bytes + 1) 0 bytes opening_session []

abbrev pub checked_answers : Played → List (Option Told)
checked_answers p = map (λ (a : Told × Option Told). Some a.0) p.answers

abbrev pub abstract_answers : Played → List (Option Told)
abstract_answers p = map (λ (a : Told × Option Told). a.1) p.answers

-- the list of each stobj at the end of the book, symbols by name: in checked evaluation, and in abstract evaluation
abbrev pub Ends : Type 0
Ends = List (StobjList QualifiedName × StobjList QualifiedName)

abbrev pub ends_of : List QualifiedName → Stobjs ℕ → Lists → Ends
ends_of symbols [] lists = []
ends_of symbols (o ∷ os) [] = []
ends_of symbols (o ∷ os) (l ∷ ls) = (named_list symbols o.1, l.1) ∷ ends_of symbols os ls

-- so many commands are compared and answered alike, with as many calls, and the book ends with these lists
pub record FollowsTheLogic (p : Played) (commands : ℕ) (ends : Ends) : Type 0 where
  pub count : length p.answers ≡ commands
  pub answers : checked_answers p ≡ abstract_answers p
  pub lists : ends_of p.session.symbols p.session.stobjs p.lists ≡ ends
