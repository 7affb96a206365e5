-- What is written for the program's words and an input, and the status.
use Rattle.std.specs.Prelude.{ℕ, zero, suc, ◌+◌, ◌-◌, ◌==◌, List, [], ◌∷◌, ◌++◌, length, drop, Bool, true, Option, Some, None, codes, unwrap_or, if◌then◌else◌}
use Rattle.std.specs.Fmt.{decimal}
use Rattle.acl_base.specs.declared.status.Status.{Status}
use Rattle.acl_base.specs.declared.status.Status.TheVariants.{Done, Errors, Words, Text}
use Rattle.model_objects.specs.Object.{Object, named}
use Rattle.model_symbols.specs.Symbols.{QualifiedName, number_of}
use Rattle.model_text.specs.declared.TextCause.{TextCause}
use Rattle.model_text.specs.declared.TextCause.TheVariants.{StrayClose, BadDot, CommaOutside, BadToken, BadByte, IntegerTooWide, TooDeep, UnknownPackage, TooManySymbols, FormTooLong, TooLarge, Unfinished, InputTooLong, Memory}
use Rattle.model_text.specs.Next.{Next, Stands, Nothing, End, Faulty, next_at}
use Rattle.model_events.specs.Events.{Limits}
use Rattle.model_books.specs.Opening.{Session, opening_session}
use Rattle.model_books.specs.Commands.{Answered, command}
use Rattle.model_books.specs.Lines.{Bytes, answer_lines, is_error}
use Rattle.model_books.specs.ProgramWords.{Given, given, limits}
use Rattle.model_books.specs.GeneratedBook.{generated_book}

-- how many commands, calls and errors there were
pub record Totals : Type 0 where
  pub commands : ℕ
  pub calls : ℕ
  pub errors : ℕ

abbrev pub no_totals : Totals
no_totals = record { commands = 0; calls = 0; errors = 0 }

abbrev pub one_if : Bool → ℕ
one_if b = if b then 1 else 0

abbrev pub counted : Totals → Answered → Totals
counted t o = record { commands = t.commands + 1; calls = t.calls + o.calls; errors = t.errors + one_if (is_error o.answer) }

-- lines, each with the byte that ends it
abbrev pub lines : List Bytes → Bytes
lines [] = []
lines (l ∷ ls) = l ++ 10 ∷ lines ls

unfoldable pub summary_text : Totals → Bytes
summary_text t =
    codes "; " ++ (decimal t.commands ++ (codes " commands, " ++ (decimal t.calls ++ (codes " calls, " ++ (decimal t.errors ++ codes " errors")))))

abbrev pub cause_text : TextCause → Bytes
cause_text StrayClose = codes "StrayClose"
cause_text BadDot = codes "BadDot"
cause_text CommaOutside = codes "CommaOutside"
cause_text BadToken = codes "BadToken"
cause_text BadByte = codes "BadByte"
cause_text IntegerTooWide = codes "IntegerTooWide"
cause_text TooDeep = codes "TooDeep"
cause_text UnknownPackage = codes "UnknownPackage"
cause_text TooManySymbols = codes "TooManySymbols"
cause_text FormTooLong = codes "FormTooLong"
cause_text TooLarge = codes "TooLarge"
cause_text Unfinished = codes "Unfinished"
cause_text InputTooLong = codes "InputTooLong"
cause_text Memory = codes "Memory"

abbrev pub text_fault : TextCause → ℕ → Bytes
text_fault c offset = codes "Text fault: " ++ (cause_text c ++ (codes " at " ++ decimal offset))

pub record Output : Type 0 where
  pub bytes : Bytes
  pub status : Status

abbrev pub before : Bytes → Output → Output
before bytes out = record out { bytes = bytes ++ out.bytes }

abbrev pub ended : Totals → Output
ended t = record { bytes = lines (summary_text t ∷ []); status = if t.errors == 0 then Done else Errors }

abbrev pub faulted : Totals → TextCause → ℕ → Output
faulted t c offset = record { bytes = lines (text_fault c offset ∷ summary_text t ∷ []); status = Text }

-- a form that was read, with its symbols by number
abbrev pub numbered : List QualifiedName → Object QualifiedName → Object ℕ
numbered symbols f = named (λ s. unwrap_or (number_of symbols s) 0) f

-- what follows the command that stands first
abbrev pub answered : Totals → (Session → Totals → Output) → Answered → Output
answered t go o = before (lines (answer_lines o.session o.answer)) (go o.session (counted t o))

abbrev pub next_answered : Limits → Session → Totals → (ℕ → Session → Totals → Output) → Next → Output
next_answered bounds s t go (Stands f end symbols) = answered t (go end) (command bounds (record s { symbols = symbols }) (numbered symbols f))
next_answered bounds s t go Nothing = ended t
next_answered bounds s t go End = ended t
next_answered bounds s t go (Faulty c offset) = faulted t c offset

-- the answers to the commands in the bytes that begin at an offset of the input, no more commands than this; each has a byte
unfoldable pub answers : Limits → ℕ → ℕ → Bytes → Session → Totals → Output
answers bounds zero offset bytes s t = ended t
answers bounds (suc n) offset bytes s t =
    next_answered bounds s t (λ end. answers bounds n end (drop (end - offset) bytes))
    (next_at s.environment.packages s.environment.current s.symbols offset bytes true)

abbrev pub book_output : Limits → Bytes → Output
book_output bounds bytes = answers bounds (length bytes + 1) 0 bytes opening_session no_totals

abbrev pub given_output : Option Given → Bytes → Output
given_output None input = record { bytes = []; status = Words }
given_output (Some g) input = book_output (limits g) (book g.generate) where
  book : Option ℕ → Bytes
  book None = input
  book (Some n) = generated_book n

-- what is written for words and an input, and the status
unfoldable pub output : List Bytes → Bytes → Output
output words input = given_output (given words) input
