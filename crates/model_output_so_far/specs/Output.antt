-- What is written for an input, and how the run ends.
use Rattle.std.specs.Prelude.{ℕ, ◌+◌, ◌-◌, ◌==◌, nat_le, zero, suc, List, [], ◌∷◌, ◌++◌, length, drop, Bool, true, codes, if◌then◌else◌}
use Rattle.std.specs.Fmt.{decimal}
use Rattle.acl_base.specs.declared.status.Status.{Status}
use Rattle.acl_base.specs.declared.status.Status.TheVariants.{Done, Errors, Text}
use Rattle.model_text.specs.Next.{Next, Stands, Nothing, End, Faulty, next_at}
use Rattle.model_text.specs.declared.TextCause.{TextCause}
use Rattle.model_text.specs.declared.TextCause.TheVariants as cause
use Rattle.model_output_so_far.specs.Commands.{command_of}
use Rattle.model_output_so_far.specs.Sessions.{Session, first_session, knowing, Answered}
use Rattle.model_output_so_far.specs.Running.{run}

-- ---- totals

-- how many commands, calls and errors there were
pub record Totals : Type 0 where
  pub commands : ℕ
  pub calls : ℕ
  pub errors : ℕ

abbrev pub no_totals : Totals
no_totals = record { commands = 0; calls = 0; errors = 0 }

abbrev pub one_if : Bool → ℕ
one_if b = if b then 1 else 0

abbrev pub counted : Totals → Answered → Totals
counted t a = record { commands = t.commands + 1; calls = t.calls + a.calls; errors = t.errors + one_if a.is_error }

unfoldable pub summary_text : Totals → List ℕ
summary_text t = codes "; " ++ decimal t.commands ++ codes " commands, " ++ decimal t.calls ++ codes " calls, " ++ decimal t.errors ++ codes " errors"

-- ---- text faults

abbrev pub cause_name : TextCause → List ℕ
cause_name cause.StrayClose = codes "StrayClose"
cause_name cause.Unfinished = codes "Unfinished"
cause_name cause.BadToken = codes "BadToken"
cause_name cause.BadByte = codes "BadByte"
cause_name cause.IntegerTooWide = codes "IntegerTooWide"
cause_name cause.TooDeep = codes "TooDeep"
cause_name cause.FormTooLong = codes "FormTooLong"
cause_name cause.InputTooLong = codes "InputTooLong"
cause_name cause.BadDot = codes "BadDot"
cause_name cause.CommaOutside = codes "CommaOutside"
cause_name cause.UnknownPackage = codes "UnknownPackage"
cause_name cause.TooManySymbols = codes "TooManySymbols"
cause_name cause.TooLarge = codes "TooLarge"
cause_name cause.Memory = codes "Memory"

abbrev pub fault_text : List ℕ → ℕ → List ℕ
fault_text name at = codes "Text fault: " ++ (name ++ (codes " at " ++ decimal at))

-- ---- outputs

-- a line, with the byte that ends it
abbrev pub line : List ℕ → List ℕ
line text = text ++ 10 ∷ []

pub record Output : Type 0 where
  pub bytes : List ℕ
  pub status : Status

abbrev pub before : List ℕ → Output → Output
before bytes out = record out { bytes = bytes ++ out.bytes }

-- the input has ended
abbrev pub ended : Totals → Output
ended t = record { bytes = line (summary_text t); status = if t.errors == 0 then Done else Errors }

-- a text fault ends the run
abbrev pub faulty : Totals → List ℕ → ℕ → Output
faulty t name at = record { bytes = line (fault_text name at) ++ line (summary_text t); status = Text }

-- the line of a command's answer, and what comes behind it
abbrev pub answered : Totals → Answered → (Session → Totals → Output) → Output
answered t a rest = before (line a.line) (rest a.session (counted t a))

-- what is written where this stands first. A form is a command of the session in which its symbols are known
abbrev pub at_next : Session → Totals → Next → (Session → Totals → ℕ → Output) → Output
at_next s t (Stands f at symbols) rest = answered t (run (knowing s symbols) (command_of f)) (λ s' t'. rest s' t' at)
at_next s t Nothing rest = ended t
at_next s t End rest = ended t
at_next s t (Faulty c at) rest = faulty t (cause_name c) at

-- what is written for the bytes from an offset on, which hold at most so many forms
abbrev pub answers : ℕ → Session → Totals → ℕ → List ℕ → Output
answers zero s t offset bytes = ended t
answers (suc most) s t offset bytes =
    at_next s t (next_at s.table.packages s.current s.table.symbols offset bytes true)
    (λ s' t' at. answers most s' t' at (drop (at - offset) bytes))

-- how many bytes an input may have as yet
abbrev pub most_bytes : ℕ
most_bytes = 1048576

-- what is written for an input, and the status: its bytes hold fewer forms than they are, and one
unfoldable pub output : List ℕ → Output
output input =
    if nat_le (length input) most_bytes
    then answers (length input + 1) first_session no_totals 0 input
    else faulty no_totals (codes "NotYet") most_bytes
