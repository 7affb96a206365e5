-- Answers with their symbols by name; and which answers abstract evaluation need not give.
use Rattle.std.specs.Prelude.{ℕ, List, map, Bool, true, false, Option, Some, None}
use Rattle.model_symbols.specs.Symbols.{QualifiedName, form_of}
use Rattle.model_eval.specs.Outcomes.{Shown, Plain, StobjNamed, Stop, Guard, Steps, Depth, Range, Large, Symbols}
use Rattle.model_expansion.specs.Faults.{ExpandFault, MacroArgs, BadShape, MacroStopped, UnknownFunction, Arity, TooNested, Refusal, NameInUse, BadName, DuplicateFormal, BadDeclare, BadType, BadInitial, CongruenceMismatch, UnknownPackage, PackageExists, ImportClash, SymbolLimit, NotSupported, Thread, Expand, FoundationNotConcrete, MissingFunction, SignatureMismatch, GuardNotExecutable, TooLarge}
use Rattle.model_books.specs.Commands.{Answer, Event, Skipped, Values, Show, Cells, Refused, Stopped}

module _ (symbols : List QualifiedName) where
  abbrev pub shown_named : Shown ℕ → Shown QualifiedName
  shown_named (Plain o) = Plain (form_of symbols o)
  shown_named (StobjNamed x) = StobjNamed x

  abbrev pub stop_named : Stop ℕ → Stop QualifiedName
  stop_named (Guard f args) = Guard f (map shown_named args)
  stop_named Steps = Steps
  stop_named Depth = Depth
  stop_named (Range f) = Range f
  stop_named (Large f) = Large f
  stop_named (Symbols f) = Symbols f

  unfoldable pub answer_named : Answer ℕ → Answer QualifiedName
  answer_named (Event said) = Event said
  answer_named Skipped = Skipped
  answer_named (Values values) = Values (map shown_named values)
  answer_named (Show o) = Show (form_of symbols o)
  answer_named (Cells n) = Cells n
  answer_named (Refused r) = Refused r
  answer_named (Stopped stop inside) = Stopped (stop_named stop) inside

-- ---- the answers that are excepted: a stop at a limit, or inside an export, in expansion too

abbrev pub is_limit : Stop ℕ → Bool
is_limit (Guard f args) = false
is_limit Steps = true
is_limit Depth = true
is_limit (Range f) = false
is_limit (Large f) = false
is_limit (Symbols f) = true

abbrev pub is_excepted_stop : Stop ℕ → Option ℕ → Bool
is_excepted_stop stop None = is_limit stop
is_excepted_stop stop (Some export) = true

abbrev pub is_excepted_fault : ExpandFault → Bool
is_excepted_fault (MacroArgs f) = false
is_excepted_fault (BadShape f) = false
is_excepted_fault (MacroStopped stop inside) = is_excepted_stop stop inside
is_excepted_fault (UnknownFunction f) = false
is_excepted_fault (Arity f) = false
is_excepted_fault TooNested = false

abbrev pub is_excepted_refusal : Refusal → Bool
is_excepted_refusal (NameInUse x) = false
is_excepted_refusal (BadName o) = false
is_excepted_refusal (DuplicateFormal x) = false
is_excepted_refusal (BadDeclare x) = false
is_excepted_refusal (BadType x) = false
is_excepted_refusal (BadInitial x) = false
is_excepted_refusal (CongruenceMismatch n) = false
is_excepted_refusal (UnknownPackage o) = false
is_excepted_refusal (PackageExists o) = false
is_excepted_refusal (ImportClash x y) = false
is_excepted_refusal SymbolLimit = true
is_excepted_refusal (NotSupported x) = false
is_excepted_refusal (Thread f) = false
is_excepted_refusal (Expand f) = is_excepted_fault f
is_excepted_refusal (FoundationNotConcrete x) = false
is_excepted_refusal (MissingFunction x) = false
is_excepted_refusal (SignatureMismatch x) = false
is_excepted_refusal (GuardNotExecutable x f) = false
is_excepted_refusal (TooLarge x) = false

unfoldable pub is_excepted : Answer ℕ → Bool
is_excepted (Event said) = false
is_excepted Skipped = false
is_excepted (Values values) = false
is_excepted (Show o) = false
is_excepted (Cells n) = false
is_excepted (Refused r) = is_excepted_refusal r
is_excepted (Stopped stop inside) = is_excepted_stop stop inside
