-- The lines of an answer.
use Rattle.std.specs.Prelude.{ℕ, List, [], ◌∷◌, ◌++◌, map, Bool, true, false, Option, Some, None, codes}
use Rattle.std.specs.Char.{to_ascii_lowercase}
use Rattle.std.specs.Fmt.{decimal}
use Rattle.model_objects.specs.Object.{Object, Symbol, Text}
use Rattle.model_text.specs.Text.{text_of}
use Rattle.model_terms.specs.declared.rule.Rule.{Rule}
use Rattle.model_terms.specs.declared.rule.Rule.TheVariants.{S1, S2, S3, S4, S5, S6, S7, S8, S9, S10, S11, S12, S13, S14, S15, S16}
use Rattle.model_terms.specs.Faults.{Fault}
use Rattle.model_eval.specs.Outcomes.{Shown, Plain, StobjNamed, Stop, Guard, Steps, Depth, Range, Large, Symbols}
use Rattle.model_expansion.specs.Forms.{list, symbol_name}
use Rattle.model_expansion.specs.Faults.{ExpandFault, MacroArgs, BadShape, MacroStopped, UnknownFunction, Arity, TooNested, Refusal, NameInUse, BadName, DuplicateFormal, BadDeclare, BadType, BadInitial, CongruenceMismatch, UnknownPackage, PackageExists, ImportClash, SymbolLimit, NotSupported, Thread, Expand, FoundationNotConcrete, MissingFunction, SignatureMismatch, GuardNotExecutable, TooLarge}
use Rattle.model_stobjs.specs.Obligations.{Obligation, obligation_form}
use Rattle.model_events.specs.Events.{Said, Name, Names, PackageName, Obliged}
use Rattle.model_books.specs.Opening.{Session}
use Rattle.model_books.specs.Commands.{Answer, Event, Skipped, Values, Show, Cells, Refused, Stopped}

abbrev pub Bytes : Type 0
Bytes = List ℕ

-- texts with one blank between
abbrev pub spaced : List Bytes → Bytes
spaced [] = []
spaced (t ∷ []) = t
spaced (t ∷ (u ∷ ts)) = t ++ 32 ∷ spaced (u ∷ ts)

abbrev pub bracketed : List Bytes → Bytes
bracketed ts = codes "(" ++ (spaced ts ++ codes ")")

-- ---- rules and places

abbrev pub rule_text : Rule → Bytes
rule_text S1 = codes "S1"
rule_text S2 = codes "S2"
rule_text S3 = codes "S3"
rule_text S4 = codes "S4"
rule_text S5 = codes "S5"
rule_text S6 = codes "S6"
rule_text S7 = codes "S7"
rule_text S8 = codes "S8"
rule_text S9 = codes "S9"
rule_text S10 = codes "S10"
rule_text S11 = codes "S11"
rule_text S12 = codes "S12"
rule_text S13 = codes "S13"
rule_text S14 = codes "S14"
rule_text S15 = codes "S15"
rule_text S16 = codes "S16"

abbrev pub fault_text : Fault → Bytes
fault_text f = rule_text f.rule ++ (codes " at " ++ bracketed (map decimal f.place))

module _ (s : Session) where
  -- the text of an object, in the current package
  abbrev pub printed : Object ℕ → Bytes
  printed o = text_of s.environment.packages s.environment.current s.symbols o

  abbrev pub printed_name : ℕ → Bytes
  printed_name x = printed (Symbol x)

  -- the name of a stobj in lower case in angle brackets
  abbrev pub stobj_text : ℕ → Bytes
  stobj_text x = codes "<" ++ (map to_ascii_lowercase (symbol_name s.symbols x) ++ codes ">")

  abbrev pub shown_text : Shown ℕ → Bytes
  shown_text (Plain o) = printed o
  shown_text (StobjNamed x) = stobj_text x

  abbrev pub values_text : List (Shown ℕ) → Bytes
  values_text [] = bracketed []
  values_text (v ∷ []) = shown_text v
  values_text (v ∷ (u ∷ vs)) = bracketed (map shown_text (v ∷ (u ∷ vs)))

  -- ---- stops

  abbrev pub stop_name : Stop ℕ → Bytes
  stop_name (Guard f args) = codes "Guard violation: " ++ bracketed (printed_name f ∷ map shown_text args)
  stop_name Steps = codes "Step limit"
  stop_name Depth = codes "Nesting limit"
  stop_name (Range f) = codes "Out of range: " ++ printed_name f
  stop_name (Large f) = codes "Too large: " ++ printed_name f
  stop_name (Symbols f) = codes "Symbol limit: " ++ printed_name f

  -- the export that the stop is inside
  abbrev pub inside_text : Option ℕ → Bytes
  inside_text None = []
  inside_text (Some x) = codes " inside " ++ printed_name x

  abbrev pub stop_text : Stop ℕ → Option ℕ → Bytes
  stop_text stop inside = stop_name stop ++ inside_text inside

  -- ---- refusals

  abbrev pub expand_text : ExpandFault → Bytes
  expand_text (MacroArgs f) = codes "MacroArgs " ++ printed_name f
  expand_text (BadShape f) = codes "BadShape " ++ printed_name f
  expand_text (MacroStopped stop inside) = codes "MacroStopped: " ++ stop_text stop inside
  expand_text (UnknownFunction f) = codes "UnknownFunction " ++ printed_name f
  expand_text (Arity f) = codes "Arity " ++ printed_name f
  expand_text TooNested = codes "TooNested"

  abbrev pub refusal_text : Refusal → Bytes
  refusal_text (NameInUse x) = codes "NameInUse " ++ printed_name x
  refusal_text (BadName o) = codes "BadName " ++ printed o
  refusal_text (DuplicateFormal x) = codes "DuplicateFormal " ++ printed_name x
  refusal_text (BadDeclare x) = codes "BadDeclare " ++ printed_name x
  refusal_text (BadType x) = codes "BadType " ++ printed_name x
  refusal_text (BadInitial x) = codes "BadInitial " ++ printed_name x
  refusal_text (CongruenceMismatch n) = codes "CongruenceMismatch " ++ decimal n
  refusal_text (UnknownPackage o) = codes "UnknownPackage " ++ printed o
  refusal_text (PackageExists o) = codes "PackageExists " ++ printed o
  refusal_text (ImportClash x y) = codes "ImportClash " ++ (printed_name x ++ (codes " " ++ printed_name y))
  refusal_text SymbolLimit = codes "SymbolLimit"
  refusal_text (NotSupported x) = codes "NotSupported " ++ printed_name x
  refusal_text (Thread f) = fault_text f
  refusal_text (Expand f) = expand_text f
  refusal_text (FoundationNotConcrete x) = codes "FoundationNotConcrete " ++ printed_name x
  refusal_text (MissingFunction x) = codes "MissingFunction " ++ printed_name x
  refusal_text (SignatureMismatch x) = codes "SignatureMismatch " ++ printed_name x
  refusal_text (GuardNotExecutable x f) = codes "GuardNotExecutable " ++ (printed_name x ++ (codes " " ++ fault_text f))
  refusal_text (TooLarge x) = codes "TooLarge " ++ printed_name x

  -- ---- events

  abbrev pub obligation_text : Obligation → Bytes
  obligation_text o = o.name ++ (codes ": " ++ printed (obligation_form o))

  abbrev pub said_lines : Said → List Bytes
  said_lines (Name x) = printed_name x ∷ []
  said_lines (Names xs) = printed (list (map (λ x. Symbol x) xs)) ∷ []
  said_lines (PackageName name) = printed (Text name) ∷ []
  said_lines (Obliged x os) = printed_name x ∷ map obligation_text os

  -- the lines of an answer, in the session after the command
  unfoldable pub answer_lines : Answer ℕ → List Bytes
  answer_lines (Event said) = said_lines said
  answer_lines Skipped = codes "Skipped" ∷ []
  answer_lines (Values values) = values_text values ∷ []
  answer_lines (Show o) = printed o ∷ []
  answer_lines (Cells n) = decimal n ∷ []
  answer_lines (Refused r) = (codes "Refused: " ++ refusal_text r) ∷ []
  answer_lines (Stopped stop inside) = stop_text stop inside ∷ []

-- a command that was refused or stopped
abbrev pub is_error : {S : Type 0} → Answer S → Bool
is_error (Event said) = false
is_error Skipped = false
is_error (Values values) = false
is_error (Show o) = false
is_error (Cells n) = false
is_error (Refused r) = true
is_error (Stopped stop inside) = true
