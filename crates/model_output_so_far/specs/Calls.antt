-- Calls of primitives on constants.
use Rattle.std.specs.Prelude.{ℕ, ◌==◌, List, [], ◌∷◌, ◌++◌, length, map, codes, Option, Some, None, unwrap_or, false, if◌then◌else◌}
use Rattle.std.specs.Option.{option_map, option_and_then}
use Rattle.model_objects.specs.Object.{Object, named}
use Rattle.model_symbols.specs.Symbols.{QualifiedName, number_of, form_of}
use Rattle.model_text.specs.Token.{Form}
use Rattle.model_prims.specs.Rows.{prim_of, arity_of, row_called}
use Rattle.model_prims.specs.Applied.{Applied, Gives, Stops, Stop, Guard, Range, Large, Symbols, applied}
use Rattle.model_output_so_far.specs.Commands.{Actual, Literal, Quoted, Variable, Nested}
use Rattle.model_output_so_far.specs.Sessions.{Session, knowing, Answered}
use Rattle.model_output_so_far.specs.Lines.{printed, printed_symbol, refused, NotYet, stopped, violation_text}

-- the value of an actual that is a constant
abbrev pub constant : Actual → Option Form
constant (Literal f) = Some f
constant (Quoted f) = Some f
constant (Variable s) = None
constant Nested = None

abbrev pub with_constant : Option (List Form) → Form → Option (List Form)
with_constant fs f = option_map (λ (rest : List Form). f ∷ rest) fs

-- the values of actuals that all are constants
abbrev pub constants : List Actual → Option (List Form)
constants [] = Some []
constants (a ∷ actuals) = option_and_then (with_constant (constants actuals)) (constant a)

-- a form with its symbols by number
abbrev pub numbered : List QualifiedName → Form → Object ℕ
numbered symbols f = named (λ (s : QualifiedName). unwrap_or (number_of symbols s) 0) f

-- the line of a stop, by its cause
abbrev pub stop_text : Session → QualifiedName → List Form → Stop → List ℕ
stop_text s f args Guard = violation_text (printed_symbol s f) (map (printed s) args)
stop_text s f args Range = codes "Out of range: " ++ printed_symbol s f
stop_text s f args Large = codes "Too large: " ++ printed_symbol s f
stop_text s f args Symbols = codes "Symbol limit: " ++ printed_symbol s f

abbrev pub given : Session → QualifiedName → List Form → Applied → Answered
given s f args (Gives o symbols) = record {
  session = knowing s symbols;
  line = printed s (form_of symbols o);
  calls = 1;
  is_error = false;
}
given s f args (Stops stop) = stopped s (stop_text s f args stop)

-- the primitive of a row called with these values
abbrev pub applied_row : Session → QualifiedName → ℕ → List Form → Answered
applied_row s f row args =
    given s f args (applied s.table (prim_of row) (map (numbered s.table.symbols) args))

abbrev pub on_constants : Session → QualifiedName → ℕ → Option (List Form) → Answered
on_constants s f row None = refused s NotYet
on_constants s f row (Some args) = if length args == arity_of row then applied_row s f row args else refused s NotYet

abbrev pub row_call : Session → QualifiedName → List Actual → Option ℕ → Answered
row_call s f actuals None = refused s NotYet
row_call s f actuals (Some row) = on_constants s f row (constants actuals)

abbrev pub primitive_call : Session → QualifiedName → List Actual → Answered
primitive_call s f actuals = row_call s f actuals (row_called f)
