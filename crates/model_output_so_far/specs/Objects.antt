-- Calls of the functions of the live object.
use Rattle.std.specs.Prelude.{ℕ, ℤ, pos, Bool, List, [], ◌∷◌, Option, Some, position, slice_set, slice_get, unwrap_or, false, if◌then◌else◌}
use Rattle.model_objects.specs.Object.{Integer, Symbol, Text, Pair}
use Rattle.model_symbols.specs.Symbols.{QualifiedName, same_name}
use Rattle.model_text.specs.Token.{Form}
use Rattle.model_output_so_far.specs.Commands.{Actual, Literal, Quoted, Variable, Nested}
use Rattle.model_output_so_far.specs.Sessions.{Field, Stobj, Session, Answered}
use Rattle.model_output_so_far.specs.Lines.{printed, printed_symbol, shown_name, refused, NotYet, stopped, violation_text}

-- the number of the field that this function reads, and of the one that it updates
abbrev pub read_field : Stobj → QualifiedName → Option ℕ
read_field o f = position (λ (field : Field). same_name f field.name) o.fields

abbrev pub updated_field : Stobj → QualifiedName → Option ℕ
updated_field o f = position (λ (field : Field). same_name f field.updater) o.fields

abbrev pub value_at : Stobj → ℕ → ℤ
value_at o k = unwrap_or (slice_get o.values k) (pos 0)

abbrev pub with_value : Stobj → ℕ → ℤ → Stobj
with_value o k n = record o { values = slice_set o.values k n }

-- the value of a field
abbrev pub was_read : Session → Stobj → ℕ → Answered
was_read s o k = record { session = s; line = printed s (Integer (value_at o k)); calls = 1; is_error = false }

-- an updater called with an integer
abbrev pub was_updated : Session → Stobj → ℕ → ℤ → Answered
was_updated s o k n = record {
  session = record s { object = Some (with_value o k n) };
  line = shown_name o.name.name;
  calls = 1;
  is_error = false;
}

-- an updater called with a symbol: its guard wants an integer
abbrev pub violated : Session → Stobj → QualifiedName → QualifiedName → Answered
violated s o f t = stopped s (violation_text (printed_symbol s f) (printed_symbol s t ∷ shown_name o.name.name ∷ []))

abbrev pub with_literal : Session → Stobj → ℕ → Form → Answered
with_literal s o k (Integer n) = was_updated s o k n
with_literal s o k (Symbol t) = refused s NotYet
with_literal s o k (Text bytes) = refused s NotYet
with_literal s o k (Pair a d) = refused s NotYet

abbrev pub with_quoted : Session → Stobj → QualifiedName → Form → Answered
with_quoted s o f (Integer n) = refused s NotYet
with_quoted s o f (Symbol t) = violated s o f t
with_quoted s o f (Text bytes) = refused s NotYet
with_quoted s o f (Pair a d) = refused s NotYet

abbrev pub with_actual : Session → Stobj → QualifiedName → ℕ → Actual → Answered
with_actual s o f k (Literal v) = with_literal s o k v
with_actual s o f k (Quoted v) = with_quoted s o f v
with_actual s o f k (Variable t) = refused s NotYet
with_actual s o f k Nested = refused s NotYet

-- this is the object
abbrev pub is_object : Stobj → Actual → Bool
is_object o (Literal v) = false
is_object o (Quoted v) = false
is_object o (Variable t) = same_name t o.name
is_object o Nested = false

abbrev pub read_call : Session → Stobj → ℕ → List Actual → Answered
read_call s o k [] = refused s NotYet
read_call s o k (object ∷ []) = if is_object o object then was_read s o k else refused s NotYet
read_call s o k (object ∷ more ∷ rest) = refused s NotYet

abbrev pub update_call : Session → Stobj → QualifiedName → ℕ → List Actual → Answered
update_call s o f k [] = refused s NotYet
update_call s o f k (v ∷ []) = refused s NotYet
update_call s o f k (v ∷ object ∷ []) = if is_object o object then with_actual s o f k v else refused s NotYet
update_call s o f k (v ∷ object ∷ more ∷ rest) = refused s NotYet
