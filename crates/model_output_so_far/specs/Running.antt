-- What a command gives in a session.
use Rattle.std.specs.Prelude.{ℕ, List, Option, Some, None}
use Rattle.model_symbols.specs.Symbols.{QualifiedName}
use Rattle.model_output_so_far.specs.Commands.{Command, Define, Enter, Misshapen, Call, Other, Actual}
use Rattle.model_output_so_far.specs.Sessions.{Stobj, Session, Answered}
use Rattle.model_output_so_far.specs.Lines.{refused, NotYet, BadShape}
use Rattle.model_output_so_far.specs.Objects.{read_field, updated_field, read_call, update_call}
use Rattle.model_output_so_far.specs.Calls.{primitive_call}
use Rattle.model_output_so_far.specs.Events.{define, enter}

-- a call of a function that reads a field, of one that updates a field, or of another
abbrev pub field_call : Session → Stobj → QualifiedName → List Actual → Option ℕ → Option ℕ → Answered
field_call s o f actuals (Some k) updated = read_call s o k actuals
field_call s o f actuals None (Some k) = update_call s o f k actuals
field_call s o f actuals None None = primitive_call s f actuals

abbrev pub object_call : Session → Option Stobj → QualifiedName → List Actual → Answered
object_call s None f actuals = primitive_call s f actuals
object_call s (Some o) f actuals = field_call s o f actuals (read_field o f) (updated_field o f)

unfoldable pub run : Session → Command → Answered
run s (Define name fields) = define s s.object name fields
run s (Enter name) = enter s name
run s (Misshapen head) = refused s (BadShape head)
run s (Call f actuals) = object_call s s.object f actuals
run s Other = refused s NotYet
