-- The commands of the definitions that the code's commands stand for, where heap and table are at hand.
use Rattle.std.specs.Prelude.{ℕ, List, [], map}
use Rattle.std.specs.Global.{Vec}
use Rattle.model_objects.specs.Object.{Object, Integer, Symbol, Text, Pair}
use Rattle.model_symbols.specs.Symbols.{Table, symbol_at}
use Rattle.model_output_so_far.specs.Commands as commands
use Rattle.acl_heap.specs.Objects.{Objects, object_of}
use Rattle.acl_forms.specs.Forms.{form_at}
use Rattle.acl_commands.specs.declared.definitions.NewField.{NewField}
use Rattle.acl_commands.specs.declared.Actual.{Actual}
use Rattle.acl_commands.specs.declared.Actual.TheVariants as actual
use Rattle.acl_commands.specs.declared.Command.{Command}
use Rattle.acl_commands.specs.declared.Command.TheVariants as command

abbrev pub field_view : Table → NewField → commands.NewField
field_view t f = record { name = symbol_at t.symbols f.name.0; initial = f.initial }

abbrev pub field_views : Table → List NewField → List commands.NewField
field_views t fields = map (field_view t) fields

abbrev pub field_list : Table → Vec NewField → List commands.NewField
field_list t fields = field_views t fields.items

abbrev pub actual_view : Table → Objects → Actual → commands.Actual
actual_view t h (actual.Literal w) = commands.Literal (form_at t h w)
actual_view t h (actual.Quoted w) = commands.Quoted (form_at t h w)
actual_view t h (actual.Variable s) = commands.Variable (symbol_at t.symbols s.0)
actual_view t h actual.Nested = commands.Nested

abbrev pub actual_views : Table → Objects → List Actual → List commands.Actual
actual_views t h actuals = map (actual_view t h) actuals

-- the bytes of a string
abbrev pub bytes_in : Object ℕ → List ℕ
bytes_in (Integer n) = []
bytes_in (Symbol s) = []
bytes_in (Text bytes) = bytes
bytes_in (Pair a d) = []

abbrev pub command_view : Table → Objects → Command → commands.Command
command_view t h (command.Define s fields) = commands.Define (symbol_at t.symbols s.0) (field_views t fields.items)
command_view t h (command.Enter w) = commands.Enter (bytes_in (object_of h w))
command_view t h (command.Misshapen f) = commands.Misshapen (symbol_at t.symbols f.0)
command_view t h (command.Call f actuals) = commands.Call (symbol_at t.symbols f.0) (actual_views t h actuals.items)
command_view t h command.Other = commands.Other
