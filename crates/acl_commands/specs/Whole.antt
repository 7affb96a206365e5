-- A command whose words lie in the heap, and whose symbols are known.
use Rattle.std.specs.Prelude.{◌<◌, List, length}
use Rattle.std.specs.List.{All}
use Rattle.model_symbols.specs.Symbols.{Table}
use Rattle.acl_heap.specs.Objects.{Objects, object_of, Lies, IsText}
use Rattle.acl_forms.specs.Forms.{IsWhole}
use Rattle.acl_commands.specs.declared.definitions.NewField.{NewField}
use Rattle.acl_commands.specs.declared.Actual.{Actual}
use Rattle.acl_commands.specs.declared.Actual.TheVariants as actual
use Rattle.acl_commands.specs.declared.Command.{Command}
use Rattle.acl_commands.specs.declared.Command.TheVariants as command

abbrev pub AreKnownFields : Table → List NewField → Type 0
AreKnownFields t fields = All (λ (f : NewField). f.name.0 < length t.symbols) fields

abbrev pub IsWholeActual : Table → Objects → Actual → Type 0
IsWholeActual t h (actual.Literal w) = IsWhole t h w
IsWholeActual t h (actual.Quoted w) = IsWhole t h w
IsWholeActual t h (actual.Variable s) = s.0 < length t.symbols
IsWholeActual t h actual.Nested = Unit {0}

abbrev pub AreWholeActuals : Table → Objects → List Actual → Type 0
AreWholeActuals t h actuals = All (IsWholeActual t h) actuals

abbrev pub IsWholeCommand : Table → Objects → Command → Type 0
IsWholeCommand t h (command.Define s fields) = (s.0 < length t.symbols) × AreKnownFields t fields.items
IsWholeCommand t h (command.Enter w) = Lies h w × IsText (object_of h w)
IsWholeCommand t h (command.Misshapen f) = f.0 < length t.symbols
IsWholeCommand t h (command.Call f actuals) = (f.0 < length t.symbols) × AreWholeActuals t h actuals.items
IsWholeCommand t h command.Other = Unit {0}
