-- The lines of a primitive's stops.
use Rattle.std.specs.Prelude.{ℕ, List, []}
use Rattle.model_symbols.specs.Symbols.{QualifiedName}
use Rattle.model_text.specs.Token.{Form}
use Rattle.model_prims.specs.Applied as stop
use Rattle.model_output_so_far.specs.Sessions.{Session}
use Rattle.model_output_so_far.specs.Calls.{stop_text}
use Rattle.acl_numbers.specs.declared.stops.PrimStop.{PrimStop}
use Rattle.acl_numbers.specs.declared.stops.PrimStop.TheVariants as prim_stop

-- the line of a stop; want of memory has none
abbrev pub stop_line : Session → QualifiedName → List Form → PrimStop → List ℕ
stop_line s f args prim_stop.Guard = stop_text s f args stop.Guard
stop_line s f args prim_stop.Range = stop_text s f args stop.Range
stop_line s f args prim_stop.TooLarge = stop_text s f args stop.Large
stop_line s f args prim_stop.SymbolLimit = stop_text s f args stop.Symbols
stop_line s f args prim_stop.Memory = []
