-- What a call of a primitive answers.
use Rattle.std.specs.Prelude.{◌≡◌, List, Result, Ok, Err}
use Rattle.model_symbols.specs.Symbols.{QualifiedName}
use Rattle.model_prims.specs.Applied.{Applied, Gives, Stops}
use Rattle.model_prims.specs.Applied as stop
use Rattle.acl_base.specs.declared.Word.{Word}
use Rattle.acl_heap.specs.Objects.{Objects, object_of, Lies}
use Rattle.acl_heap.specs.declared.HeapFault.{HeapFault}
use Rattle.acl_heap.specs.declared.HeapFault.TheVariants as fault
use Rattle.acl_numbers.specs.declared.stops.PrimStop.{PrimStop}
use Rattle.acl_numbers.specs.declared.stops.PrimStop.TheVariants as prim_stop

-- the call stops for this reason; memory may be refused to any call
abbrev pub IsStop : Applied → PrimStop → Type 0
IsStop a prim_stop.Guard = a ≡ Stops stop.Guard
IsStop a prim_stop.Range = a ≡ Stops stop.Range
IsStop a prim_stop.TooLarge = a ≡ Stops stop.Large
IsStop a prim_stop.SymbolLimit = a ≡ Stops stop.Symbols
IsStop a prim_stop.Memory = Unit {0}

-- the value is an object of the heap, and these symbols are known then
pub record IsGiven (h : Objects) (symbols : List QualifiedName) (a : Applied) (w : Word) : Type 0 where
  pub lies : Lies h w
  pub gives : a ≡ Gives (object_of h w) symbols

abbrev pub IsAnswer : Objects → List QualifiedName → Applied → Result Word PrimStop → Type 0
IsAnswer h symbols a (Ok w) = IsGiven h symbols a w
IsAnswer h symbols a (Err s) = IsStop a s

-- what becomes of a fault of the heap
abbrev pub stop_of : HeapFault → PrimStop
stop_of (fault.TooLarge n) = prim_stop.TooLarge
stop_of fault.Memory = prim_stop.Memory

abbrev pub answer_of : Result Word HeapFault → Result Word PrimStop
answer_of (Ok w) = Ok w
answer_of (Err f) = Err (stop_of f)
