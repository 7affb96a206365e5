use Rattle.acl_heap.specs.Objects.{Extends}
use Rattle.acl_opening.specs.Opened.{Listed}
use Rattle.acl_opening.proofs.symbols.symbols_before.Given as goal

abbrev pub invariant-loop-done : goal.invariant-loop-done
invariant-loop-done l = record { grows : Extends l.fn.heap l.heap; listed : Listed l.heap l.rest l.end l.done }
