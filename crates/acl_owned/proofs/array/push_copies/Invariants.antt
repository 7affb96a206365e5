use Rattle.std.specs.Prelude.{◌≡◌, ◌++◌, replicate}
use Rattle.acl_heap.specs.Objects.{object_of}
use Rattle.acl_owned.proofs.array.push_copies.Given as goal

abbrev pub invariant-loop : goal.invariant-loop
invariant-loop l = l.elements.items ≡ l.fn.elements.items ++ replicate l.counter (object_of l.heap l.w)
