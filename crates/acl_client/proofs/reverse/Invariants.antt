use Rattle.std.specs.Prelude.{◌≡◌}
use Rattle.model_objects.specs.Object.{weight}
use Rattle.acl_heap.specs.Objects.{object_of, Lies, Extends}
use Rattle.acl_client.specs.Lists.{nil, reversed_onto}
use Rattle.acl_client.proofs.reverse.Given as goal

abbrev pub invariant-loop-first : goal.invariant-loop-first
invariant-loop-first l = record {
  grows : Extends l.fn.heap l.heap;
  rest : Lies l.heap l.rest;
  done : Lies l.heap l.done;
  same : reversed_onto (object_of l.heap l.rest) (object_of l.heap l.done) ≡ reversed_onto (object_of l.fn.heap l.fn.list) nil;
}

abbrev pub decreases-loop-first : goal.decreases-loop-first
decreases-loop-first l = weight (object_of l.heap l.rest)
