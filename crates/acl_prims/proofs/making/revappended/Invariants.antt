use Rattle.std.specs.Prelude.{◌≡◌}
use Rattle.model_objects.specs.Object.{weight}
use Rattle.model_prims.specs.Lists.{revappended}
use Rattle.acl_heap.specs.Objects.{object_of, Lies, Extends}
use Rattle.acl_prims.proofs.making.revappended.Given as goal

abbrev pub invariant-loop-first : goal.invariant-loop-first
invariant-loop-first l = record {
  grows : Extends l.fn.heap l.heap;
  rest : Lies l.heap l.rest;
  done : Lies l.heap l.done;
  same : revappended (object_of l.heap l.rest) (object_of l.heap l.done) ≡ revappended (object_of l.fn.heap l.fn.list) (object_of l.fn.heap l.fn.end);
}

abbrev pub decreases-loop-first : goal.decreases-loop-first
decreases-loop-first l = weight (object_of l.heap l.rest)
