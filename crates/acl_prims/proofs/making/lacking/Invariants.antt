use Rattle.std.specs.Prelude.{◌≡◌, ◌++◌}
use Rattle.model_objects.specs.Object.{weight}
use Rattle.acl_heap.specs.Objects.{object_of, Lies}
use Rattle.acl_prims.specs.Made.{AllLie, objects_of, lacking}
use Rattle.acl_prims.proofs.making.lacking.Given as goal

abbrev pub invariant-loop-first : goal.invariant-loop-first
invariant-loop-first l = record {
  rest : Lies l.heap l.rest;
  front : AllLie l.heap l.front.items;
  same : objects_of l.heap l.front.items ++ lacking (object_of l.heap l.rest) (object_of l.heap l.fn.other) ≡ lacking (object_of l.heap l.fn.list) (object_of l.heap l.fn.other);
}

abbrev pub decreases-loop-first : goal.decreases-loop-first
decreases-loop-first l = weight (object_of l.heap l.rest)
