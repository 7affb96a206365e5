use Rattle.std.specs.Prelude.{◌≡◌, ◌++◌}
use Rattle.model_objects.specs.Object.{weight}
use Rattle.acl_heap.specs.Objects.{object_of, Lies}
use Rattle.acl_prims.specs.Made.{AllLie, objects_of, elements_of}
use Rattle.acl_prims.proofs.making.elements.Given as goal

abbrev pub invariant-loop-first : goal.invariant-loop-first
invariant-loop-first l = record {
  rest : Lies l.heap l.rest;
  front : AllLie l.heap l.front.items;
  same : objects_of l.heap l.front.items ++ elements_of (object_of l.heap l.rest) ≡ elements_of (object_of l.heap l.fn.list);
}

abbrev pub decreases-loop-first : goal.decreases-loop-first
decreases-loop-first l = weight (object_of l.heap l.rest)
