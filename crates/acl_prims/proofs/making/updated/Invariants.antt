use Rattle.std.specs.Prelude.{◌≡◌}
use Rattle.model_objects.specs.Object.{list_onto}
use Rattle.model_prims.specs.Kinds.{by_number}
use Rattle.model_prims.specs.Lists.{updated}
use Rattle.acl_heap.specs.Objects.{object_of, Lies}
use Rattle.acl_prims.specs.Made.{AllLie, objects_of}
use Rattle.acl_prims.proofs.making.updated.Given as goal

abbrev pub invariant-loop-left : goal.invariant-loop-left
invariant-loop-left l = record {
  rest : Lies l.heap l.rest;
  front : AllLie l.heap l.front.items;
  same : list_onto (objects_of l.heap l.front.items) (updated by_number l.left (object_of l.heap l.fn.value) (object_of l.heap l.rest)) ≡ updated by_number l.fn.number (object_of l.heap l.fn.value) (object_of l.heap l.fn.list);
}

abbrev pub decreases-loop-left : goal.decreases-loop-left
decreases-loop-left l = l.left
