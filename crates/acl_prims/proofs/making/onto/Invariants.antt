use Rattle.std.specs.Prelude.{◌≡◌, length}
use Rattle.model_objects.specs.Object.{list_onto}
use Rattle.acl_heap.specs.Objects.{object_of, Lies, Extends}
use Rattle.acl_prims.specs.Made.{AllLie, objects_of}
use Rattle.acl_prims.proofs.making.onto.Given as goal

abbrev pub invariant-loop-last : goal.invariant-loop-last
invariant-loop-last l = record {
  grows : Extends l.fn.heap l.heap;
  front : AllLie l.heap l.front.items;
  done : Lies l.heap l.done;
  same : list_onto (objects_of l.heap l.front.items) (object_of l.heap l.done) ≡ list_onto (objects_of l.fn.heap l.fn.front.items) (object_of l.fn.heap l.fn.end);
}

abbrev pub decreases-loop-last : goal.decreases-loop-last
decreases-loop-last l = length l.front.items
