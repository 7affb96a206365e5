use Rattle.std.specs.Prelude.{◌≡◌}
use Rattle.model_objects.specs.Object.{weight}
use Rattle.model_prims.specs.Kinds.{by_number}
use Rattle.model_prims.specs.Lists.{is_true_list}
use Rattle.acl_heap.specs.Objects.{object_of, Lies}
use Rattle.acl_types.proofs.reading.is_true_list.Given as goal

abbrev pub invariant-loop-next : goal.invariant-loop-next
invariant-loop-next l = record {
  lies : Lies l.heap l.rest;
  same : is_true_list by_number (object_of l.heap l.rest) ≡ is_true_list by_number (object_of l.heap l.fn.list);
}

abbrev pub decreases-loop-next : goal.decreases-loop-next
decreases-loop-next l = weight (object_of l.heap l.rest)
