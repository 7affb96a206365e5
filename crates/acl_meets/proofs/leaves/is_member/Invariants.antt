use Rattle.std.specs.Prelude.{◌≡◌}
use Rattle.model_objects.specs.Object.{weight}
use Rattle.model_prims.specs.Kinds.{by_number}
use Rattle.model_prims.specs.Lists.{is_member}
use Rattle.acl_heap.specs.Objects.{object_of, Lies}
use Rattle.acl_meets.proofs.leaves.is_member.Given as goal

abbrev pub invariant-loop-first : goal.invariant-loop-first
invariant-loop-first l = record {
  lies : Lies l.heap l.rest;
  same : is_member by_number (object_of l.heap l.fn.x) (object_of l.heap l.rest) ≡ is_member by_number (object_of l.heap l.fn.x) (object_of l.heap l.fn.list);
}

abbrev pub decreases-loop-first : goal.decreases-loop-first
decreases-loop-first l = weight (object_of l.heap l.rest)
