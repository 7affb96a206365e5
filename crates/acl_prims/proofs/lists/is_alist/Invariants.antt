use Rattle.std.specs.Prelude.{◌≡◌}
use Rattle.model_objects.specs.Object.{weight}
use Rattle.model_prims.specs.Kinds.{by_number}
use Rattle.model_prims.specs.Lists.{is_alist}
use Rattle.acl_heap.specs.Objects.{object_of, Lies}
use Rattle.acl_prims.proofs.lists.is_alist.Given as goal

abbrev pub invariant-loop-first : goal.invariant-loop-first
invariant-loop-first l = record {
  lies : Lies l.heap l.rest;
  same : is_alist by_number (object_of l.heap l.rest) ≡ is_alist by_number (object_of l.heap l.fn.list);
}

abbrev pub decreases-loop-first : goal.decreases-loop-first
decreases-loop-first l = weight (object_of l.heap l.rest)
