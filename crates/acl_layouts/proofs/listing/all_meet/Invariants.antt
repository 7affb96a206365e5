use Rattle.std.specs.Prelude.{◌≡◌}
use Rattle.model_objects.specs.Object.{weight}
use Rattle.model_prims.specs.Kinds.{by_number}
use Rattle.model_lists.specs.Types.{meets}
use Rattle.model_lists.specs.Layouts.{every}
use Rattle.model_eval.specs.StobjLayouts.{field_type}
use Rattle.acl_heap.specs.Objects.{object_of, Lies}
use Rattle.acl_new_lists.specs.Begun.{itself}
use Rattle.acl_layouts.proofs.listing.all_meet.Given as goal

abbrev pub invariant-loop-first : goal.invariant-loop-first
invariant-loop-first l = record {
  lies : Lies l.heap l.rest;
  same : every by_number (meets by_number (field_type itself (object_of l.heap l.written))) (object_of l.heap l.rest) ≡ every by_number (meets by_number (field_type itself (object_of l.heap l.written))) (object_of l.heap l.fn.list);
}

abbrev pub decreases-loop-first : goal.decreases-loop-first
decreases-loop-first l = weight (object_of l.heap l.rest)
