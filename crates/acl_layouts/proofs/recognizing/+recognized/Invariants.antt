use Rattle.std.specs.Prelude.{◌≡◌, ◌+◌, ◌*◌, drop, map}
use Rattle.model_objects.specs.Object.{weight}
use Rattle.model_prims.specs.Kinds.{by_number}
use Rattle.model_lists.specs.Layouts.{recognizes, every}
use Rattle.acl_heap.specs.Objects.{object_of, Lies}
use Rattle.acl_terms.specs.Definitions.{seen_field}
use Rattle.acl_worlds.specs.Contents.{seen_world}
use Rattle.acl_layouts.specs.Laid.{fields_laid, stobj_laid}
use Rattle.acl_layouts.proofs.recognizing.+recognized.Given as goal

abbrev pub decreases-is_stobj : goal.decreases-is_stobj
decreases-is_stobj l = 4 * l.depth

abbrev pub decreases-are_stobjs : goal.decreases-are_stobjs
decreases-are_stobjs l = 4 * l.depth + 1

abbrev pub decreases-is_field : goal.decreases-is_field
decreases-is_field l = 4 * l.depth + 2

abbrev pub decreases-are_fields : goal.decreases-are_fields
decreases-are_fields l = 4 * l.depth + 3

abbrev pub invariant-are_stobjs-loop-first : goal.invariant-are_stobjs-loop-first
invariant-are_stobjs-loop-first l = record {
  lies : Lies l.heap l.rest;
  same : every by_number (recognizes by_number (stobj_laid (seen_world l.heap l.world) l.depth l.stobj.0)) (object_of l.heap l.rest)
      ≡ every by_number (recognizes by_number (stobj_laid (seen_world l.heap l.world) l.depth l.stobj.0)) (object_of l.heap l.fn.list);
}

abbrev pub decreases-are_stobjs-loop-first : goal.decreases-are_stobjs-loop-first
decreases-are_stobjs-loop-first l = weight (object_of l.heap l.rest)

abbrev pub invariant-are_fields-loop-at : goal.invariant-are_fields-loop-at
invariant-are_fields-loop-at l = record {
  lies : Lies l.heap l.rest;
  same : recognizes by_number (fields_laid (seen_world l.heap l.world) l.depth (map (seen_field l.heap) (drop l.at l.fields))) (object_of l.heap l.rest)
      ≡ recognizes by_number (fields_laid (seen_world l.heap l.world) l.depth (map (seen_field l.heap) l.fields)) (object_of l.heap l.fn.x);
}
