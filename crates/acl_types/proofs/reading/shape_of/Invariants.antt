use Rattle.std.specs.Prelude.{◌≡◌}
use Rattle.model_objects.specs.Object.{weight}
use Rattle.acl_heap.specs.Objects.{object_of, Lies}
use Rattle.acl_types.specs.Shapes.{type_in, tested}
use Rattle.acl_types.proofs.reading.shape_of.Given as goal

abbrev pub invariant-heads : goal.invariant-heads
invariant-heads l = record {
  lies : Lies l.heap l.at;
  same : tested l.name.0 (type_in (object_of l.heap l.at)) ≡ tested l.name.0 (type_in (object_of l.heap l.fn.w));
}

abbrev pub decreases-heads : goal.decreases-heads
decreases-heads l = weight (object_of l.heap l.at)
