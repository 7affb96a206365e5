use Rattle.std.specs.Prelude.{◌≡◌}
use Rattle.model_objects.specs.Object.{weight}
use Rattle.acl_heap.specs.Objects.{object_of, Lies}
use Rattle.acl_declare.specs.Tests.{one_test}
use Rattle.acl_declare.proofs.reading.test_shape.Given as goal

abbrev pub invariant-heads : goal.invariant-heads
invariant-heads l = record {
  lies : Lies l.heap l.at;
  same : one_test l.name.0 (object_of l.heap l.at) ≡ one_test l.name.0 (object_of l.heap l.fn.w);
}

abbrev pub decreases-heads : goal.decreases-heads
decreases-heads l = weight (object_of l.heap l.at)
