use Rattle.std.proofs.Common.{ap, ◌∙◌}
use Rattle.acl_heap.specs.Objects.{object_of}
use Rattle.acl_types.specs.Shapes.{within}
use Rattle.acl_types.proofs.DepthLemmas.{type_test_is}
use Rattle.acl_types.proofs.building.type_test.Goals as goal

pub returns-in-Ok-clause-ok : goal.returns-in-Ok-clause-ok
returns-in-Ok-clause-ok c =
    (c.in-Ok.ensures.ok.0 ∙ (ap (within 200) c.shape_of-shape.ensures.is ∙ type_test_is (object_of c.args.heap.now c.args.written) c.args.name.0), c.in-Ok.ensures.ok.1)
