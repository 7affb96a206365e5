use Rattle.std.proofs.Common.{ap, ◌∙◌}
use Rattle.acl_heap.specs.Objects.{object_of}
use Rattle.acl_types.specs.Shapes.{within}
use Rattle.acl_declare.specs.Tests.{one_test}
use Rattle.acl_declare.proofs.DepthLemmas.{shallow_is}
use Rattle.acl_declare.proofs.declared_types.declared_test.Goals as goal

pub returns-in-Ok-clause-ok : goal.returns-in-Ok-clause-ok
returns-in-Ok-clause-ok c =
    (c.in-Ok.ensures.ok.0 ∙ (ap (within 200) c.test_shape-shape.ensures.is ∙ shallow_is c.args.name.0 (one_test c.args.name.0 (object_of c.args.heap.now c.args.written))), c.in-Ok.ensures.ok.1)
