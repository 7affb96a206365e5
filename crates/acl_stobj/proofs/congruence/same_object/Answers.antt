use Rattle.model_prims.proofs.Same.{same_objects}
use Rattle.acl_heap.specs.Objects.{object_of}
use Rattle.acl_stobj.proofs.congruence.same_object.Goals as goal

pub returns : goal.returns
returns c = same_objects (object_of c.args.heap.now c.args.a) (object_of c.args.heap.now c.args.b) c.in_ok-same.same c.in_ok-same.ensures
