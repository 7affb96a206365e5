use Rattle.model_prims.proofs.Same.{same_objects}
use Rattle.acl_heap.specs.Objects.{object_of}
use Rattle.acl_meets.proofs.leaves.is_same_pair.Goals as goal

pub returns : goal.returns
returns c = same_objects (object_of c.args.heap.now c.args.x) (object_of c.args.heap.now c.args.y) c.in_ok-equal.equal c.in_ok-equal.ensures
