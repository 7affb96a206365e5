use Rattle.acl_heap.specs.Objects.{object_of}
use Rattle.acl_worlds.specs.Contents.{seen_world}
use Rattle.acl_layouts.proofs.RecognizeLemmas.{scalar_told}
use Rattle.acl_layouts.proofs.recognizing.recognizes_field.Goals as goal

pub returns-in_ok-holds-in-Scalar : goal.returns-in_ok-holds-in-Scalar
returns-in_ok-holds-in-Scalar c =
    scalar_told (seen_world c.args.heap.now c.args.world.now) c.args.heap.now c.args.depth c.args.shape (object_of c.args.heap.now c.args.x) c.in_ok-holds-in-Scalar.holds _ _ c.in-Scalar.is c.in_ok-holds-in-Scalar.ensures.is
