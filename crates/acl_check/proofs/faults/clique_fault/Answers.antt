use Rattle.acl_worlds.specs.Contents.{seen_world}
use Rattle.acl_check.proofs.FaultLemmas.{clique_next}
use Rattle.acl_check.proofs.faults.clique_fault.Goals as goal

pub loop-n-preserved : goal.loop-n-preserved
loop-n-preserved c =
    clique_next (seen_world c.args.heap.now c.args.world.now) c.args.heap.now _ _ _ _ c.args.members.now c.loop-n.n c.index-members-n.result c.loop-n.invariant c.loop-n-test.true c.index-members-n.is c.in_ok-next.ensures
    c.either-fault.ensures
