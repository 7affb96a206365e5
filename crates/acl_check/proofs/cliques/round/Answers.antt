use Rattle.acl_worlds.specs.Contents.{seen_world}
use Rattle.acl_outputs.specs.Known.{seen_known}
use Rattle.acl_check.proofs.CliqueLemmas.{round_next}
use Rattle.acl_check.proofs.cliques.round.Goals as goal

pub loop-member-preserved : goal.loop-member-preserved
loop-member-preserved c =
    round_next (seen_world c.args.heap.now c.args.world.now) c.args.heap.now (seen_known c.args.known.now) _ _ _ _ c.args.members.now c.loop-member.member-index c.member-item.result c.loop-member.invariant c.loop-member-test.true c.member-item.is c.in_ok-one.ensures
    c.in_ok-put_learned.ensures
