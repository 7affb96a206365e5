use Rattle.std.specs.Prelude.{length}
use Rattle.std.proofs.Common.{◌∙◌, ap}
use Rattle.acl_worlds.specs.Contents.{seen_world}
use Rattle.acl_outputs.specs.Known.{seen_known}
use Rattle.acl_check.specs.Members.{seen_members}
use Rattle.acl_check.proofs.CliqueLemmas.{rounds_next, known_more}
use Rattle.acl_check.proofs.cliques.known_at_last.Goals as goal

pub loop-preserved : goal.loop-preserved
loop-preserved c =
    rounds_next (seen_world c.args.heap.now c.args.world.now) (seen_members c.args.heap.now c.args.members.now) (length c.args.members.now) c.loop.counter _ (seen_known c.loop.known) _ _ c.loop.invariant c.loop-test.true (rw c.as_slice.ensures at c.in_ok-more.ensures)
    (ap seen_known c.in_ok-append.ensures ∙ known_more c.loop.known c.in_ok-more.more)
