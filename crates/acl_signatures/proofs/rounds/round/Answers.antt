use Rattle.std.specs.Prelude.{refl}
use Rattle.model_terms.specs.Rounds.{learned}
use Rattle.acl_worlds.specs.Contents.{seen_world}
use Rattle.acl_outputs.specs.Known.{seen_known}
use Rattle.acl_signatures.proofs.RunningLemmas.{running_next, running_end}
use Rattle.acl_signatures.proofs.rounds.round.Goals as goal

pub loop-n-preserved : goal.loop-n-preserved
loop-n-preserved c =
    running_next c.args.heap.now (learned (seen_world c.args.heap.now c.args.world.now) (seen_known c.args.known.now)) _ _ _ _ c.args.members.now c.args.executable.now c.loop-n.n c.index-members-n.result _ _ c.loop-n.invariant c.loop-n-test.true c.requires.same c.index-members-n.is refl c.in_ok-one.ensures c.in_ok-put_learned.ensures

pub returns : goal.returns
returns c = running_end c.args.heap.now (learned (seen_world c.args.heap.now c.args.world.now) (seen_known c.args.known.now)) _ _ c.args.members.now c.args.executable.now c.loop-n.n c.loop-n.invariant c.loop-n-test.false
