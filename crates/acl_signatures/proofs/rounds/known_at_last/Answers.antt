use Rattle.std.specs.Prelude.{refl}
use Rattle.model_events.specs.Functions.{running}
use Rattle.acl_worlds.specs.Contents.{seen_world}
use Rattle.acl_signatures.specs.Candidates.{seen_candidates}
use Rattle.acl_signatures.proofs.RunningLemmas.{rounds_next}
use Rattle.acl_signatures.proofs.rounds.known_at_last.Goals as goal

pub loop-runs-preserved : goal.loop-runs-preserved
loop-runs-preserved c =
    rounds_next (seen_world c.args.heap.now c.args.world.now) (running (seen_candidates c.args.heap.now c.args.members.now c.args.executable.now)) c.args.executable.now c.loop-runs.runs-index _ _ _ _ _ c.loop-runs.invariant c.loop-runs-test.true refl
    c.in_ok-learn_more.ensures
