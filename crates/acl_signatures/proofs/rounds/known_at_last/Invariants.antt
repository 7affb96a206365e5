use Rattle.std.specs.Prelude.{drop}
use Rattle.std.proofs.Common.{◌≡◌}
use Rattle.model_terms.specs.Rounds.{rounds, known_at_last}
use Rattle.model_events.specs.Functions.{running}
use Rattle.acl_worlds.specs.Contents.{seen_world}
use Rattle.acl_outputs.specs.Known.{seen_known}
use Rattle.acl_signatures.specs.Candidates.{seen_candidates}
use Rattle.acl_signatures.proofs.RunningLemmas.{count_of}
use Rattle.acl_signatures.proofs.rounds.known_at_last.Given as goal

abbrev pub invariant-loop-runs : goal.invariant-loop-runs
invariant-loop-runs l =
    known_at_last (seen_world l.heap l.world) (running (seen_candidates l.heap l.members l.executable))
    ≡ rounds (seen_world l.heap l.world) (running (seen_candidates l.heap l.members l.executable)) (count_of (drop l.runs-index l.executable)) (seen_known l.known)
