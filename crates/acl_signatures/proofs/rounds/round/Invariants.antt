use Rattle.std.specs.Prelude.{◌++◌, drop}
use Rattle.std.specs.List.{filter_map}
use Rattle.std.proofs.Common.{◌≡◌}
use Rattle.model_terms.specs.Rounds.{learned}
use Rattle.model_events.specs.Functions.{running}
use Rattle.acl_worlds.specs.Contents.{seen_world}
use Rattle.acl_outputs.specs.Known.{seen_known}
use Rattle.acl_signatures.specs.Candidates.{seen_candidates}
use Rattle.acl_signatures.proofs.rounds.round.Given as goal

abbrev pub invariant-loop-n : goal.invariant-loop-n
invariant-loop-n l =
    filter_map (learned (seen_world l.heap l.world) (seen_known l.known)) (running (seen_candidates l.heap l.members l.executable))
    ≡ seen_known l.found ++ filter_map (learned (seen_world l.heap l.world) (seen_known l.known)) (running (seen_candidates l.heap (drop l.n l.members) (drop l.n l.executable)))
