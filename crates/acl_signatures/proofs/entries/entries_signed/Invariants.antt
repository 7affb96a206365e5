use Rattle.std.specs.Prelude.{◌++◌, map, drop}
use Rattle.std.proofs.Common.{◌≡◌}
use Rattle.model_events.specs.Functions.{signed}
use Rattle.acl_terms.specs.Definitions.{seen_definitions}
use Rattle.acl_outputs.specs.Known.{seen_known}
use Rattle.acl_signatures.specs.Candidates.{seen_candidates}
use Rattle.acl_signatures.proofs.entries.entries_signed.Given as goal

abbrev pub invariant-loop-n : goal.invariant-loop-n
invariant-loop-n l =
    map (signed (seen_known l.known)) (seen_candidates l.heap l.members l.executable)
    ≡ seen_definitions l.heap l.entries.items ++ map (signed (seen_known l.known)) (seen_candidates l.heap (drop l.n l.members) (drop l.n l.executable))
