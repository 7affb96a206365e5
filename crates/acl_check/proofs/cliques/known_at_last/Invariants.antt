use Rattle.std.specs.Prelude.{◌-◌, length}
use Rattle.std.proofs.Common.{◌≡◌}
use Rattle.model_terms.specs.Rounds.{rounds, known_at_last}
use Rattle.acl_worlds.specs.Contents.{seen_world}
use Rattle.acl_outputs.specs.Known.{seen_known}
use Rattle.acl_check.specs.Members.{seen_members}
use Rattle.acl_check.proofs.cliques.known_at_last.Given as goal

abbrev pub invariant-loop : goal.invariant-loop
invariant-loop l =
    known_at_last (seen_world l.heap l.world) (seen_members l.heap l.members)
    ≡ rounds (seen_world l.heap l.world) (seen_members l.heap l.members) (length l.members - l.counter) (seen_known l.known)
