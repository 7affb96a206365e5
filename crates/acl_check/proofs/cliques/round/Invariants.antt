use Rattle.std.specs.Prelude.{◌++◌, drop}
use Rattle.std.specs.List.{filter_map}
use Rattle.std.proofs.Common.{◌≡◌}
use Rattle.model_terms.specs.Rounds.{learned}
use Rattle.acl_worlds.specs.Contents.{seen_world}
use Rattle.acl_outputs.specs.Known.{seen_known}
use Rattle.acl_check.specs.Members.{seen_members}
use Rattle.acl_check.proofs.cliques.round.Given as goal

abbrev pub invariant-loop-member : goal.invariant-loop-member
invariant-loop-member l =
    filter_map (learned (seen_world l.heap l.world) (seen_known l.known)) (seen_members l.heap l.members)
    ≡ seen_known l.found ++ filter_map (learned (seen_world l.heap l.world) (seen_known l.known)) (seen_members l.heap (drop l.member-index l.members))
