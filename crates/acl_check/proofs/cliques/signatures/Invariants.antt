use Rattle.std.specs.Prelude.{◌++◌, map, drop}
use Rattle.std.proofs.Common.{◌≡◌}
use Rattle.acl_terms.specs.Signatures.{seen_signature}
use Rattle.acl_worlds.specs.Contents.{seen_world}
use Rattle.acl_outputs.specs.Known.{seen_known}
use Rattle.acl_check.specs.Members.{seen_members, member_signature}
use Rattle.acl_check.proofs.cliques.signatures.Given as goal

abbrev pub invariant-loop-member : goal.invariant-loop-member
invariant-loop-member l =
    map (member_signature (seen_world l.heap l.world) (seen_known l.known)) (seen_members l.heap l.members)
    ≡ map seen_signature l.signatures ++ map (member_signature (seen_world l.heap l.world) (seen_known l.known)) (seen_members l.heap (drop l.member-index l.members))
