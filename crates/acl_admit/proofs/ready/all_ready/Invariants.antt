use Rattle.std.specs.List.{list_all}
use Rattle.std.proofs.Common.{◌≡◌, drop}
use Rattle.acl_check.specs.Members.{seen_members}
use Rattle.acl_admit.specs.Ready.{is_ready}
use Rattle.acl_admit.proofs.ready.all_ready.Given as goal

abbrev pub invariant-loop-member : goal.invariant-loop-member
invariant-loop-member l = list_all is_ready (seen_members l.heap l.members) ≡ list_all is_ready (seen_members l.heap (drop l.member-index l.members))
