use Rattle.std.specs.List.{All}
use Rattle.acl_check.specs.Members.{FitsMember}
use Rattle.acl_check_rows.proofs.definitions.members.Given as goal

abbrev pub invariant-loop-written : goal.invariant-loop-written
invariant-loop-written l = All (FitsMember l.heap) l.members.items
