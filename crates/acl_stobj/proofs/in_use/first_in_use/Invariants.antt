use Rattle.std.specs.Prelude.{length}
use Rattle.acl_worlds.specs.Contents.{seen_world}
use Rattle.acl_stobj.specs.Uses.{IsLooked}
use Rattle.acl_stobj.proofs.in_use.first_in_use.Given as goal

abbrev pub invariant-names : goal.invariant-names
invariant-names l = IsLooked (seen_world l.heap l.world) l.names l.rest l.later l.found

abbrev pub decreases-names : goal.decreases-names
decreases-names l = length l.rest
