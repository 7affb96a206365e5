use Rattle.std.specs.Prelude.{length}
use Rattle.acl_worlds.specs.Contents.{seen_world}
use Rattle.acl_stobj_written.specs.Shaping.{Shaping}
use Rattle.acl_stobj_written.proofs.shaped.shaped_fields.Given as goal

abbrev pub invariant-fields : goal.invariant-fields
invariant-fields l = Shaping (seen_world l.heap l.world) l.heap l.found l.rest l.fields

abbrev pub decreases-fields : goal.decreases-fields
decreases-fields l = length l.rest
