use Rattle.std.proofs.Common.{◌+◌, ◌*◌}
use Rattle.acl_worlds.specs.Contents.{seen_world}
use Rattle.acl_new_lists.proofs.BegunLemmas.{PutSoFar}
use Rattle.acl_new_lists.proofs.putting.+putting.Given as goal

abbrev pub decreases-put_stobj : goal.decreases-put_stobj
decreases-put_stobj l = 3 * l.depth

abbrev pub decreases-put_field : goal.decreases-put_field
decreases-put_field l = 3 * l.depth + 1

abbrev pub decreases-put_fields : goal.decreases-put_fields
decreases-put_fields l = 3 * l.depth + 2

abbrev pub invariant-put_fields-loop-done : goal.invariant-put_fields-loop-done
invariant-put_fields-loop-done l = PutSoFar l.fn.lists l.lists l.heap (seen_world l.heap l.world) l.depth l.fields l.at l.done
