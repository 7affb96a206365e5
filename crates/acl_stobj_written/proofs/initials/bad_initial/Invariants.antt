use Rattle.std.specs.Prelude.{◌≡◌, ◌≤◌, length}
use Rattle.model_stobjs.specs.Answers.{first_given}
use Rattle.model_stobjs.specs.Descriptors.{bad_initial}
use Rattle.acl_worlds.specs.Contents.{seen_world}
use Rattle.acl_stobj_read.specs.Written.{seen_fields}
use Rattle.acl_stobj_written.specs.Fields.{written_of, shapes_reach, AreShaped}
use Rattle.acl_stobj_written.proofs.initials.bad_initial.Given as goal

abbrev pub invariant-fields : goal.invariant-fields
invariant-fields l = record {
  shaped : AreShaped (seen_world l.heap l.world) l.heap l.rest;
  reach : shapes_reach l.rest ≤ length l.heap;
  same : first_given (bad_initial (seen_world l.heap l.world)) (seen_fields l.heap (written_of l.fields)) ≡ first_given (bad_initial (seen_world l.heap l.world)) (seen_fields l.heap (written_of l.rest));
}

abbrev pub decreases-fields : goal.decreases-fields
decreases-fields l = length l.rest
