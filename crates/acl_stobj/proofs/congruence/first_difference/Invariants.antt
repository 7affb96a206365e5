use Rattle.std.specs.Prelude.{◌≡◌, ◌+◌, ◌≤◌, length, map}
use Rattle.model_stobjs.specs.Descriptors.{mismatch_from}
use Rattle.acl_terms.specs.Definitions.{seen_field}
use Rattle.acl_stobj.specs.MadeFields.{made_reach}
use Rattle.acl_stobj.proofs.congruence.first_difference.Given as goal

abbrev pub invariant-fields : goal.invariant-fields
invariant-fields l = record {
  left_lies : made_reach l.left ≤ length l.heap;
  rest_lies : made_reach l.rest ≤ length l.heap;
  count : l.at + length l.left ≡ length l.old;
  same : mismatch_from 0 (map (seen_field l.heap) l.old) (map (seen_field l.heap) l.new) ≡ mismatch_from l.at (map (seen_field l.heap) l.left) (map (seen_field l.heap) l.rest);
}

abbrev pub decreases-fields : goal.decreases-fields
decreases-fields l = length l.left
