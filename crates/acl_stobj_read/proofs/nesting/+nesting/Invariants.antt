use Rattle.std.specs.Prelude.{◌≡◌, ◌+◌, ◌*◌, ◌≤◌, map, max, length}
use Rattle.model_stobjs.specs.Descriptors.{nesting_within, most_of, field_nesting}
use Rattle.acl_terms.specs.Definitions.{seen_field}
use Rattle.acl_worlds.specs.Contents.{seen_world}
use Rattle.acl_stobj_read.specs.Nesting.{KnowsDepths}
use Rattle.acl_stobj_read.proofs.nesting.+nesting.Given as goal

abbrev pub decreases-followed : goal.decreases-followed
decreases-followed l = 2 * l.left

abbrev pub decreases-deepest : goal.decreases-deepest
decreases-deepest l = 2 * l.left + 1

abbrev pub invariant-deepest-fields : goal.invariant-deepest-fields
invariant-deepest-fields l = record {
  same : most_of (map (field_nesting (nesting_within (seen_world l.heap l.world) l.left)) (map (seen_field l.heap) l.fields)) ≡ max l.most (most_of (map (field_nesting (nesting_within (seen_world l.heap l.world) l.left)) (map (seen_field l.heap) l.rest)));
  bound : l.most ≤ l.left;
  known : KnowsDepths (seen_world l.heap l.world) l.known;
}

abbrev pub decreases-deepest-fields : goal.decreases-deepest-fields
decreases-deepest-fields l = length l.rest
