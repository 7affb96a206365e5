use Rattle.std.proofs.Common.{◌≡◌, length}
use Rattle.acl_lists.specs.Pairs.{is_among}
use Rattle.acl_lists.proofs.counting.is_among.Given as goal

abbrev pub invariant-loop-other : goal.invariant-loop-other
invariant-loop-other l = is_among l.key l.left ≡ is_among l.key l.others

abbrev pub decreases-loop-other : goal.decreases-loop-other
decreases-loop-other l = length l.left
