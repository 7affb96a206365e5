use Rattle.std.proofs.Common.{length}
use Rattle.acl_lists.proofs.CountLemmas.{CountSoFar}
use Rattle.acl_lists.proofs.counting.count_different.Given as goal

abbrev pub invariant-loop-key : goal.invariant-loop-key
invariant-loop-key l = CountSoFar l.keys l.left l.count

abbrev pub decreases-loop-key : goal.decreases-loop-key
decreases-loop-key l = length l.left
