use Rattle.acl_lists.proofs.KeyLemmas.{OthersSoFar}
use Rattle.acl_lists.proofs.table.Lists.others.Given as goal

abbrev pub invariant-loop-newest : goal.invariant-loop-newest
invariant-loop-newest l = OthersSoFar l.self l.wanted l.fn.list l.at l.kept.items

abbrev pub decreases-loop-newest : goal.decreases-loop-newest
decreases-loop-newest l = l.at.0
