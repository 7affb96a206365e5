use Rattle.acl_lists.proofs.KeyLemmas.{KeysSoFar}
use Rattle.acl_lists.proofs.table.Lists.keys.Given as goal

abbrev pub invariant-loop-newest : goal.invariant-loop-newest
invariant-loop-newest l = KeysSoFar l.self l.fn.list l.at l.keys.items

abbrev pub decreases-loop-newest : goal.decreases-loop-newest
decreases-loop-newest l = l.at.0
