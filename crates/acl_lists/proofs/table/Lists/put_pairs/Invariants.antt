use Rattle.std.specs.Prelude.{vec_len}
use Rattle.acl_lists.specs.Pairs.{pairs_at}
use Rattle.acl_lists.proofs.KeyLemmas.{PairsSoFar}
use Rattle.acl_lists.proofs.table.Lists.put_pairs.Given as goal

abbrev pub invariant-loop-entry : goal.invariant-loop-entry
invariant-loop-entry l = PairsSoFar l.fn.self l.self l.left.items l.at (pairs_at l.fn.self l.fn.entries.items)

abbrev pub decreases-loop-entry : goal.decreases-loop-entry
decreases-loop-entry l = vec_len l.left
