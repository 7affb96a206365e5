use Rattle.std.proofs.Common.{◌≤◌, length}
use Rattle.acl_machine.proofs.MemoryLemmas.{WritesFrom}
use Rattle.acl_machine.proofs.values.Values.set_all.Given as goal

-- written from this place on
abbrev pub invariant-loop-k : goal.invariant-loop-k
invariant-loop-k l = (l.k ≤ length l.values) × WritesFrom l.at l.k l.values l.fn.self l.self

abbrev pub decreases-loop-k : goal.decreases-loop-k
decreases-loop-k l = l.k
