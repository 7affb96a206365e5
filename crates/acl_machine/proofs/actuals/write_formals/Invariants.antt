use Rattle.std.proofs.Common.{◌≤◌, length}
use Rattle.std.specs.Prelude.{min}
use Rattle.acl_machine.specs.Actuals.{under_formals}
use Rattle.acl_machine.proofs.MemoryLemmas.{WritesFrom}
use Rattle.acl_machine.proofs.actuals.write_formals.Given as goal

-- written from this place on
abbrev pub invariant-loop-k : goal.invariant-loop-k
invariant-loop-k l = (l.k ≤ min (length l.formals) (length l.actuals)) × WritesFrom l.base l.k (under_formals l.formals l.actuals) l.fn.values l.values

abbrev pub decreases-loop-k : goal.decreases-loop-k
decreases-loop-k l = l.k
