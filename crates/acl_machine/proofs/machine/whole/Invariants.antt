use Rattle.std.proofs.Common.{◌≡◌}
use Rattle.acl_code.specs.Tables.{tree_at}
use Rattle.acl_machine.proofs.machine.whole.Given as goal

abbrev pub invariant-loop-u : goal.invariant-loop-u
invariant-loop-u l = tree_at l.heap l.terms l.t ≡ tree_at l.heap l.terms l.fn.t

abbrev pub decreases-loop-u : goal.decreases-loop-u
decreases-loop-u l = l.t.0
