use Rattle.std.proofs.Common.{◌-◌, length}
use Rattle.acl_list_scope.proofs.LendLemmas.{LentSoFar}
use Rattle.acl_list_scope.proofs.lending.all_lent.Given as goal

abbrev pub invariant-loop-done : goal.invariant-loop-done
invariant-loop-done l = LentSoFar l.lists l.heap l.bindings l.loans l.made.items (length l.loans - l.done)
