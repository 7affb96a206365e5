use Rattle.std.proofs.Common.{◌-◌}
use Rattle.acl_list_scope.specs.Scopes.{IsOver}
use Rattle.acl_list_scope.proofs.scope.handed_over.Given as goal

abbrev pub invariant-loop-done : goal.invariant-loop-done
invariant-loop-done l = IsOver l.fn.bindings l.formals l.actuals l.made.items (l.count - l.done)
