use Rattle.acl_list_scope.specs.Scopes.{IsBack}
use Rattle.acl_list_scope.proofs.scope.hand_back.Given as goal

abbrev pub invariant-loop-done : goal.invariant-loop-done
invariant-loop-done l = IsBack l.fn.bindings.items l.bindings.items l.inner l.formals l.actuals l.done
