use Rattle.std.proofs.Common.{length, drop, ◌-◌}
use Rattle.acl_list_scope.specs.Scopes.{Lacks}
use Rattle.acl_list_scope.proofs.scope.last_place.Given as goal

abbrev pub invariant-loop-done : goal.invariant-loop-done
invariant-loop-done l = Lacks l.variable.0 (drop (length l.bindings - l.done) l.bindings)
