use Rattle.std.proofs.Common.{◌≡◌}
use Rattle.acl_outputs.proofs.ListLemmas.{actual_left}
use Rattle.acl_outputs.proofs.instances.actual_of.Given as goal

abbrev pub invariant-loop-i : goal.invariant-loop-i
invariant-loop-i l = actual_left l.formals l.actuals 0 l.x.0 ≡ actual_left l.formals l.actuals l.i l.x.0
