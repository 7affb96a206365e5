use Rattle.std.proofs.Common.{◌≡◌, ◌≤◌, ◌++◌, length, map, take, drop}
use Rattle.acl_machine.specs.Actuals.{outer_shown}
use Rattle.acl_machine.proofs.actuals.all_outside.Given as goal

-- changed from this place on
abbrev pub invariant-loop-k : goal.invariant-loop-k
invariant-loop-k l = (l.k ≤ length l.fn.values) × (l.values ≡ take l.k l.fn.values ++ map (outer_shown l.formals l.actuals) (drop l.k l.fn.values))

abbrev pub decreases-loop-k : goal.decreases-loop-k
decreases-loop-k l = l.k
