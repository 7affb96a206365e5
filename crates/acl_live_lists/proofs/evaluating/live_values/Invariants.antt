use Rattle.std.proofs.Common.{◌≡◌, ◌-◌, length, drop}
use Rattle.acl_live_lists.specs.Live.{objects_bound}
use Rattle.acl_live_lists.proofs.evaluating.live_values.Given as goal

-- the objects of the bindings so far, from the last on
abbrev pub invariant-loop-done : goal.invariant-loop-done
invariant-loop-done l = l.values ≡ objects_bound (drop (length l.bindings - l.done) l.bindings)
