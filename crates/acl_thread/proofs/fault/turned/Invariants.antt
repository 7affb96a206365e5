use Rattle.std.specs.Prelude.{◌++◌, ◌-◌, length, reverse, take}
use Rattle.std.proofs.Common.{◌≡◌}
use Rattle.acl_thread.proofs.fault.turned.Given as goal

abbrev pub invariant-loop-i : goal.invariant-loop-i
invariant-loop-i l = reverse l.outward ≡ l.place ++ reverse (take (length l.outward - l.i) l.outward)
