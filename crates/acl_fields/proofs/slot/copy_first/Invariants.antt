use Rattle.std.specs.Prelude.{◌≡◌, ◌++◌, length, take, drop}
use Rattle.acl_fields.proofs.slot.copy_first.Given as goal

abbrev pub invariant-loop-i : goal.invariant-loop-i
invariant-loop-i g l = (l.to ≡ take l.i l.from ++ drop l.i l.fn.to) × (length l.to ≡ length l.fn.to)
