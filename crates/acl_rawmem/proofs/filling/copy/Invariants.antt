use Rattle.std.proofs.Common.{◌≡◌, ◌≤◌, take}
use Rattle.acl_rawmem.proofs.filling.copy.Given as goal

abbrev pub invariant-loop-at : goal.invariant-loop-at
invariant-loop-at g l = (l.to.items ≡ take l.at l.from.items) × (l.at ≤ l.count) × (l.to.room ≡ l.fn.to.room) × (l.to.heap ≡ l.fn.to.heap)
