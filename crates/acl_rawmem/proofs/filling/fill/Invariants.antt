use Rattle.std.proofs.Common.{◌≡◌, ◌≤◌, ◌-◌, ◌++◌, replicate}
use Rattle.acl_rawmem.proofs.filling.fill.Given as goal

abbrev pub invariant-loop-at : goal.invariant-loop-at
invariant-loop-at g l = (l.block.items ≡ l.fn.block.items ++ replicate (l.at - l.used) l.value) × (l.used ≤ l.at) × (l.at ≤ l.end) × (l.block.room ≡ l.fn.block.room) × (l.block.heap ≡ l.fn.block.heap)
