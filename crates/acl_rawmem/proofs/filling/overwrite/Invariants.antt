use Rattle.std.proofs.Common.{◌≡◌, ◌≤◌, ◌-◌, ◌++◌, replicate, take, drop}
use Rattle.acl_rawmem.proofs.filling.overwrite.Given as goal

abbrev pub invariant-loop-at : goal.invariant-loop-at
invariant-loop-at g l = (l.block.items ≡ take l.start l.fn.block.items ++ replicate (l.at - l.start) l.value ++ drop l.at l.fn.block.items) × (l.start ≤ l.at) × (l.at ≤ l.end) × (l.block.room ≡ l.fn.block.room) × (l.block.heap ≡ l.fn.block.heap)
