use Rattle.acl_heap.specs.Objects.{object_of}
use Rattle.acl_hash.specs.Making.{IsPart, left_weight}
use Rattle.acl_hash.proofs.key.Key.make.Given as goal

abbrev pub invariant-loop-next : goal.invariant-loop-next
invariant-loop-next l = IsPart l.heap (object_of l.heap l.fn.w) l.bytes.items l.left.items

abbrev pub decreases-loop-next : goal.decreases-loop-next
decreases-loop-next l = left_weight l.heap l.left.items
