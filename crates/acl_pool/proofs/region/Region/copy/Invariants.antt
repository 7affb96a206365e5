use Rattle.std.specs.Prelude.{◌+◌}
use Rattle.acl_heap.specs.Objects.{object_of}
use Rattle.acl_pool.specs.Building.{room}
use Rattle.acl_pool.specs.Copying.{Copies}
use Rattle.acl_pool.proofs.region.Region.copy.Given as goal

abbrev pub invariant-loop-waiting : goal.invariant-loop-waiting
invariant-loop-waiting l = Copies l.heap l.fn.self l.self l.waiting l.part (object_of l.heap l.fn.w)

abbrev pub decreases-loop-waiting : goal.decreases-loop-waiting
decreases-loop-waiting l = room l.self + l.waiting.count
