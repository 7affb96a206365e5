use Rattle.acl_pool.specs.Unpacking.{Unpacks, part_object, work}
use Rattle.acl_pool.proofs.region.Region.copy_out.Given as goal

abbrev pub invariant-loop-task : goal.invariant-loop-task
invariant-loop-task l = Unpacks l.self l.fn.heap l.heap l.tasks.items l.made.items (part_object l.self l.fn.part)

abbrev pub decreases-loop-task : goal.decreases-loop-task
decreases-loop-task l = work l.self l.tasks.items
