use Rattle.std.proofs.Common.{arith}
use Rattle.acl_heap.specs.Objects.{object_of}
use Rattle.acl_prims.proofs.Weights.{word_weight, len_weight}
use Rattle.acl_prims.proofs.lists.len.Goals as goal

pub overflow_add-count : goal.overflow_add-count
overflow_add-count c = search (arith, c.loop-next.invariant.same, len_weight (object_of c.args.heap.now c.args.list), word_weight c.args.heap.now c.args.list c.is_heap.ensures c.requires)
