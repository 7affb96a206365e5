use Rattle.std.proofs.Common.{◌≡◌, ◌≤◌, ◌++◌, length, drop}
use Rattle.std.specs.Vec.Iter.{into_iter_items, into_iter_len}
use Rattle.acl_growing.specs.Nodes.{divided}
use Rattle.acl_growing.proofs.node.divided.Given as goal

abbrev pub invariant-parts : goal.invariant-parts
invariant-parts l = (l.i ≤ length l.names)
    × ((divided l.names l.fn.parts.items).0 ≡ l.bindings ++ (divided (drop l.i l.names) (into_iter_items l.part-iterator)).0)
    × ((divided l.names l.fn.parts.items).1 ≡ l.left.items ++ (divided (drop l.i l.names) (into_iter_items l.part-iterator)).1)
    × (into_iter_len l.part-iterator ≡ length (into_iter_items l.part-iterator))
