use Rattle.std.proofs.Common.{◌≡◌, length, map, ◌+◌, ◌*◌}
use Rattle.acl_nodes.specs.Making.{Extends}
use Rattle.acl_making.specs.Making.{PartsFor, ChildrenFor}
use Rattle.acl_fields.specs.Parts.{part_of}
use Rattle.acl_fields.specs.Views.{view}
use Rattle.acl_making.proofs.making.+made.Given as goal

abbrev pub decreases-make : goal.decreases-make
decreases-make l = 4 * l.id + 3

abbrev pub decreases-make_children : goal.decreases-make_children
decreases-make_children l = 4 * l.id + 4

abbrev pub decreases-make_slot : goal.decreases-make_slot
decreases-make_slot l = 4 * l.id + 1

abbrev pub decreases-make_slots : goal.decreases-make_slots
decreases-make_slots l = 4 * l.id + 2

abbrev pub invariant-make_children-loop : goal.invariant-make_children-loop
invariant-make_children-loop l =
    ChildrenFor l.heap l.layouts l.id l.n (view l.fn.nodes.items) (view l.nodes.items) l.children.items × (length l.children.items ≡ l.counter) × Extends (view l.fn.nodes.items) (view l.nodes.items)

abbrev pub invariant-make_slots-loop-f : goal.invariant-make_slots-loop-f
invariant-make_slots-loop-f l =
    PartsFor l.heap l.layouts l.layout.fields.items (view l.fn.nodes.items) (view l.nodes.items) (map part_of l.slots.items) × (length l.slots.items ≡ l.f) × Extends (view l.fn.nodes.items) (view l.nodes.items)
