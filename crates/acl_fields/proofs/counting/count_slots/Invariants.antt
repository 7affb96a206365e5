use Rattle.std.specs.Prelude.{◌≡◌, ◌+◌, take}
use Rattle.std.specs.List.{sum_by}
use Rattle.acl_fields.specs.Held.{part_cells}
use Rattle.acl_fields.specs.Parts.{part_of}
use Rattle.acl_fields.proofs.counting.count_slots.Given as goal

abbrev pub invariant-loop-i : goal.invariant-loop-i
invariant-loop-i l = l.total ≡ l.start + sum_by (λ s. part_cells (part_of s)) (take l.i l.slots.items)
