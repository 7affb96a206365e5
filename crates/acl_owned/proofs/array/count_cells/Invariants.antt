use Rattle.std.specs.Prelude.{◌≡◌, ◌+◌, take}
use Rattle.std.specs.List.{sum_by}
use Rattle.model_objects.specs.Object.{cells}
use Rattle.acl_owned.proofs.array.count_cells.Given as goal

abbrev pub invariant-loop-i : goal.invariant-loop-i
invariant-loop-i l = l.total ≡ l.start + sum_by cells (take l.i l.elements.items)
