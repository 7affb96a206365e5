use Rattle.std.specs.Prelude.{◌≡◌, ◌+◌, take}
use Rattle.std.specs.List.{sum_by}
use Rattle.acl_fields.specs.Held.{noted_cells}
use Rattle.acl_store.proofs.counting.count_notes.Given as goal

abbrev pub invariant-loop-i : goal.invariant-loop-i
invariant-loop-i l = l.total ≡ l.start + sum_by (λ o. noted_cells o.part) (take l.i l.notes.items)
