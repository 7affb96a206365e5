use Rattle.std.specs.Prelude.{◌≡◌, ◌+◌, take}
use Rattle.std.specs.List.{sum_by}
use Rattle.acl_fields.specs.Held.{node_cells}
use Rattle.acl_fields.specs.Views.{node_of}
use Rattle.acl_store.proofs.counting.count_nodes.Given as goal

abbrev pub invariant-loop-i : goal.invariant-loop-i
invariant-loop-i l = l.total ≡ l.start + sum_by (λ n. node_cells (node_of n)) (take l.i l.nodes)
