use Rattle.std.proofs.Common.{◌≡◌, ◌++◌, ◌+◌, ◌-◌}
use Rattle.acl_machine.specs.Cells.{cells_from}
use Rattle.acl_machine.proofs.values.Values.copy.Given as goal

-- the values so far, then those that are left
abbrev pub invariant-loop-k : goal.invariant-loop-k
invariant-loop-k l = l.self-inside.items.items ++ cells_from l.others (l.at + l.k) (l.count - l.k) ≡ cells_from l.others l.at l.count
