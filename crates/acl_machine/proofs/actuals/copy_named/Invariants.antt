use Rattle.std.proofs.Common.{◌≡◌, ◌++◌, ◌+◌, ◌-◌, drop}
use Rattle.acl_machine.specs.Cells.{cells_from}
use Rattle.acl_machine.specs.Actuals.{with_names}
use Rattle.acl_machine.proofs.actuals.copy_named.Given as goal

-- the actuals so far, then those that are left
abbrev pub invariant-loop-k : goal.invariant-loop-k
invariant-loop-k l = l.room ++ with_names (cells_from l.values (l.base + l.k) (l.count - l.k)) (drop l.used l.names) ≡ with_names (cells_from l.values l.base l.count) (drop l.first l.names)
