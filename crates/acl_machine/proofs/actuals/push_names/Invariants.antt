use Rattle.std.proofs.Common.{◌≡◌, ◌++◌, drop}
use Rattle.acl_machine.specs.Actuals.{names_of}
use Rattle.acl_machine.proofs.actuals.push_names.Given as goal

-- the names so far, then those of the values that are left
abbrev pub invariant-loop-value : goal.invariant-loop-value
invariant-loop-value l = l.names ++ names_of (drop l.value-index l.values) ≡ l.fn.names ++ names_of l.values
