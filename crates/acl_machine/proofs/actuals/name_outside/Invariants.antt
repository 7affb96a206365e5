use Rattle.std.proofs.Common.{◌≡◌, drop}
use Rattle.acl_machine.specs.Actuals.{outer_name}
use Rattle.acl_machine.proofs.actuals.name_outside.Given as goal

-- what is left finds the name
abbrev pub invariant-loop-k : goal.invariant-loop-k
invariant-loop-k l = outer_name (drop l.k l.formals) (drop l.k l.actuals) l.name ≡ outer_name l.formals l.actuals l.name
