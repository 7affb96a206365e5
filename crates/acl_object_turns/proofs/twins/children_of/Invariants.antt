use Rattle.std.specs.Prelude.{◌≡◌, ◌++◌, drop}
use Rattle.acl_object_turns.specs.Children.{children_in}
use Rattle.acl_object_turns.proofs.twins.children_of.Given as goal

-- the children so far, then those that are left
abbrev pub invariant-loop-loan : goal.invariant-loop-loan
invariant-loop-loan l = l.children.items ++ children_in (drop l.loan-index l.loans) ≡ children_in l.loans
