use Rattle.std.specs.Prelude.{◌≡◌, ◌++◌, length}
use Rattle.acl_object_turns.specs.Children.{all_indices}
use Rattle.acl_object_turns.proofs.twins.write_indices.Given as goal

-- the indices so far, then those that are left
abbrev pub invariant-loans : goal.invariant-loans
invariant-loans l = l.values ++ all_indices l.rest ≡ all_indices l.loans

abbrev pub decreases-loans : goal.decreases-loans
decreases-loans l = length l.rest
