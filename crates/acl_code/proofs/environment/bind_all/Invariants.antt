use Rattle.std.specs.Prelude.{length, take}
use Rattle.std.proofs.Common.{◌≡◌, ◌≤◌, ◌+◌, drop}
use Rattle.model_slots.specs.Environments.{all_bound}
use Rattle.acl_terms.specs.Forms.{numbers}
use Rattle.acl_code.specs.Environments.{seen_environment}
use Rattle.acl_code.proofs.environment.bind_all.Given as goal

abbrev pub invariant-loop-left : goal.invariant-loop-left
invariant-loop-left l =
    (l.left ≤ length l.names)
    × (seen_environment l.environment ≡ all_bound (l.at + l.left) (numbers (drop l.left l.names)) (seen_environment l.fn.environment))
    × (length l.fn.environment ≤ length l.environment) × (take (length l.fn.environment) l.environment ≡ l.fn.environment)

abbrev pub decreases-loop-left : goal.decreases-loop-left
decreases-loop-left l = l.left
