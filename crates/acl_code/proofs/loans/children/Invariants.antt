use Rattle.std.specs.Prelude.{ℕ, ◌<◌, length, map}
use Rattle.std.proofs.Common.{◌≤◌}
use Rattle.model_terms.specs.Cores as cores
use Rattle.acl_terms.specs.Forms.{numbers, most, seen_bound}
use Rattle.acl_worlds.specs.Contents.{seen_world}
use Rattle.acl_code.specs.Environments.{seen_environment}
use Rattle.acl_code.specs.Constants.{FormsAreKnown, IndicesAreKnown}
use Rattle.acl_code.specs.Tables.{child_reach}
use Rattle.acl_code.proofs.ChildLemmas.{ChildrenSoFar}
use Rattle.acl_code.proofs.loans.children.Given as goal

abbrev pub invariant-loop-binding : goal.invariant-loop-binding
invariant-loop-binding l =
    ChildrenSoFar (seen_world l.heap l.world) (seen_environment l.environment) (numbers l.vars) l.heap l.bindings l.binding-index l.found
    × (most (map child_reach l.found) ≤ length l.heap)
    × ((n : ℕ) → 1 < n → FormsAreKnown n (cores.cores (seen_bound l.heap l.bindings)) → IndicesAreKnown n l.heap l.found)
