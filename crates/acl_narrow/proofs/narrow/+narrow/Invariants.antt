use Rattle.std.proofs.Common.{◌≡◌, ◌+◌, drop}
use Rattle.model_terms.specs.Cores as cores
use Rattle.acl_terms.specs.Forms.{seen_cores, seen_bound}
use Rattle.acl_narrow.specs.Narrow.{are_narrow}
use Rattle.acl_narrow.proofs.narrow.+narrow.Given as goal

abbrev pub decreases-is_narrow : goal.decreases-is_narrow
decreases-is_narrow l = l.left + l.left

abbrev pub decreases-two_narrow : goal.decreases-two_narrow
decreases-two_narrow l = l.left + l.left + 1

abbrev pub decreases-parts_narrow : goal.decreases-parts_narrow
decreases-parts_narrow l = l.left + l.left + 1

abbrev pub decreases-bound_narrow : goal.decreases-bound_narrow
decreases-bound_narrow l = l.left + l.left + 1

abbrev pub invariant-parts_narrow-parts : goal.invariant-parts_narrow-parts
invariant-parts_narrow-parts l =
    are_narrow l.left (cores.cores (seen_cores l.heap l.parts)) ≡ are_narrow l.left (cores.cores (seen_cores l.heap (drop l.part-index l.parts)))

abbrev pub invariant-bound_narrow-bindings : goal.invariant-bound_narrow-bindings
invariant-bound_narrow-bindings l =
    are_narrow l.left (cores.cores (seen_bound l.heap l.bindings)) ≡ are_narrow l.left (cores.cores (seen_bound l.heap (drop l.binding-index l.bindings)))
