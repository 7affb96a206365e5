use Rattle.std.proofs.Common.{◌≡◌, ◌*◌, ◌+◌, drop}
use Rattle.model_terms.specs.Cores as cores
use Rattle.model_expansion.specs.Expansion.{ready_faults}
use Rattle.acl_terms.specs.Forms.{seen_cores, seen_bound}
use Rattle.acl_expand.specs.Looks.{setting_at}
use Rattle.acl_growing.proofs.ready.+faults.Given as goal

abbrev pub decreases-form_fault : goal.decreases-form_fault
decreases-form_fault l = 3 * l.left

abbrev pub decreases-two_fault : goal.decreases-two_fault
decreases-two_fault l = 3 * l.left + 1

abbrev pub decreases-call_fault : goal.decreases-call_fault
decreases-call_fault l = 3 * l.left + 2

abbrev pub decreases-parts_fault : goal.decreases-parts_fault
decreases-parts_fault l = 3 * l.left + 1

abbrev pub decreases-bound_fault : goal.decreases-bound_fault
decreases-bound_fault l = 3 * l.left + 1

abbrev pub invariant-parts_fault-parts : goal.invariant-parts_fault-parts
invariant-parts_fault-parts l =
    ready_faults (setting_at l.heap l.world l.syms l.limits.steps l.limits.depth) (cores.cores (seen_cores l.heap l.parts)) l.left
    ≡ ready_faults (setting_at l.heap l.world l.syms l.limits.steps l.limits.depth) (cores.cores (seen_cores l.heap (drop l.part-index l.parts))) l.left

abbrev pub invariant-bound_fault-bindings : goal.invariant-bound_fault-bindings
invariant-bound_fault-bindings l =
    ready_faults (setting_at l.heap l.world l.syms l.limits.steps l.limits.depth) (cores.cores (seen_bound l.heap l.bindings)) l.left
    ≡ ready_faults (setting_at l.heap l.world l.syms l.limits.steps l.limits.depth) (cores.cores (seen_bound l.heap (drop l.binding-index l.bindings))) l.left
