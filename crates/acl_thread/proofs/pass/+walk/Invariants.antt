use Rattle.std.specs.Prelude.{◌+◌, drop, option_map}
use Rattle.model_terms.specs.Cores as cores
use Rattle.model_terms.specs.Rules.{any_gives_another}
use Rattle.model_terms.specs.Scopes.{name_kinds}
use Rattle.model_terms_laws.specs.Parts.{parts_fault, actuals_fault}
use Rattle.acl_terms.specs.Depths.{depth_of, depth_of_all}
use Rattle.acl_terms.specs.Forms.{bound_names, seen_core, seen_cores, seen_bound}
use Rattle.acl_terms.specs.Signatures.{seen_outs, seen_scope}
use Rattle.acl_worlds.specs.Contents.{seen_world}
use Rattle.acl_thread.specs.Walks.{seen_fault, PartsSoFar, ActualsSoFar, BoundSoFar}
use Rattle.acl_thread.proofs.pass.+walk.Given as goal

-- twice the depth, and one more at parts
abbrev pub decreases-walk_form : goal.decreases-walk_form
decreases-walk_form l = depth_of (seen_core l.heap.now l.core.now) + depth_of (seen_core l.heap.now l.core.now)

abbrev pub decreases-walk_parts : goal.decreases-walk_parts
decreases-walk_parts l = depth_of_all (cores.cores (seen_cores l.heap.now l.parts.now)) + depth_of_all (cores.cores (seen_cores l.heap.now l.parts.now)) + 1

abbrev pub decreases-walk_actuals : goal.decreases-walk_actuals
decreases-walk_actuals l = depth_of_all (cores.cores (seen_cores l.heap.now l.actuals.now)) + depth_of_all (cores.cores (seen_cores l.heap.now l.actuals.now)) + 1

abbrev pub decreases-walk_bound : goal.decreases-walk_bound
decreases-walk_bound l = depth_of_all (cores.cores (seen_bound l.heap.now l.bindings.now)) + depth_of_all (cores.cores (seen_bound l.heap.now l.bindings.now)) + 1

abbrev pub invariant-walk_parts-loop-i : goal.invariant-walk_parts-loop-i
invariant-walk_parts-loop-i l =
    PartsSoFar (seen_world l.heap l.world) l.mode l.fn.scope l.scope
    (parts_fault (seen_world l.heap l.world) l.mode (seen_scope l.fn.scope) (seen_outs l.kinds) 0 (cores.cores (seen_cores l.heap l.parts)))
    (option_map seen_fault l.fault) (seen_outs (drop l.i l.kinds)) l.i (cores.cores (seen_cores l.heap (drop l.i l.parts)))

abbrev pub invariant-walk_actuals-loop-i : goal.invariant-walk_actuals-loop-i
invariant-walk_actuals-loop-i l =
    ActualsSoFar (seen_world l.heap l.world) l.mode l.fn.scope l.scope
    (actuals_fault (seen_world l.heap l.world) l.mode (seen_scope l.fn.scope) (seen_outs l.ins) 0 (cores.cores (seen_cores l.heap l.actuals)))
    (option_map seen_fault l.fault) (seen_outs (drop l.i l.ins)) l.i (cores.cores (seen_cores l.heap (drop l.i l.actuals)))

abbrev pub invariant-walk_bound-loop-i : goal.invariant-walk_bound-loop-i
invariant-walk_bound-loop-i l =
    BoundSoFar (seen_world l.heap l.world) l.mode l.fn.scope l.scope
    (parts_fault (seen_world l.heap l.world) l.mode (seen_scope l.fn.scope) (name_kinds (seen_world l.heap l.world) (bound_names l.bindings)) 0 (cores.cores (seen_bound l.heap l.bindings)))
    (option_map seen_fault l.fault)
    (any_gives_another (seen_world l.heap l.world) (seen_scope l.fn.scope) (bound_names l.bindings) (cores.cores (seen_bound l.heap l.bindings)))
    l.wrong (bound_names (drop l.i l.bindings)) l.i (cores.cores (seen_bound l.heap (drop l.i l.bindings)))
