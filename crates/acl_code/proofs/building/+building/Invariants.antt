use Rattle.std.proofs.Common.{drop, ◌*◌, ◌+◌}
use Rattle.model_terms.specs.Cores as cores
use Rattle.acl_terms.specs.Depths.{depth_of, depth_of_all}
use Rattle.acl_terms.specs.Forms.{seen_core, seen_cores, seen_bound}
use Rattle.acl_worlds.specs.Contents.{seen_world}
use Rattle.acl_code.proofs.BuildLemmas.{BuiltSoFar}
use Rattle.acl_code.proofs.building.+building.Given as goal

abbrev pub invariant-build_parts-loop-i : goal.invariant-build_parts-loop-i
invariant-build_parts-loop-i l =
    BuiltSoFar l.heap (seen_world l.heap l.world) l.fn.environment l.environment l.at l.fn.terms l.terms (cores.cores (seen_cores l.heap l.parts)) (cores.cores (seen_cores l.heap (drop l.i l.parts))) l.i l.found

abbrev pub invariant-build_bound-loop-i : goal.invariant-build_bound-loop-i
invariant-build_bound-loop-i l =
    BuiltSoFar l.heap (seen_world l.heap l.world) l.fn.environment l.environment l.at l.fn.terms l.terms (cores.cores (seen_bound l.heap l.bindings)) (cores.cores (seen_bound l.heap (drop l.i l.bindings))) l.i l.found

abbrev pub decreases-build_in : goal.decreases-build_in
decreases-build_in l = 3 * depth_of (seen_core l.heap.now l.core.now)

abbrev pub decreases-build_under : goal.decreases-build_under
decreases-build_under l = 3 * depth_of (seen_core l.heap.now l.body.now) + 1

abbrev pub decreases-build_inside : goal.decreases-build_inside
decreases-build_inside l = 3 * depth_of (seen_core l.heap.now l.body.now) + 1

abbrev pub decreases-build_parts : goal.decreases-build_parts
decreases-build_parts l = 3 * depth_of_all (cores.cores (seen_cores l.heap.now l.parts.now)) + 1

abbrev pub decreases-build_bound : goal.decreases-build_bound
decreases-build_bound l = 3 * depth_of_all (cores.cores (seen_bound l.heap.now l.bindings.now)) + 1
