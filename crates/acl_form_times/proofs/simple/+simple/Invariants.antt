use Rattle.std.specs.Prelude.{◌+◌, drop}
use Rattle.acl_worlds.specs.Contents.{seen_world}
use Rattle.acl_form_times.specs.Simple.{AreSimple, BoundAreSimple}
use Rattle.acl_form_times.proofs.simple.+simple.Given as goal

abbrev pub decreases-is_simple : goal.decreases-is_simple
decreases-is_simple l = l.d + l.d

abbrev pub decreases-are_simple : goal.decreases-are_simple
decreases-are_simple l = l.d + l.d + 1

abbrev pub decreases-bound_are_simple : goal.decreases-bound_are_simple
decreases-bound_are_simple l = l.d + l.d + 1

abbrev pub invariant-are_simple-loop-part : goal.invariant-are_simple-loop-part
invariant-are_simple-loop-part l = AreSimple (seen_world l.heap l.world) l.heap (drop l.part-index l.parts) → AreSimple (seen_world l.heap l.world) l.heap l.parts

abbrev pub invariant-bound_are_simple-loop-binding : goal.invariant-bound_are_simple-loop-binding
invariant-bound_are_simple-loop-binding l = BoundAreSimple (seen_world l.heap l.world) l.heap (drop l.binding-index l.bindings) → BoundAreSimple (seen_world l.heap l.world) l.heap l.bindings
