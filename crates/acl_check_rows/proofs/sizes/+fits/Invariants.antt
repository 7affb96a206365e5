use Rattle.std.specs.Prelude.{◌+◌, drop}
use Rattle.acl_check_rows.specs.Small.{AllSmall, BoundSmall}
use Rattle.acl_check_rows.proofs.sizes.+fits.Given as goal

abbrev pub decreases-fits : goal.decreases-fits
decreases-fits l = l.d + l.d

abbrev pub decreases-all_fit : goal.decreases-all_fit
decreases-all_fit l = l.d + l.d + 1

abbrev pub decreases-bound_fit : goal.decreases-bound_fit
decreases-bound_fit l = l.d + l.d + 1

abbrev pub invariant-all_fit-loop-part : goal.invariant-all_fit-loop-part
invariant-all_fit-loop-part l = AllSmall l.heap l.d (drop l.part-index l.parts) → AllSmall l.heap l.d l.parts

abbrev pub invariant-bound_fit-loop-binding : goal.invariant-bound_fit-loop-binding
invariant-bound_fit-loop-binding l = BoundSmall l.heap l.d (drop l.binding-index l.bindings) → BoundSmall l.heap l.d l.bindings
