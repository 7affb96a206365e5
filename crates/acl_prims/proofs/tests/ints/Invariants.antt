use Rattle.std.specs.Prelude.{◌≤◌, length}
use Rattle.acl_heap.specs.Objects.{Extends}
use Rattle.acl_forms.specs.Forms.{IsWhole}
use Rattle.acl_prims.proofs.tests.ints.Given as goal

abbrev pub invariant-loop-left : goal.invariant-loop-left
invariant-loop-left l = record {
  within : l.left ≤ length l.items;
  whole : IsWhole l.syms l.heap l.done;
  grows : Extends l.fn.heap l.heap;
}

abbrev pub decreases-loop-left : goal.decreases-loop-left
decreases-loop-left l = l.left
