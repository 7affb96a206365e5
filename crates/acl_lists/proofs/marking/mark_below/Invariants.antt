use Rattle.std.proofs.Common.{◌-◌, length}
use Rattle.acl_lists.proofs.MarkLemmas.{ClosedFrom}
use Rattle.acl_lists.proofs.marking.mark_below.Given as goal

abbrev pub invariant-loop-done : goal.invariant-loop-done
invariant-loop-done l = ClosedFrom l.cells l.fn.marks.items l.marks.items (length l.cells - l.done)
