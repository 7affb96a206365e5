use Rattle.acl_lists.proofs.SweepLemmas.{SweptSoFar}
use Rattle.acl_lists.proofs.moving.sweep.Given as goal

abbrev pub invariant-loop-i : goal.invariant-loop-i
invariant-loop-i l = SweptSoFar l.fn.cells.items l.fn.marks.items l.cells.items l.marks.items l.kept l.i
