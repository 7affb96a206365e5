use Rattle.acl_lists.proofs.MarkLemmas.{RootsSoFar}
use Rattle.acl_lists.proofs.marking.mark_roots.Given as goal

abbrev pub invariant-loop-root : goal.invariant-loop-root
invariant-loop-root l = RootsSoFar l.roots l.fn.marks.items l.marks.items l.root-index
