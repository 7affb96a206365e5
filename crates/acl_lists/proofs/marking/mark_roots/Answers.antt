use Rattle.acl_lists.proofs.MarkLemmas.{roots_step}
use Rattle.acl_lists.proofs.marking.mark_roots.Goals as goal

pub loop-root-preserved : goal.loop-root-preserved
loop-root-preserved c =
    roots_step c.args.roots.now c.args.marks.now.items c.loop-root.marks.items c.mark.new.marks.items c.loop-root.root-index (record { 0 = 0 }) c.loop-root.invariant c.loop-root-test.true
    c.mark.ensures.more c.mark.ensures.marked c.mark.ensures.only
