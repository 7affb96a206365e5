use Rattle.acl_read_build.proofs.ItemLemmas.{AreWholeItems-push}
use Rattle.acl_read_build.proofs.building.deliver.Goals as goal

pub push-requires-in-Opened-clause-slot : goal.push-requires-in-Opened-clause-slot
push-requires-in-Opened-clause-slot c =
    rw c.in_ok-push-in-Opened.ensures.items (AreWholeItems-push c.args.syms.now c.loop-slot.heap c.in-Opened.items.items c.loop-slot.item (rw c.in-Opened.is at c.in-Some.ensures.top) c.loop-slot.invariant.whole)
