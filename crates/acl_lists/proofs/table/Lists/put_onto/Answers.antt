use Rattle.acl_lists.proofs.BuildLemmas.{onto_step}
use Rattle.acl_lists.proofs.table.Lists.put_onto.Goals as goal

pub loop-first-preserved : goal.loop-first-preserved
loop-first-preserved c =
    onto_step c.args.self.now c.loop-first.self c.add_item.new.self c.loop-first.left.items c.pop.new.self.items c.in-Some.first c.loop-first.at c.in_ok-at.at _
    c.loop-first.invariant c.in-Some.ensures.items c.in_ok-at.ensures.within c.in_ok-at.ensures.is c.in_ok-at.ensures.grows
