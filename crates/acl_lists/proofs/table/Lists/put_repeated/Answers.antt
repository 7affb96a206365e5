use Rattle.acl_lists.proofs.BuildLemmas.{repeat_step}
use Rattle.acl_lists.proofs.table.Lists.put_repeated.Goals as goal

pub loop-preserved : goal.loop-preserved
loop-preserved c =
    repeat_step c.args.self.now c.loop.self c.add_item.new.self c.args.item c.loop.at c.in_ok-at-2.at c.loop.counter
    c.loop.invariant c.requires c.in_ok-at-2.ensures.within c.in_ok-at-2.ensures.is c.in_ok-at-2.ensures.grows
