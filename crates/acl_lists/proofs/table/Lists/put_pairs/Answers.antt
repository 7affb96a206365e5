use Rattle.acl_lists.proofs.KeyLemmas.{pairs_step}
use Rattle.acl_lists.proofs.table.Lists.put_pairs.Goals as goal

pub loop-entry-preserved : goal.loop-entry-preserved
loop-entry-preserved c =
    pairs_step c.args.self.now c.loop-entry.self c.put_pair.new.self c.loop-entry.left.items c.pop.new.self.items c.in-Some.entry c.loop-entry.at c.in_ok-at-2.at _
    c.loop-entry.invariant c.in-Some.ensures.items c.in_ok-at-2.ensures.within c.in_ok-at-2.ensures.is c.in_ok-at-2.ensures.grows
