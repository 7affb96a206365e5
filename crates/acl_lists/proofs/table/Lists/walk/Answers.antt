use Rattle.acl_lists.proofs.BuildLemmas.{passed_more, one_longer}
use Rattle.acl_lists.proofs.table.Lists.walk.Goals as goal

pub loop-preserved : goal.loop-preserved
loop-preserved c = (
  passed_more c.args.self.now c.args.list c.loop.firsts.items c.push.new.self.items c.loop.rest c.in-Some.split.first c.in-Some.split.rest
      c.loop.invariant.0 c.in-Some.ensures.is c.in-Some.ensures.first c.in-Some.ensures.rest c.in_ok-push-in-Some.ensures.items,
  one_longer c.loop.firsts.items c.push.new.self.items c.in-Some.split.first c.loop.counter c.loop.invariant.1 c.in_ok-push-in-Some.ensures.items,
)
