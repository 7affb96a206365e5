use Rattle.acl_pool.proofs.UnpackLemmas.{two_lie, joins_two}
use Rattle.acl_pool.proofs.unpacking.join.Goals as goal

pub pair-requires-clause-car : goal.pair-requires-clause-car
pair-requires-clause-car c = (two_lie c.args.heap.now c.args.made.now.items c.top-d.new.made.items c.top-a.new.made.items c.top-a.result c.top-d.result c.requires.lies c.top-d.ensures c.top-a.ensures).0

pub pair-requires-clause-cdr : goal.pair-requires-clause-cdr
pair-requires-clause-cdr c = (two_lie c.args.heap.now c.args.made.now.items c.top-d.new.made.items c.top-a.new.made.items c.top-a.result c.top-d.result c.requires.lies c.top-d.ensures c.top-a.ensures).1

pub returns-clause-ok : goal.returns-clause-ok
returns-clause-ok c =
    joins_two c.args.heap.now c.pair.new.heap c.args.made.now.items c.top-d.new.made.items c.top-a.new.made.items c.push.new.self.items c.top-a.result c.top-d.result c.in_ok-w.w c.in_ok-w.ensures.grows c.requires.lies c.top-d.ensures c.top-a.ensures c.in_ok-w.ensures.ok c.in_ok-push.ensures.items
