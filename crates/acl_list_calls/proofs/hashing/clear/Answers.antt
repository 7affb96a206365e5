use Rattle.acl_list_calls.proofs.HashLemmas.{cleared}
use Rattle.acl_list_calls.proofs.hashing.clear.Goals as goal

pub returns-clause-is : goal.returns-clause-is
returns-clause-is c =
    cleared c.args._heap.now c.args.lists.now c.no_pairs.new.self c.with_field.new.lists c.args.place.list c.in_ok-list.list c.in_ok-none.none c.args.place.field c.in_ok-none.ensures.grows c.requires c.in_ok-list.ensures.within
    c.in_ok-none.ensures.is c.in_ok-list.ensures.is
