use Rattle.acl_heap.specs.Objects.{object_of}
use Rattle.acl_list_calls.proofs.HashLemmas.{pair_put}
use Rattle.acl_list_calls.proofs.hashing.with_pair.Goals as goal

pub returns-clause-is : goal.returns-clause-is
returns-clause-is c =
    pair_put c.args.lists.now c.number.new.lists c.value.new.self c.value-2.new.self c.put_pair.new.self c.with_field.new.lists c.args.place.list c.item-field.result c.in_ok-list.list c.in_ok-older.older c.in_ok-first.first
    c.in_ok-second.second c.in_ok-pairs.pairs c.args.place.field (object_of c.args.heap.now c.args.key) (object_of c.args.heap.now c.args.value) c.in_ok-older.ensures.grows c.in_ok-first.ensures.grows c.in_ok-second.ensures.grows
    c.in_ok-pairs.ensures.grows c.requires.place c.in_ok-older.ensures.within c.in_ok-first.ensures.within c.item-field.ensures.is c.in_ok-older.ensures.is c.in_ok-first.ensures.is c.in_ok-second.ensures.is
    c.in_ok-pairs.ensures.is c.in_ok-list.ensures.is
