use Rattle.std.specs.Map.Iter.{deref_pair}
use Rattle.std.proofs.lemmas.Map.Iter.{rest_more}
use Rattle.acl_hash.proofs.FieldLemmas.{first_fits, clear_goes_on}
use Rattle.acl_hash.proofs.field.give_all_back.Goals as goal

pub give_back-requires : goal.give_back-requires
give_back-requires c =
    let first = rest_more deref_pair c.loop-key._key-iterator c.next.new.self c.next.result (c.in-Some._key, c.in-Some.place) c.in-Some.is c.next.ensures.steps in
    first_fits c.loop-key.invariant.2 first

pub loop-key-preserved : goal.loop-key-preserved
loop-key-preserved c =
    let first = rest_more deref_pair c.loop-key._key-iterator c.next.new.self c.next.result (c.in-Some._key, c.in-Some.place) c.in-Some.is c.next.ensures.steps in
    (tt, tt, clear_goes_on c.loop-key.invariant.2 first c.give_back.ensures)
