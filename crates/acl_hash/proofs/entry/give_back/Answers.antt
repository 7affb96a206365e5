use Rattle.acl_hash.proofs.RootLemmas.{key_lives, value_lives, gives_entry}
use Rattle.acl_hash.proofs.entry.give_back.Goals as goal

pub give_back-requires : goal.give_back-requires
give_back-requires c = key_lives c.requires c.in-Some.is

pub give_back-requires-in-Some : goal.give_back-requires-in-Some
give_back-requires-in-Some c = value_lives c.requires c.in-Some.is c.give_back.ensures

pub returns-in-Some : goal.returns-in-Some
returns-in-Some c = gives_entry c.requires c.in-Some.is c.give_back.ensures c.give_back-in-Some.ensures
