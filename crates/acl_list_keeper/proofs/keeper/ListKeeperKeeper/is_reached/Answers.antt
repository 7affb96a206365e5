use Rattle.acl_list_keeper.proofs.keeper.ListKeeperKeeper.is_reached.Goals as goal

pub is_reached-requires-clause-within : goal.is_reached-requires-clause-within
is_reached-requires-clause-within c = c.requires.may.keeps.within
