use Rattle.acl_store.proofs.store.Store.abandon.Goals as goal

pub put_back_newest-requires-clause-fit : goal.put_back_newest-requires-clause-fit
put_back_newest-requires-clause-fit c = c.loop.invariant.0.fits c.requires.fit
