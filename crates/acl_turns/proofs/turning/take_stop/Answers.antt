use Rattle.acl_turns.proofs.TakeLemmas.{may_stop, over_stopped}
use Rattle.acl_turns.proofs.turning.take_stop.Goals as goal

pub close-requires-clause-may : goal.close-requires-clause-may
close-requires-clause-may g c =
    may_stop g.K.Keeper.keeping g.K.Keeper.MayCall g.K.Keeper.MayReach g.K.Keeper.MayLend g.K.Keeper.MayMake g.K.Keeper.MayUnmake g.K.Keeper.MayAbandon (g.K.Keeper.Keeps c.args.keeper.now) c.args.heap.now c.args.world.now c.args.terms.now c.args.syms.now c.args.limit c.args.machine.now
    c.in-Some.frame c.args.why c.requires.stopped c.in-Some.ensures c.requires.may

pub returns-in-None-clause-ok : goal.returns-in-None-clause-ok
returns-in-None-clause-ok g c = over_stopped g.K.Keeper.keeping (g.K.Keeper.Keeps c.args.keeper.now) _ c.args.machine.now c.args.why c.requires.stopped c.in-None.ensures
