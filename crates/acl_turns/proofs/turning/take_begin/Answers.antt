use Rattle.acl_turns.proofs.TakeLemmas.{may_begin}
use Rattle.acl_turns.proofs.turning.take_begin.Goals as goal

pub begin-requires-clause-may : goal.begin-requires-clause-may
begin-requires-clause-may g c =
    may_begin g.K.Keeper.keeping g.K.Keeper.MayCall g.K.Keeper.MayReach g.K.Keeper.MayLend g.K.Keeper.MayMake g.K.Keeper.MayUnmake g.K.Keeper.MayAbandon (g.K.Keeper.Keeps c.args.keeper.now) c.args.heap.now c.args.world.now c.args.terms.now c.args.syms.now c.args.limit c.args.machine.now
    c.args.t c.args.base c.requires.begins c.requires.may
