use Rattle.acl_turns.proofs.TakeLemmas.{over_given}
use Rattle.acl_turns.proofs.turning.take_give.Goals as goal

pub returns-in-None-clause-ok : goal.returns-in-None-clause-ok
returns-in-None-clause-ok g c = over_given g.K.Keeper.keeping (g.K.Keeper.Keeps c.args.keeper.now) _ c.args.machine.now c.requires.given c.in-None.ensures
