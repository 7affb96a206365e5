use Rattle.acl_turns.proofs.QuietLemmas.{turns_by_begin}
use Rattle.acl_turns.proofs.beginning.begin_alone.Goals as goal

pub returns-clause-turns : goal.returns-clause-turns
returns-clause-turns g c =
    turns_by_begin g.K.Keeper.keeping (g.K.Keeper.Keeps c.args.keeper.now) _ _ c.args.machine.now _ c.args.t c.args.base c.requires.begins c.in_ok-begin.ensures.ok
