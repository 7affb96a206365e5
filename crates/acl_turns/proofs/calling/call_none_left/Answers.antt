use Rattle.acl_turns.proofs.QuietLemmas.{turns_by_too_many}
use Rattle.acl_turns.proofs.calling.call_none_left.Goals as goal

pub returns-clause-turns : goal.returns-clause-turns
returns-clause-turns g c =
    turns_by_too_many g.K.Keeper.keeping (g.K.Keeper.Keeps c.args.keeper.now) _ _ c.args.machine.now _ c.args.frame c.args.at c.args.function c.args.count c.requires.given c.requires.first c.requires.step c.requires.none c.in_ok-call_too_many.ensures.turns
