use Rattle.acl_turns.proofs.QuietLemmas.{turns_by_close}
use Rattle.acl_turns.proofs.closing.close_quiet.Goals as goal

pub returns-clause-turns : goal.returns-clause-turns
returns-clause-turns g c =
    turns_by_close g.K.Keeper.keeping (g.K.Keeper.Keeps c.args.keeper.now) _ _ c.args.machine.now _ c.args.frame c.args.why c.requires.stopped c.requires.first c.requires.plain c.in_ok-close_plain.ensures.turns
