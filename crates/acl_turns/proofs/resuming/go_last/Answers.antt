use Rattle.acl_turns.proofs.QuietLemmas.{turns_by_last}
use Rattle.acl_turns.proofs.resuming.go_last.Goals as goal

pub returns-clause-turns : goal.returns-clause-turns
returns-clause-turns g c =
    turns_by_last g.K.Keeper.keeping (g.K.Keeper.Keeps c.args.keeper.now) _ _ c.args.machine.now _ c.args.frame c.requires.given c.requires.first c.requires.step c.in_ok-resume_last.ensures.turns
