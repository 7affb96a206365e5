use Rattle.acl_turns.proofs.QuietLemmas.{turns_by_part}
use Rattle.acl_turns.proofs.resuming.go_part.Goals as goal

pub returns-clause-turns : goal.returns-clause-turns
returns-clause-turns g c =
    turns_by_part g.K.Keeper.keeping (g.K.Keeper.Keeps c.args.keeper.now) _ _ c.args.machine.now _ c.args.frame c.args.at c.args.count c.args.next c.args.left c.args.goal c.requires.given c.requires.first c.requires.step c.in_ok-resume_part.ensures.turns
