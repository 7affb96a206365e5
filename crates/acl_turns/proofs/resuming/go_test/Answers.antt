use Rattle.acl_turns.proofs.QuietLemmas.{turns_by_test}
use Rattle.acl_turns.proofs.resuming.go_test.Goals as goal

pub returns-clause-turns : goal.returns-clause-turns
returns-clause-turns g c =
    turns_by_test g.K.Keeper.keeping (g.K.Keeper.Keeps c.args.keeper.now) _ _ c.args.machine.now _ c.args.frame c.args.held c.args.other c.requires.given c.requires.first c.requires.step c.resume_test.ensures.turns
