use Rattle.acl_turns.proofs.LeaveLemmas.{leaves_guard}
use Rattle.acl_turns.proofs.resuming.go_guard.Goals as goal

pub returns-clause-err : goal.returns-clause-err
returns-clause-err g c =
    leaves_guard g.K.Keeper.keeping (g.K.Keeper.Keeps c.args.keeper.now) (g.K.Keeper.Keeps c.resume_guard.new.keeper) c.args.heap.now c.args.world.now c.args.terms.now c.args.syms.now c.args.limit c.args.machine.now c.args.frame c.args.inside c.args.function c.args.names
    c.resume_guard.result c.requires.given c.requires.first c.requires.step c.resume_guard.ensures.err
