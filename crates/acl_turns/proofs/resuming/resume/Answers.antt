use Rattle.acl_turns.proofs.AskLemmas.{may_exec, may_borrow, may_unmake}
use Rattle.acl_turns.proofs.resuming.resume.Goals as goal

pub resume_exporting-requires-clause-may : goal.resume_exporting-requires-clause-may
resume_exporting-requires-clause-may g c =
    may_exec g.K.Keeper.keeping g.K.Keeper.MayCall g.K.Keeper.MayReach g.K.Keeper.MayLend g.K.Keeper.MayUnmake (g.K.Keeper.Keeps c.args.keeper.now) c.args.heap.now c.args.world.now c.args.terms.now c.args.syms.now c.args.limit c.args.machine.now c.args.frame.step c.in-Exporting.function
    c.in-Exporting.names c.in-Exporting.number c.args.frame.base c.in-Exporting.is c.requires.may

pub resume_borrowing-requires-clause-may : goal.resume_borrowing-requires-clause-may
resume_borrowing-requires-clause-may g c =
    may_borrow g.K.Keeper.keeping g.K.Keeper.MayCall g.K.Keeper.MayReach g.K.Keeper.MayLend g.K.Keeper.MayUnmake (g.K.Keeper.Keeps c.args.keeper.now) c.args.heap.now c.args.world.now c.args.terms.now c.args.syms.now c.args.limit c.args.machine.now c.args.frame.step c.in-Borrowing.at
    c.in-Borrowing.term c.in-Borrowing.bound c.args.frame.base c.in-Borrowing.is c.requires.may

pub resume_local-requires-clause-may : goal.resume_local-requires-clause-may
resume_local-requires-clause-may g c =
    may_unmake g.K.Keeper.keeping g.K.Keeper.MayCall g.K.Keeper.MayReach g.K.Keeper.MayLend g.K.Keeper.MayUnmake (g.K.Keeper.Keeps c.args.keeper.now) c.args.heap.now c.args.world.now c.args.terms.now c.args.syms.now c.args.limit c.args.machine.now c.args.frame.step c.in-Local.at c.in-Local.body
    c.args.frame.base c.in-Local.is c.requires.may
