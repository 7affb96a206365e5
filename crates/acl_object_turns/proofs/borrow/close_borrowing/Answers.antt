use Rattle.std.proofs.Common.{rules}
use Rattle.acl_object_turns.proofs.BorrowLemmas.{closes_borrowing}
use Rattle.acl_object_turns.proofs.ChildWholeLemmas.{sound_closed_loans}
use Rattle.acl_object_turns.proofs.borrow.close_borrowing.Goals as goal

pub returns-clause-turns : goal.returns-clause-turns
returns-clause-turns g c = closes_borrowing g.K.Keeper.keeping _ _ _ _ _ _ _ _ _ c.requires.stopped c.requires.first c.requires.step (search rules)

pub returns-clause-sound : goal.returns-clause-sound
returns-clause-sound g c = sound_closed_loans _ _ c.args.machine.now _ c.args.bound c.requires.sound (search rules)
