use Rattle.std.proofs.Common.{rules}
use Rattle.acl_object_turns.proofs.PutLemmas.{closes_lent}
use Rattle.acl_object_turns.proofs.ChildWholeLemmas.{sound_closed_loans}
use Rattle.acl_object_turns.proofs.put.close_lent.Goals as goal

pub returns-clause-turns : goal.returns-clause-turns
returns-clause-turns g c =
    closes_lent g.K.Keeper.keeping _ (g.K.Keeper.Keeps c.put_all.new.keeper) _ _ _ _ _ _ c.args.loans c.len.result c.as_slice.result.now c.requires.stopped c.requires.first c.requires.step (search rules) (search rules) (search rules)
    c.in_ok-put_all.ensures.ok c.end_loans.ensures.keeps

pub returns-clause-sound : goal.returns-clause-sound
returns-clause-sound g c = sound_closed_loans _ _ c.args.machine.now _ c.args.loans c.requires.sound (search rules)
