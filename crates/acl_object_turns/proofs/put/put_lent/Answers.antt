use Rattle.std.proofs.Common.{rules, ◌+◌}
use Rattle.acl_machine.specs.declared.frame.Step.TheVariants as step
use Rattle.acl_object_turns.proofs.PutLemmas.{passes}
use Rattle.acl_object_turns.proofs.ChildWholeLemmas.{sound_passed}
use Rattle.acl_object_turns.proofs.put.put_lent.Goals as goal

pub returns-in_ok-pass-clause-puts : goal.returns-in_ok-pass-clause-puts
returns-in_ok-pass-clause-puts g c rest first = passes g.K.Keeper.keeping _ _ c.args.machine.now _ c.args.frame c.args.at c.args.put c.args.loans c.args.consumer rest c.args.child first c.requires.next (search rules) (search rules)

pub returns-in_ok-pass-clause-sound : goal.returns-in_ok-pass-clause-sound
returns-in_ok-pass-clause-sound g c = sound_passed _ _ c.args.machine.now _ (step.Putting c.args.at (c.args.put + 1) c.args.loans c.args.consumer) c.requires.sound (search rules)
