use Rattle.std.proofs.Common.{rules, ◌+◌}
use Rattle.acl_machine.specs.declared.frame.Halt.TheVariants as halt
use Rattle.acl_machine.specs.declared.frame.Step.TheVariants as step
use Rattle.acl_object_turns.proofs.PutLemmas.{stops_putting, puts_back}
use Rattle.acl_object_turns.proofs.ChildWholeLemmas.{sound_put, sound_put_stopped}
use Rattle.acl_object_turns.proofs.put.put_child.Goals as goal

pub returns-then-machine-limit-clause-puts : goal.returns-then-machine-limit-clause-puts
returns-then-machine-limit-clause-puts g c rest first = stops_putting g.K.Keeper.keeping _ _ c.args.machine.now _ c.args.frame c.args.at c.args.put c.args.loans c.args.consumer rest c.args.child first c.requires.next c.requires.returns (search rules) (search rules)

pub returns-then-machine-limit-clause-sound : goal.returns-then-machine-limit-clause-sound
returns-then-machine-limit-clause-sound g c = sound_put_stopped _ _ c.args.machine.now _ halt.Steps (step.Putting c.args.at (c.args.put + 1) c.args.loans c.args.consumer) c.requires.sound (search rules)

pub returns-clause-puts : goal.returns-clause-puts
returns-clause-puts g c rest first = puts_back g.K.Keeper.keeping _ _ _ c.args.machine.now _ c.args.frame c.args.at c.args.put c.args.loans c.args.consumer rest c.args.child first c.requires.next c.requires.returns (search rules) (search rules) c.in_ok-put.ensures.ok

pub returns-clause-sound : goal.returns-clause-sound
returns-clause-sound g c = sound_put _ _ c.args.machine.now _ (step.Putting c.args.at (c.args.put + 1) c.args.loans c.args.consumer) c.requires.sound (search rules)
