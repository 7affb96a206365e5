use Rattle.std.proofs.Common.{rules, ◌+◌, None}
use Rattle.acl_machine.specs.declared.frame.Step.TheVariants as step
use Rattle.acl_machine.specs.declared.frame.Halt.TheVariants as halt
use Rattle.acl_machine.proofs.CallLemmas.{calls_too_many}
use Rattle.acl_machine.proofs.StaysLemmas.{sound_many}
use Rattle.acl_machine.proofs.machine.Machine.call_too_many.Goals as goal

pub returns-clause-turns : goal.returns-clause-turns
returns-clause-turns g c = calls_too_many g.K.Keeper.keeping _ _ _ _ _ _ c.requires.given c.requires.first c.requires.step c.requires.none _ (search rules)

pub returns-clause-sound : goal.returns-clause-sound
returns-clause-sound g c = sound_many _ _ c.args.self.now (step.Last None) (c.args.frame.base + c.args.at) halt.Steps c.requires.sound _ (search rules)
