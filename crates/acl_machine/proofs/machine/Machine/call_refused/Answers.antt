use Rattle.std.proofs.Common.{rules, ◌+◌, None}
use Rattle.acl_machine.specs.declared.frame.Step.TheVariants as step
use Rattle.acl_machine.specs.declared.frame.Halt.TheVariants as halt
use Rattle.acl_machine.proofs.CallLemmas.{calls_refused_at}
use Rattle.acl_machine.proofs.StaysLemmas.{sound_refused}
use Rattle.acl_machine.proofs.machine.Machine.call_refused.Goals as goal

pub returns-clause-turns : goal.returns-clause-turns
returns-clause-turns g c = calls_refused_at g.K.Keeper.keeping _ _ _ _ _ _ c.at.result.now c.name-name.result c.requires.given c.requires.first c.requires.step c.requires.left c.at.ensures c.requires.refused c.name-name.ensures _ (search rules)

pub returns-clause-sound : goal.returns-clause-sound
returns-clause-sound g c = sound_refused _ _ c.args.self.now (step.Last None) (c.args.frame.base + c.args.at) (c.args.frame.base + c.args.at) c.args.count (halt.Guard c.name-name.result) c.requires.sound _ (search rules)
