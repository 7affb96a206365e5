use Rattle.std.proofs.Common.{rules, ◌+◌, None}
use Rattle.acl_machine.specs.declared.frame.Step.TheVariants as step
use Rattle.acl_machine.proofs.GoLemmas.{goes_several}
use Rattle.acl_machine.proofs.StaysLemmas.{sound_several}
use Rattle.acl_machine.proofs.machine.Machine.resume_several.Goals as goal

pub returns-clause-turns : goal.returns-clause-turns
returns-clause-turns g c = goes_several g.K.Keeper.keeping _ _ _ _ _ c.set_all.new.self c.requires.given c.requires.first c.requires.step (search rules) _ (search rules)

pub returns-clause-sound : goal.returns-clause-sound
returns-clause-sound g c = sound_several _ _ c.args.self.now (step.Last None) c.args.body c.args.frame.base c.set_all.new.self (c.args.frame.base + c.args.at) c.requires.sound (search rules) _ (search rules)
