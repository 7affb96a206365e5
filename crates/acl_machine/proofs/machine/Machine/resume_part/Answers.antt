use Rattle.std.proofs.Common.{rules, ◌+◌, length}
use Rattle.acl_machine.specs.Steps.{parts_step}
use Rattle.acl_machine.proofs.GoLemmas.{goes_part}
use Rattle.acl_machine.proofs.StaysLemmas.{sound_part}
use Rattle.acl_machine.proofs.machine.Machine.resume_part.Goals as goal

pub returns-clause-turns : goal.returns-clause-turns
returns-clause-turns g c = goes_part g.K.Keeper.keeping _ _ _ _ _ _ _ _ c.set.new.self c.requires.given c.requires.first c.requires.step (search rules) _ (search rules)

pub returns-clause-sound : goal.returns-clause-sound
returns-clause-sound g c = sound_part _ _ c.args.self.now (parts_step (length c.args._terms.now) c.args.at (c.args.count + 1) c.args.next c.args.left c.args.goal) (length c.args._terms.now) c.args.frame.base c.args.at (c.args.count + 1) c.args.next c.args.left c.args.goal c.set.new.self (c.args.frame.base + (c.args.at + c.args.count)) c.requires.sound (search rules) _ (search rules)
