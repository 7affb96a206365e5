use Rattle.std.proofs.Common.{rules, ◌+◌, None}
use Rattle.acl_machine.specs.declared.frame.Step.TheVariants as step
use Rattle.acl_object_turns.proofs.LocalLemmas.{goes_local}
use Rattle.acl_object_turns.proofs.WholeLemmas.{sound_binds}
use Rattle.acl_object_turns.proofs.local.resume_local.Goals as goal

pub returns-clause-turns : goal.returns-clause-turns
returns-clause-turns g c = goes_local g.K.Keeper.keeping _ _ _ _ c.write_given.new.machine _ _ _ _ c.requires.given c.requires.first c.requires.step (search rules) (search rules) c.unmake.ensures.keeps

pub returns-clause-sound : goal.returns-clause-sound
returns-clause-sound g c = sound_binds _ _ c.args.machine.now c.write_given.new.machine _ (c.args.frame.base + c.args.at) (step.Last None) c.args.body c.args.frame.base c.requires.sound (search rules) (search rules)
