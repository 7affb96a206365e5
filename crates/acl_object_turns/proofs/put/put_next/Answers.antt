use Rattle.std.proofs.Common.{rules, None}
use Rattle.acl_machine.specs.declared.frame.Step.TheVariants as step
use Rattle.acl_object_turns.proofs.PutLemmas.{ends_loans}
use Rattle.acl_object_turns.proofs.ChildWholeLemmas.{sound_ended}
use Rattle.acl_object_turns.proofs.put.put_next.Goals as goal

pub returns-in-None-clause-puts : goal.returns-in-None-clause-puts
returns-in-None-clause-puts g c rest first = ends_loans g.K.Keeper.keeping _ _ _ c.args.machine.now _ c.args.frame c.args.at c.args.put c.args.loans c.lent_count-count.result c.args.consumer rest first (search rules) c.lent_count-count.ensures (search rules) c.end_loans.ensures.keeps

pub returns-in-None-clause-sound : goal.returns-in-None-clause-sound
returns-in-None-clause-sound g c = sound_ended _ _ c.args.machine.now _ c.args.frame.base c.args.loans (step.Last None) c.args.consumer c.requires.sound (search rules)
