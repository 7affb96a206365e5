use Rattle.std.proofs.Common.{◌≡◌, ◌+◌, None, ap, ◌∙◌}
use Rattle.acl_machine.specs.declared.frame.Halt.TheVariants as halt
use Rattle.acl_machine.specs.declared.frame.Step.TheVariants as step
use Rattle.acl_machine.specs.Cells.{cells_from}
use Rattle.acl_machine.specs.Steps.{counted, holding, stopped, replaced}
use Rattle.acl_export_turns.proofs.EnterLemmas.{refuses_creator}
use Rattle.acl_export_turns.proofs.SoundLemmas.{creator_sound}
use Rattle.acl_export_turns.proofs.calling.call_creator.Goals as goal

pub returns-clause-turns : goal.returns-clause-turns
returns-clause-turns g c =
    refuses_creator g.K.Keeper.keeping _ c.args.machine.now c.args.frame c.args.at c.args._function c.args.count c.args.of.now _ (g.K.Keeper.Keeps c.args._keeper.now) c.requires.given c.requires.first c.requires.step c.requires.left c.requires.is c.requires.role
    (c.in_ok-refuse.ensures ∙ ap (λ b. stopped (halt.Guard c.args.of.now.name) (counted (holding (cells_from c.args.machine.now.values b c.args.count) (replaced (step.Last None) b c.args.machine.now)))) c.in_ok-base.ensures)

pub returns-clause-sound : goal.returns-clause-sound
returns-clause-sound g c = creator_sound _ _ c.args.machine.now _ _ _ c.args.count _ c.requires.sound c.in_ok-refuse.ensures
