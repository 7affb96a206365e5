use Rattle.std.proofs.Common.{◌≡◌, ◌+◌, None, [], ◌∷◌, ap, ◌∙◌}
use Rattle.acl_base.specs.declared.Word.TheVariants as word
use Rattle.acl_terms.specs.declared.outcome.Shown.TheVariants as shown
use Rattle.acl_machine.specs.declared.frame.Step.TheVariants as step
use Rattle.acl_machine.specs.Steps.{counted, giving, replaced}
use Rattle.acl_export_turns.proofs.EnterLemmas.{recognizes}
use Rattle.acl_export_turns.proofs.SoundLemmas.{truth_sound}
use Rattle.acl_export_turns.proofs.calling.call_recognizer.Goals as goal

pub returns-clause-turns : goal.returns-clause-turns
returns-clause-turns g c =
    recognizes g.K.Keeper.keeping _ c.args.machine.now c.args.frame c.args.at c.args._function c.args._count c.args._of.now _ (g.K.Keeper.Keeps c.args._keeper.now) c.requires.given c.requires.first c.requires.step c.requires.left c.requires.is c.requires.role
    (c.in_ok-give_truth.ensures ∙ ap (λ b. giving (shown.Value (word.Sym (record { 0 = 0 })) ∷ []) (counted (replaced (step.Last None) b c.args.machine.now))) c.in_ok-base.ensures)

pub returns-clause-sound : goal.returns-clause-sound
returns-clause-sound g c = truth_sound _ _ c.args.machine.now _ _ c.requires.sound c.in_ok-give_truth.ensures
