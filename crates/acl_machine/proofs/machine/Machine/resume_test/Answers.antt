use Rattle.std.proofs.Common.{◌∙◌, ap, None}
use Rattle.model_prims.specs.Kinds.{by_number, is_nil}
use Rattle.model_eval.specs.Variables.{object_of}
use Rattle.acl_keep.specs.Seen.{seen_shown}
use Rattle.acl_machine.specs.declared.frame.Step.TheVariants as step
use Rattle.acl_machine.specs.Steps.{beginning, again}
use Rattle.acl_machine.proofs.GoLemmas.{goes_test}
use Rattle.acl_machine.proofs.StaysLemmas.{sound_test}
use Rattle.acl_machine.proofs.machine.Machine.resume_test.Goals as goal

pub returns-clause-turns : goal.returns-clause-turns
returns-clause-turns g c = goes_test g.K.Keeper.keeping _ _ _ _ _ c.is_false.result c.requires.given c.requires.first c.requires.step
    (c.is_false.ensures ∙ ap (λ v. is_nil by_number (object_of by_number (seen_shown c.args._heap.now v))) c.get-value.ensures) _
    (c.begin_term.ensures ∙ ap (λ fs. beginning c.branch-next.result c.args.frame.base (record c.args.self.now { frames = fs })) c.again.ensures
    ∙ ap (λ t. beginning t c.args.frame.base (again (step.Last None) c.args.self.now)) c.branch-next.ensures)

pub returns-clause-sound : goal.returns-clause-sound
returns-clause-sound g c = sound_test _ _ c.args.self.now (step.Last None) c.branch-next.result c.args.frame.base c.requires.sound _ (c.begin_term.ensures ∙ ap (λ fs. beginning c.branch-next.result c.args.frame.base (record c.args.self.now { frames = fs })) c.again.ensures)
