use Rattle.std.proofs.Common.{◌≡◌, ◌∷◌, length, ap, ◌∙◌}
use Rattle.acl_terms.specs.Forms.{numbers}
use Rattle.acl_keep.specs.Seen.{all_seen}
use Rattle.acl_machine.specs.declared.machine.Machine.{Machine}
use Rattle.acl_machine.specs.Actuals.{actuals_in}
use Rattle.acl_machine.specs.Views.{around}
use Rattle.acl_export_turns.specs.Steps.{shut}
use Rattle.acl_export_turns.proofs.AllowLemmas.{closes_allowing}
use Rattle.acl_export_turns.proofs.ReadLemmas.{formals_read, actuals_read}
use Rattle.acl_export_turns.proofs.SoundLemmas.{shut_sound}
use Rattle.acl_export_turns.proofs.closing.close_allowing.Goals as goal

pub returns-clause-turns : goal.returns-clause-turns
returns-clause-turns g c =
    closes_allowing g.K.Keeper.keeping (g.K.Keeper.Keeps c.args.keeper.now) (g.K.Keeper.Keeps c.forget.new.self) _ c.args.machine.now c.args.frame c.args.function c.args.names c.args.number
    (actuals_in c.args.machine.now c.args.frame.base (length c.formals-formals.result.now) c.args.names) _
    c.args._why (numbers c.formals-formals.result.now) (all_seen c.args.heap.now c.as_slice.result.now) c.requires.stopped c.requires.first c.requires.step
    (formals_read (around c.args.heap.now c.args.world.now c.args._terms.now c.args._syms.now c.args._limit) c.args.function.0 _ c.abstract_at-of.ensures _ c.formals-formals.ensures)
    (actuals_read (around c.args.heap.now c.args.world.now c.args._terms.now c.args._syms.now c.args._limit) c.args.function.0 _ c.abstract_at-of.ensures _ c.formals-formals.ensures c.args.machine.now c.args.frame.base c.args.names _ (c.as_slice.ensures ∙ ap (λ (m : Machine). m.actuals) (c.in_ok-close.ensures ∙ ap (shut c.args.names c.args.number) c.in_ok-take_actuals.ensures)))
    (λ k l j ls b. c.forget.ensures.keeps _ j ls (c.hand_back.ensures.keeps k l (j ∷ ls) b))
    (c.in_ok-close.ensures ∙ ap (shut c.args.names c.args.number) c.in_ok-take_actuals.ensures)

pub returns-clause-sound : goal.returns-clause-sound
returns-clause-sound g c =
    shut_sound _ _ c.args.machine.now _ (actuals_in c.args.machine.now c.args.frame.base (length c.formals-formals.result.now) c.args.names) c.args.names c.args.number c.requires.sound
    (c.in_ok-close.ensures ∙ ap (shut c.args.names c.args.number) c.in_ok-take_actuals.ensures)

pub returns-clause-keeper_sound : goal.returns-clause-keeper_sound
returns-clause-keeper_sound g c = c.forget.ensures.sound _ _ _ (c.hand_back.ensures.sound _ _ _ c.requires.keeper)
