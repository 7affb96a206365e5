use Rattle.std.proofs.Common.{◌≡◌, ◌∷◌, length, sym, ap, ◌∙◌}
use Rattle.model_prims.specs.Kinds.{by_number, is_nil}
use Rattle.model_eval.specs.Variables.{object_of}
use Rattle.acl_terms.specs.Forms.{numbers}
use Rattle.acl_keep.specs.Seen.{all_seen}
use Rattle.acl_machine.specs.declared.machine.Machine.{Machine}
use Rattle.acl_machine.specs.Actuals.{actuals_in}
use Rattle.acl_machine.specs.Views.{around}
use Rattle.acl_machine.proofs.MemoryLemmas.{single_cell}
use Rattle.acl_machine.proofs.WholeLemmas.{actuals_whole}
use Rattle.acl_export_turns.specs.Steps.{denied}
use Rattle.acl_export_turns.proofs.AllowLemmas.{denies}
use Rattle.acl_export_turns.proofs.ReadLemmas.{name_read, formals_read, actuals_read}
use Rattle.acl_export_turns.proofs.SoundLemmas.{denied_sound}
use Rattle.acl_export_turns.proofs.allowing.resume_denied.Goals as goal

pub returns-clause-turns : goal.returns-clause-turns
returns-clause-turns g c =
    denies g.K.Keeper.keeping (g.K.Keeper.Keeps c.args.keeper.now) (g.K.Keeper.Keeps c.forget.new.self) _ c.args.machine.now c.args.frame c.args.function c.args.names c.args.number
    (actuals_in c.args.machine.now c.args.frame.base (length c.formals-formals.result.now) c.args.names) _
    c.name.result (numbers c.formals-formals.result.now) (all_seen c.args.heap.now c.as_slice.result.now) c.requires.given c.requires.first c.requires.step
    (formals_read (around c.args.heap.now c.args.world.now c.args._terms.now c.args._syms.now c.args._limit) c.args.function.0 _ c.abstract_at-of.ensures _ c.formals-formals.ensures)
    (actuals_read (around c.args.heap.now c.args.world.now c.args._terms.now c.args._syms.now c.args._limit) c.args.function.0 _ c.abstract_at-of.ensures _ c.formals-formals.ensures c.args.machine.now c.args.frame.base c.args.names _ (c.as_slice.ensures ∙ ap (λ (m : Machine). m.actuals) c.in_ok-take_actuals.ensures))
    (ap (λ v. is_nil by_number (object_of by_number v)) (single_cell c.args.heap.now c.args.machine.now.given) ∙ c.requires.fails)
    (name_read (around c.args.heap.now c.args.world.now c.args._terms.now c.args._syms.now c.args._limit) c.args.function.0 _ c.abstract_at-of.ensures _ c.name.ensures)
    (ap (all_seen c.args.heap.now) (sym (c.as_slice.ensures ∙ ap (λ (m : Machine). m.actuals) c.in_ok-take_actuals.ensures)))
    (λ k l j ls b. c.forget.ensures.keeps _ j ls (c.hand_back.ensures.keeps k l (j ∷ ls) b))
    (c.deny.ensures ∙ ap (denied c.name.result c.args.names c.args.number c.args.frame.base) c.in_ok-take_actuals.ensures)

pub returns-clause-sound : goal.returns-clause-sound
returns-clause-sound g c =
    denied_sound _ _ c.args.machine.now _ (actuals_in c.args.machine.now c.args.frame.base (length c.formals-formals.result.now) c.args.names) c.name.result c.args.names c.args.number c.args.frame.base c.requires.sound
    (actuals_whole _ _ c.args.machine.now c.args.frame.base (length c.formals-formals.result.now) c.args.names c.requires.sound.values)
    (c.deny.ensures ∙ ap (denied c.name.result c.args.names c.args.number c.args.frame.base) c.in_ok-take_actuals.ensures)

pub returns-clause-keeper_sound : goal.returns-clause-keeper_sound
returns-clause-keeper_sound g c = c.forget.ensures.sound _ _ _ (c.hand_back.ensures.sound _ _ _ c.requires.keeper)
