use Rattle.std.proofs.Common.{rules, ◌≡◌, ◌∙◌, ◌+◌, ap, map, length, None, Some, subst}
use Rattle.acl_terms.specs.Forms.{numbers}
use Rattle.acl_keep.specs.Seen.{all_seen}
use Rattle.acl_machine.specs.Actuals.{outer_shown}
use Rattle.acl_call_turns.specs.Calls.{formals_at, actuals_for, HandsOver, HandsBack}
use Rattle.acl_machine.specs.Actuals.{actuals_in}
use Rattle.acl_call_turns.proofs.CloseLemmas.{Abandons, closes_export, may_now}
use Rattle.acl_call_turns.proofs.SoundLemmas.{export_sound}
use Rattle.acl_call_turns.proofs.close.close_export.Goals as goal

pub returns-clause-turns : goal.returns-clause-turns
returns-clause-turns g c =
    let outer : c.as_slice.result.now ≡ actuals_in c.args.machine.now c.args.frame.base c.args.export.count c.args.export.names = search rules in
    closes_export g.K.Keeper.keeping (g.K.Keeper.Keeps c.args.keeper.now) (g.K.Keeper.Keeps c.abandon.new.self) _ c.args.machine.now c.args.frame c.args.export c.args._why
    c.requires.stopped c.requires.first c.requires.step
    (subst (λ xs. Abandons g.K.Keeper.keeping (g.K.Keeper.Keeps c.args.keeper.now) (g.K.Keeper.Keeps c.abandon.new.self) (all_seen c.args.heap.now xs)) outer c.abandon.ensures.keeps) _ (search rules)

pub returns-clause-sound : goal.returns-clause-sound
returns-clause-sound g c = export_sound _ _ c.args.machine.now c.args.export (actuals_in c.args.machine.now c.args.frame.base c.args.export.count c.args.export.names) c.requires.sound _ (search rules)
