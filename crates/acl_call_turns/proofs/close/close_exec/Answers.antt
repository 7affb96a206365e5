use Rattle.std.proofs.Common.{rules, ◌≡◌, ◌∙◌, ◌+◌, ap, map, length, None, Some, subst}
use Rattle.acl_terms.specs.Forms.{numbers}
use Rattle.acl_keep.specs.Seen.{all_seen}
use Rattle.acl_machine.specs.Actuals.{outer_shown}
use Rattle.acl_call_turns.specs.Calls.{formals_at, actuals_for, HandsOver, HandsBack}
use Rattle.acl_machine.specs.Actuals.{actuals_in}
use Rattle.acl_call_turns.specs.Calls.{dropping}
use Rattle.acl_call_turns.proofs.CloseLemmas.{Abandons, closes_exec, may_then}
use Rattle.acl_call_turns.proofs.SoundLemmas.{exec_sound}
use Rattle.acl_call_turns.proofs.close.close_exec.Goals as goal

pub returns-clause-turns : goal.returns-clause-turns
returns-clause-turns g c =
    let actuals : c.as_slice.result.now ≡ actuals_for c.args.world.now c.args.function c.args.frame.base c.args.names c.args.machine.now = search rules in
    let back : HandsBack g.K.Keeper.keeping (g.K.Keeper.Keeps c.args.keeper.now) (g.K.Keeper.Keeps c.hand_back.new.self) (numbers (formals_at c.args.world.now c.args.function)) (all_seen c.args.heap.now (actuals_for c.args.world.now c.args.function c.args.frame.base c.args.names c.args.machine.now)) =
    subst (λ xs. HandsBack g.K.Keeper.keeping (g.K.Keeper.Keeps c.args.keeper.now) (g.K.Keeper.Keeps c.hand_back.new.self) (numbers (formals_at c.args.world.now c.args.function)) (all_seen c.args.heap.now xs)) actuals
    (subst (λ fs. HandsBack g.K.Keeper.keeping (g.K.Keeper.Keeps c.args.keeper.now) (g.K.Keeper.Keeps c.hand_back.new.self) (numbers fs) (all_seen c.args.heap.now c.as_slice.result.now)) c.formals_of-formals.ensures c.hand_back.ensures.keeps) in
    let outer : c.as_slice-2.result.now ≡ actuals_in (dropping c.args.names c.args.machine.now) c.args.frame.base c.args.export.count c.args.export.names = search rules in
    closes_exec g.K.Keeper.keeping (g.K.Keeper.Keeps c.args.keeper.now) (g.K.Keeper.Keeps c.abandon.new.self) _ c.args.machine.now c.args.frame c.args.function c.args.names c.args._why c.args.export
    c.requires.stopped c.requires.first c.requires.step (g.K.Keeper.Keeps c.hand_back.new.self) back
    (subst (λ xs. Abandons g.K.Keeper.keeping (g.K.Keeper.Keeps c.hand_back.new.self) (g.K.Keeper.Keeps c.abandon.new.self) (all_seen c.args.heap.now xs)) outer c.abandon.ensures.keeps) _ (search rules)

pub returns-clause-sound : goal.returns-clause-sound
returns-clause-sound g c = exec_sound _ _ c.args.machine.now c.args.export c.args.names (actuals_for c.args.world.now c.args.function c.args.frame.base c.args.names c.args.machine.now) (actuals_in (dropping c.args.names c.args.machine.now) c.args.frame.base c.args.export.count c.args.export.names) c.requires.sound _ (search rules)
