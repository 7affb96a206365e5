use Rattle.std.proofs.Common.{rules, ◌≡◌, ◌∙◌, ◌+◌, ap, map, length, None, Some, subst}
use Rattle.acl_terms.specs.Forms.{numbers}
use Rattle.acl_keep.specs.Seen.{all_seen}
use Rattle.acl_machine.specs.Actuals.{outer_shown}
use Rattle.acl_call_turns.specs.Calls.{formals_at, actuals_for, HandsOver, HandsBack}
use Rattle.acl_call_turns.proofs.LeaveLemmas.{runs}
use Rattle.acl_call_turns.proofs.SoundLemmas.{running_sound}
use Rattle.acl_call_turns.proofs.leave.run.Goals as goal

pub returns-clause-turns : goal.returns-clause-turns
returns-clause-turns g c =
    let actuals : c.as_slice.result.now ≡ actuals_for c.args.world.now c.args.function c.args.frame.base c.args.names c.args.machine.now = search rules in
    let back : HandsBack g.K.Keeper.keeping (g.K.Keeper.Keeps c.args.keeper.now) (g.K.Keeper.Keeps c.hand_back.new.self) (numbers (formals_at c.args.world.now c.args.function)) (all_seen c.args.heap.now (actuals_for c.args.world.now c.args.function c.args.frame.base c.args.names c.args.machine.now)) =
    subst (λ xs. HandsBack g.K.Keeper.keeping (g.K.Keeper.Keeps c.args.keeper.now) (g.K.Keeper.Keeps c.hand_back.new.self) (numbers (formals_at c.args.world.now c.args.function)) (all_seen c.args.heap.now xs)) actuals
    (subst (λ fs. HandsBack g.K.Keeper.keeping (g.K.Keeper.Keeps c.args.keeper.now) (g.K.Keeper.Keeps c.hand_back.new.self) (numbers fs) (all_seen c.args.heap.now c.as_slice.result.now)) c.formals_of-formals.ensures c.hand_back.ensures.keeps) in
    let again : c.as_slice-2.result.now ≡ actuals_for c.args.world.now c.args.function c.args.frame.base c.args.names c.args.machine.now = search rules in
    let over : HandsOver g.K.Keeper.keeping (g.K.Keeper.Keeps c.hand_back.new.self) (g.K.Keeper.Keeps c.hand_over.new.self) (numbers (formals_at c.args.world.now c.args.function)) (all_seen c.args.heap.now (actuals_for c.args.world.now c.args.function c.args.frame.base c.args.names c.args.machine.now)) =
    subst (λ xs. HandsOver g.K.Keeper.keeping (g.K.Keeper.Keeps c.hand_back.new.self) (g.K.Keeper.Keeps c.hand_over.new.self) (numbers (formals_at c.args.world.now c.args.function)) (all_seen c.args.heap.now xs)) again
    (subst (λ fs. HandsOver g.K.Keeper.keeping (g.K.Keeper.Keeps c.hand_back.new.self) (g.K.Keeper.Keeps c.hand_over.new.self) (numbers fs) (all_seen c.args.heap.now c.as_slice-2.result.now)) c.formals_of-formals.ensures c.in_ok-hand_over.ensures.ok) in
    runs g.K.Keeper.keeping (g.K.Keeper.Keeps c.args.keeper.now) (g.K.Keeper.Keeps c.hand_over.new.self) _ c.args.machine.now c.args.frame c.args.inside c.args.function c.args.names
    c.requires.given c.requires.first c.requires.step c.requires.holds (g.K.Keeper.Keeps c.hand_back.new.self) back over c.body_of.result (search rules) _ (search rules)

pub returns-clause-sound : goal.returns-clause-sound
returns-clause-sound g c = running_sound _ _ c.args.machine.now c.args.inside c.args.function c.args.frame.base c.args.names c.body_of.result (actuals_for c.args.world.now c.args.function c.args.frame.base c.args.names c.args.machine.now) c.requires.sound _ (search rules)
