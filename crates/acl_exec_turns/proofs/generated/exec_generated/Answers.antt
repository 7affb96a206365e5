use Rattle.std.proofs.Common.{rules, ◌≡◌, subst}
use Rattle.acl_worlds.specs.Contents.{seen_world}
use Rattle.acl_keep.specs.Calls.{IsAnswered}
use Rattle.acl_machine.specs.Actuals.{actuals_in}
use Rattle.acl_object_turns.proofs.CallLemmas.{call_of}
use Rattle.acl_export_turns.specs.Steps.{inside_of}
use Rattle.acl_exec_turns.specs.Steps.{called, answered_inside, with_two}
use Rattle.acl_exec_turns.proofs.GeneratedLemmas.{may_run, exec_answers}
use Rattle.acl_exec_turns.proofs.KeepLemmas.{cancels}
use Rattle.acl_exec_turns.proofs.SoundLemmas.{actuals_words, answered_sound}
use Rattle.acl_exec_turns.proofs.generated.exec_generated.Goals as goal

pub prepare-requires-clause-whole : goal.prepare-requires-clause-whole
prepare-requires-clause-whole g c = actuals_words _ _ c.args.machine.now c.args.frame.base c.args.export.count c.args.names c.as_slice-actuals.result.now c.requires.sound (search rules)

pub prepare-requires-clause-may : goal.prepare-requires-clause-may
prepare-requires-clause-may g c =
    may_run g.K.Keeper.keeping g.K.Keeper.MayCall (g.K.Keeper.Keeps c.args.keeper.now) (g.K.Keeper.Keeps c.begin_export.new.self) c.args.heap.now c.args.world.now c.args._function c.args._exec c.args.generated.now c.args.machine.now c.args.frame.base c.args.names
    c.args.export.name c.args.export.exec c.args.export.count c.as_slice-actuals.result.now c.requires.may c.requires.few c.requires.export c.requires.number c.requires.is (search rules) c.begin_export.ensures.keeps

pub returns-in-Ok-clause-turns : goal.returns-in-Ok-clause-turns
returns-in-Ok-clause-turns g c =
    let same : c.as_slice-actuals.result.now ≡ actuals_in c.args.machine.now c.args.frame.base c.args.export.count c.args.names = search rules in
    let after : c.answer.new.machine ≡ answered_inside c.call-effect.result c.args.generated.now.name (inside_of c.args.export.name c.args.export.count c.args.names c.args.number c.args.machine.now) c.args.frame.base (with_two (called c.args.frame.base c.args.export.count c.args.names c.args.machine.now)) = search rules in
    exec_answers g.K.Keeper.keeping (g.K.Keeper.Keeps c.args.keeper.now) (g.K.Keeper.Keeps c.begin_export.new.self) (g.K.Keeper.Keeps c.call-effect.new.self) _ c.prepare.new.heap c.args.machine.now _ c.args.frame c.args._function c.args.names c.args.number
    c.args.export.name c.args.export.exec c.args.export.count c.args._exec c.args.generated.now c.call-effect.result
    c.requires.given c.requires.first c.requires.step c.requires.left c.requires.few c.requires.export c.requires.number c.requires.is c.worlds_are_seen.ensures
    (record { values = c.requires.sound.values; loans = c.requires.sound.loans; terms = c.requires.terms; world = c.requires.world }) c.prepare.ensures.grows c.begin_export.ensures.keeps
    (λ kept ls p. subst (λ vs. IsAnswered g.K.Keeper.keeping (g.K.Keeper.Keeps c.call-effect.new.self) c.prepare.new.heap (call_of c.prepare.new.heap (seen_world c.prepare.new.heap c.args.world.now) c.args.generated.now vs) c.call-effect.result kept ls) same
    (c.call-effect.ensures.answers kept ls (c.prepare.ensures.keeps kept ls p))) after

pub returns-in-Ok-clause-sound : goal.returns-in-Ok-clause-sound
returns-in-Ok-clause-sound g c =
    let after : c.answer.new.machine ≡ answered_inside c.call-effect.result c.args.generated.now.name (inside_of c.args.export.name c.args.export.count c.args.names c.args.number c.args.machine.now) c.args.frame.base (with_two (called c.args.frame.base c.args.export.count c.args.names c.args.machine.now)) = search rules in
    answered_sound _ _ _ c.args.machine.now _ c.call-effect.result c.args.generated.now.name (inside_of c.args.export.name c.args.export.count c.args.names c.args.number c.args.machine.now) c.args.frame.base c.args.export.count c.args.names c.prepare.ensures.grows c.requires.sound c.call-effect.ensures.whole after

pub returns-in-Err-clause-err : goal.returns-in-Err-clause-err
returns-in-Err-clause-err g c =
    cancels g.K.Keeper.keeping (g.K.Keeper.Keeps c.args.keeper.now) (g.K.Keeper.Keeps c.begin_export.new.self) (g.K.Keeper.Keeps c.prepare.new.self) (g.K.Keeper.Keeps c.cancel_export.new.self) c.args.machine.now
    c.requires.few c.begin_export.ensures.keeps c.prepare.ensures.keeps c.cancel_export.ensures.keeps
