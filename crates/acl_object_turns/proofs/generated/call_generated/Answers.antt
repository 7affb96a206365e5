use Rattle.std.proofs.Common.{rules, ◌≡◌, ◌+◌, subst}
use Rattle.acl_worlds.specs.Contents.{seen_world}
use Rattle.acl_keep.specs.Calls.{IsAnswered}
use Rattle.acl_machine.specs.Cells.{cells_from}
use Rattle.acl_object_turns.specs.Steps.{given_by}
use Rattle.acl_object_turns.proofs.CallLemmas.{calls_generated, before_answer, call_of, sound_answered}
use Rattle.acl_object_turns.proofs.generated.call_generated.Goals as goal

pub returns-clause-turns : goal.returns-clause-turns
returns-clause-turns g c =
    let same : c.actuals-actuals.result.now ≡ cells_from c.args.machine.now.values (c.args.frame.base + c.args.at) c.args.count = search rules in
    let after : c.answer.new.machine ≡ given_by c.call-effect.result c.args.function.now.name c.args.count ((c.args.machine.now.outer + 1) + 1) (before_answer (c.args.frame.base + c.args.at) c.args.count c.args.machine.now) = search rules in
    calls_generated g.K.Keeper.keeping _ _ _ c.prepare.new.heap _ _ _ _ _ _ c.args.function.now c.call-effect.result c.requires.given c.requires.first c.requires.step c.requires.left c.requires.is c.worlds_are_seen.ensures
    (record { values = c.requires.sound.values; loans = c.requires.sound.loans; terms = c.requires.terms; world = c.requires.world }) c.prepare.ensures.grows
    (λ kept ls p. subst (λ vs. IsAnswered g.K.Keeper.keeping (g.K.Keeper.Keeps c.call-effect.new.self) c.prepare.new.heap (call_of c.prepare.new.heap (seen_world c.prepare.new.heap c.args.world.now) c.args.function.now vs) c.call-effect.result kept ls) same
    (c.call-effect.ensures.answers kept ls (c.prepare.ensures.keeps kept ls p))) after

pub returns-clause-sound : goal.returns-clause-sound
returns-clause-sound g c =
    let after : c.answer.new.machine ≡ given_by c.call-effect.result c.args.function.now.name c.args.count ((c.args.machine.now.outer + 1) + 1) (before_answer (c.args.frame.base + c.args.at) c.args.count c.args.machine.now) = search rules in
    sound_answered _ _ _ c.call-effect.result c.args.function.now.name (c.args.frame.base + c.args.at) c.args.count c.args.machine.now _ c.prepare.ensures.grows c.requires.sound c.call-effect.ensures.whole after
