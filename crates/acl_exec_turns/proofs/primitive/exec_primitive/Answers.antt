use Rattle.std.proofs.Common.{rules, ◌≡◌, [], ◌∷◌}
use Rattle.model_eval.specs.Variables.{ordinary}
use Rattle.acl_prims.specs.Made.{objects_of}
use Rattle.acl_terms.specs.declared.outcome.Shown.TheVariants as shown
use Rattle.acl_keep.specs.Seen.{all_seen}
use Rattle.acl_machine.specs.Cells.{cells_from}
use Rattle.acl_export_turns.specs.Steps.{inside_of, stopped_inside}
use Rattle.acl_exec_turns.specs.Steps.{called, given_inside, halt_of}
use Rattle.acl_exec_turns.proofs.PrimitiveLemmas.{exec_gives, exec_stops}
use Rattle.acl_exec_turns.proofs.SoundLemmas.{given_sound, stopped_sound}
use Rattle.acl_exec_turns.proofs.primitive.exec_primitive.Goals as goal

pub returns-in-Ok-clause-turns : goal.returns-in-Ok-clause-turns
returns-in-Ok-clause-turns g c =
    let objects : objects_of c.args.heap.now c.as_slice.result.now ≡ ordinary (all_seen c.args.heap.now (cells_from c.args.machine.now.values c.args.frame.base c.args.export.count)) = search rules in
    let after : c.give_inside.new.machine ≡ given_inside (inside_of c.args.export.name c.args.export.count c.args.names c.args.number c.args.machine.now) (shown.Value c.in-Ok.word ∷ []) c.args.frame.base (called c.args.frame.base c.args.export.count c.args.names c.args.machine.now) = search rules in
    exec_gives g.K.Keeper.keeping _ c.args.machine.now c.args.frame c.args._function c.args.names c.args.number (g.K.Keeper.Keeps c.args.keeper.now) (g.K.Keeper.Keeps c.begin_export.new.self) _
    c.args.export.name c.args.export.exec c.args.export.count c.args._exec c.args.name c.args.row c.args._arity _ _ c.in-Ok.word c.as_slice.result.now
    c.requires.given c.requires.first c.requires.step c.requires.left c.requires.few c.requires.export c.requires.number c.requires.is c.worlds_are_seen.ensures
    (record { values = c.requires.sound.values; loans = c.requires.sound.loans; terms = c.requires.terms; world = c.requires.world }) c.apply.ensures.grows.heap c.apply.ensures.packages objects c.in-Ok.ensures.answer.gives c.begin_export.ensures.keeps after

pub returns-clause-turns : goal.returns-clause-turns
returns-clause-turns g c =
    let objects : objects_of c.args.heap.now c.as_slice.result.now ≡ ordinary (all_seen c.args.heap.now (cells_from c.args.machine.now.values c.args.frame.base c.args.export.count)) = search rules in
    let after : c.stop_inside.new.machine ≡ stopped_inside (inside_of c.args.export.name c.args.export.count c.args.names c.args.number c.args.machine.now) (halt_of c.in-Err.stop c.args.name) c.args.frame.base (called c.args.frame.base c.args.export.count c.args.names c.args.machine.now) = search rules in
    exec_stops g.K.Keeper.keeping _ c.args.machine.now c.args.frame c.args._function c.args.names c.args.number (g.K.Keeper.Keeps c.args.keeper.now) (g.K.Keeper.Keeps c.begin_export-in-Err.new.self) _
    c.args.export.name c.args.export.exec c.args.export.count c.args._exec c.args.name c.args.row c.args._arity _ _ c.in-Err.stop c.as_slice.result.now
    c.requires.given c.requires.first c.requires.step c.requires.left c.requires.few c.requires.export c.requires.number c.requires.is c.worlds_are_seen.ensures
    (record { values = c.requires.sound.values; loans = c.requires.sound.loans; terms = c.requires.terms; world = c.requires.world }) c.apply.ensures.grows.heap c.in-Err.ensures.err objects c.in-Err.ensures.answer c.in_ok-why-in-Err.ensures.stops c.begin_export-in-Err.ensures.keeps after

pub returns-in-Ok-clause-sound : goal.returns-in-Ok-clause-sound
returns-in-Ok-clause-sound g c =
    let after : c.give_inside.new.machine ≡ given_inside (inside_of c.args.export.name c.args.export.count c.args.names c.args.number c.args.machine.now) (shown.Value c.in-Ok.word ∷ []) c.args.frame.base (called c.args.frame.base c.args.export.count c.args.names c.args.machine.now) = search rules in
    given_sound _ _ _ _ c.args.machine.now _ c.apply.ensures.grows c.requires.sound (inside_of c.args.export.name c.args.export.count c.args.names c.args.number c.args.machine.now) c.in-Ok.word c.args.frame.base c.args.export.count c.args.names c.in-Ok.ensures.whole after

pub returns-clause-sound : goal.returns-clause-sound
returns-clause-sound g c =
    let after : c.stop_inside.new.machine ≡ stopped_inside (inside_of c.args.export.name c.args.export.count c.args.names c.args.number c.args.machine.now) (halt_of c.in-Err.stop c.args.name) c.args.frame.base (called c.args.frame.base c.args.export.count c.args.names c.args.machine.now) = search rules in
    stopped_sound _ _ _ _ c.args.machine.now _ c.apply.ensures.grows c.requires.sound (inside_of c.args.export.name c.args.export.count c.args.names c.args.number c.args.machine.now) (halt_of c.in-Err.stop c.args.name) c.args.frame.base c.args.export.count c.args.names after
