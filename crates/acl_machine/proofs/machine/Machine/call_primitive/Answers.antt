use Rattle.std.proofs.Common.{rules, ◌≡◌, ◌+◌, [], ◌∷◌, None, refl, subst}
use Rattle.model_prims.specs.Applied as prims
use Rattle.model_prims.specs.Applied.{applied}
use Rattle.model_prims.specs.Rows as rows
use Rattle.acl_numbers.specs.Answers.{IsStop}
use Rattle.acl_numbers.specs.declared.stops.PrimStop.TheVariants as prim_stop
use Rattle.model_eval.specs.Variables.{ordinary}
use Rattle.acl_prims.specs.Made.{objects_of}
use Rattle.acl_terms.specs.declared.outcome.Shown.TheVariants as shown
use Rattle.acl_keep.specs.Seen.{all_seen}
use Rattle.acl_machine.specs.declared.frame.Step.TheVariants as step
use Rattle.acl_machine.specs.declared.frame.Halt.TheVariants as halt
use Rattle.acl_machine.specs.Cells.{cells_from}
use Rattle.acl_machine.specs.Steps.{counted, stopped, giving, holding, replaced}
use Rattle.acl_machine.proofs.PrimLemmas.{primitive_gives, primitive_stops}
use Rattle.acl_machine.proofs.SoundLemmas.{sound_gives, sound_stops}
use Rattle.acl_machine.proofs.machine.Machine.call_primitive.Goals as goal

pub returns-in-Ok-clause-turns : goal.returns-in-Ok-clause-turns
returns-in-Ok-clause-turns g c =
    let objects : objects_of c.args.heap.now c.as_slice.result.now ≡ ordinary (all_seen c.args.heap.now (cells_from c.args.self.now.values (c.args.frame.base + c.args.at) c.args.count)) = search rules in
    let after : c.give_result.new.self ≡ giving (shown.Value c.in-Ok.word ∷ []) (counted (replaced (step.Last None) (c.args.frame.base + c.args.at) c.args.self.now)) = search rules in
    primitive_gives g.K.Keeper.keeping _ _ _ _ _ _ _ _ _ _ _ c.in-Ok.word c.as_slice.result.now c.requires.given c.requires.first c.requires.step c.requires.left c.requires.is c.worlds_are_seen.ensures
    (record { values = c.requires.sound.values; loans = c.requires.sound.loans; terms = c.requires.terms; world = c.requires.world }) c.apply.ensures.grows.heap c.apply.ensures.packages objects c.in-Ok.ensures.answer.gives _ after

pub returns-in-Err-Guard-clause-turns : goal.returns-in-Err-Guard-clause-turns
returns-in-Err-Guard-clause-turns g c =
    let is : c.in-Err-Guard.field-0 ≡ prim_stop.Guard = search rules in
    let objects : objects_of c.args.heap.now c.as_slice.result.now ≡ ordinary (all_seen c.args.heap.now (cells_from c.args.self.now.values (c.args.frame.base + c.args.at) c.args.count)) = search rules in
    let after : c.stop_call.new.self ≡ stopped (halt.Guard c.args.name) (counted (holding (cells_from c.args.self.now.values (c.args.frame.base + c.args.at) c.args.count) (replaced (step.Last None) (c.args.frame.base + c.args.at) c.args.self.now))) = search rules in
    primitive_stops g.K.Keeper.keeping _ _ _ _ _ _ _ _ _ _ _ prims.Guard (halt.Guard c.args.name) c.as_slice.result.now c.requires.given c.requires.first c.requires.step c.requires.left c.requires.is c.worlds_are_seen.ensures
    (record { values = c.requires.sound.values; loans = c.requires.sound.loans; terms = c.requires.terms; world = c.requires.world }) c.apply.ensures.grows.heap c.in-Err-Guard.ensures.err objects (subst (IsStop (applied c.args.syms.now (rows.prim_of c.args.row) (objects_of c.args.heap.now c.as_slice.result.now))) is c.in-Err-Guard.ensures.answer) refl _ after

pub returns-in-Err-Range-clause-turns : goal.returns-in-Err-Range-clause-turns
returns-in-Err-Range-clause-turns g c =
    let is : c.in-Err-Range.field-0 ≡ prim_stop.Range = search rules in
    let objects : objects_of c.args.heap.now c.as_slice.result.now ≡ ordinary (all_seen c.args.heap.now (cells_from c.args.self.now.values (c.args.frame.base + c.args.at) c.args.count)) = search rules in
    let after : c.stop_call-in-Err-Range.new.self ≡ stopped (halt.Range c.args.name) (counted (holding (cells_from c.args.self.now.values (c.args.frame.base + c.args.at) c.args.count) (replaced (step.Last None) (c.args.frame.base + c.args.at) c.args.self.now))) = search rules in
    primitive_stops g.K.Keeper.keeping _ _ _ _ _ _ _ _ _ _ _ prims.Range (halt.Range c.args.name) c.as_slice.result.now c.requires.given c.requires.first c.requires.step c.requires.left c.requires.is c.worlds_are_seen.ensures
    (record { values = c.requires.sound.values; loans = c.requires.sound.loans; terms = c.requires.terms; world = c.requires.world }) c.apply.ensures.grows.heap c.in-Err-Range.ensures.err objects (subst (IsStop (applied c.args.syms.now (rows.prim_of c.args.row) (objects_of c.args.heap.now c.as_slice.result.now))) is c.in-Err-Range.ensures.answer) refl _ after

pub returns-in-Err-TooLarge-clause-turns : goal.returns-in-Err-TooLarge-clause-turns
returns-in-Err-TooLarge-clause-turns g c =
    let is : c.in-Err-TooLarge.field-0 ≡ prim_stop.TooLarge = search rules in
    let objects : objects_of c.args.heap.now c.as_slice.result.now ≡ ordinary (all_seen c.args.heap.now (cells_from c.args.self.now.values (c.args.frame.base + c.args.at) c.args.count)) = search rules in
    let after : c.stop_call-in-Err-TooLarge.new.self ≡ stopped (halt.Large c.args.name) (counted (holding (cells_from c.args.self.now.values (c.args.frame.base + c.args.at) c.args.count) (replaced (step.Last None) (c.args.frame.base + c.args.at) c.args.self.now))) = search rules in
    primitive_stops g.K.Keeper.keeping _ _ _ _ _ _ _ _ _ _ _ prims.Large (halt.Large c.args.name) c.as_slice.result.now c.requires.given c.requires.first c.requires.step c.requires.left c.requires.is c.worlds_are_seen.ensures
    (record { values = c.requires.sound.values; loans = c.requires.sound.loans; terms = c.requires.terms; world = c.requires.world }) c.apply.ensures.grows.heap c.in-Err-TooLarge.ensures.err objects (subst (IsStop (applied c.args.syms.now (rows.prim_of c.args.row) (objects_of c.args.heap.now c.as_slice.result.now))) is c.in-Err-TooLarge.ensures.answer) refl _ after

pub returns-in-Err-SymbolLimit-clause-turns : goal.returns-in-Err-SymbolLimit-clause-turns
returns-in-Err-SymbolLimit-clause-turns g c =
    let is : c.in-Err-SymbolLimit.field-0 ≡ prim_stop.SymbolLimit = search rules in
    let objects : objects_of c.args.heap.now c.as_slice.result.now ≡ ordinary (all_seen c.args.heap.now (cells_from c.args.self.now.values (c.args.frame.base + c.args.at) c.args.count)) = search rules in
    let after : c.stop_call-in-Err-SymbolLimit.new.self ≡ stopped (halt.Symbols c.args.name) (counted (holding (cells_from c.args.self.now.values (c.args.frame.base + c.args.at) c.args.count) (replaced (step.Last None) (c.args.frame.base + c.args.at) c.args.self.now))) = search rules in
    primitive_stops g.K.Keeper.keeping _ _ _ _ _ _ _ _ _ _ _ prims.Symbols (halt.Symbols c.args.name) c.as_slice.result.now c.requires.given c.requires.first c.requires.step c.requires.left c.requires.is c.worlds_are_seen.ensures
    (record { values = c.requires.sound.values; loans = c.requires.sound.loans; terms = c.requires.terms; world = c.requires.world }) c.apply.ensures.grows.heap c.in-Err-SymbolLimit.ensures.err objects (subst (IsStop (applied c.args.syms.now (rows.prim_of c.args.row) (objects_of c.args.heap.now c.as_slice.result.now))) is c.in-Err-SymbolLimit.ensures.answer) refl _ after

pub returns-in-Ok-clause-sound : goal.returns-in-Ok-clause-sound
returns-in-Ok-clause-sound g c =
    let after : c.give_result.new.self ≡ giving (shown.Value c.in-Ok.word ∷ []) (counted (replaced (step.Last None) (c.args.frame.base + c.args.at) c.args.self.now)) = search rules in
    sound_gives _ _ _ _ c.args.self.now _ (step.Last None) (c.args.frame.base + c.args.at) c.in-Ok.word c.apply.ensures.grows c.requires.sound c.in-Ok.ensures.whole after

pub returns-in-Err-Guard-clause-sound : goal.returns-in-Err-Guard-clause-sound
returns-in-Err-Guard-clause-sound g c =
    let after : c.stop_call.new.self ≡ stopped (halt.Guard c.args.name) (counted (holding (cells_from c.args.self.now.values (c.args.frame.base + c.args.at) c.args.count) (replaced (step.Last None) (c.args.frame.base + c.args.at) c.args.self.now))) = search rules in
    sound_stops _ _ _ _ c.args.self.now _ (step.Last None) (c.args.frame.base + c.args.at) (c.args.frame.base + c.args.at) c.args.count (halt.Guard c.args.name) c.apply.ensures.grows c.requires.sound after

pub returns-in-Err-Range-clause-sound : goal.returns-in-Err-Range-clause-sound
returns-in-Err-Range-clause-sound g c =
    let after : c.stop_call-in-Err-Range.new.self ≡ stopped (halt.Range c.args.name) (counted (holding (cells_from c.args.self.now.values (c.args.frame.base + c.args.at) c.args.count) (replaced (step.Last None) (c.args.frame.base + c.args.at) c.args.self.now))) = search rules in
    sound_stops _ _ _ _ c.args.self.now _ (step.Last None) (c.args.frame.base + c.args.at) (c.args.frame.base + c.args.at) c.args.count (halt.Range c.args.name) c.apply.ensures.grows c.requires.sound after

pub returns-in-Err-TooLarge-clause-sound : goal.returns-in-Err-TooLarge-clause-sound
returns-in-Err-TooLarge-clause-sound g c =
    let after : c.stop_call-in-Err-TooLarge.new.self ≡ stopped (halt.Large c.args.name) (counted (holding (cells_from c.args.self.now.values (c.args.frame.base + c.args.at) c.args.count) (replaced (step.Last None) (c.args.frame.base + c.args.at) c.args.self.now))) = search rules in
    sound_stops _ _ _ _ c.args.self.now _ (step.Last None) (c.args.frame.base + c.args.at) (c.args.frame.base + c.args.at) c.args.count (halt.Large c.args.name) c.apply.ensures.grows c.requires.sound after

pub returns-in-Err-SymbolLimit-clause-sound : goal.returns-in-Err-SymbolLimit-clause-sound
returns-in-Err-SymbolLimit-clause-sound g c =
    let after : c.stop_call-in-Err-SymbolLimit.new.self ≡ stopped (halt.Symbols c.args.name) (counted (holding (cells_from c.args.self.now.values (c.args.frame.base + c.args.at) c.args.count) (replaced (step.Last None) (c.args.frame.base + c.args.at) c.args.self.now))) = search rules in
    sound_stops _ _ _ _ c.args.self.now _ (step.Last None) (c.args.frame.base + c.args.at) (c.args.frame.base + c.args.at) c.args.count (halt.Symbols c.args.name) c.apply.ensures.grows c.requires.sound after
