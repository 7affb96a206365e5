use Rattle.std.proofs.Common.{length, option_map, unwrap_or}
use Rattle.model_lists.specs.Layouts.{field_layout}
use Rattle.model_eval.specs.Variables.{ordinary}
use Rattle.model_eval.specs.StobjLayouts.{stobj_layout}
use Rattle.model_known.proofs.EffectLemmas.{effects_know}
use Rattle.model_known.proofs.WorldLemmas.{worlds_know}
use Rattle.acl_terms.specs.Definitions.{seen_generated}
use Rattle.acl_terms.specs.Growth.{seen_definitions-later}
use Rattle.acl_worlds.specs.Contents.{seen_world}
use Rattle.acl_keep.specs.Seen.{all_seen}
use Rattle.acl_new_lists.specs.Begun.{itself}
use Rattle.acl_list_parts.specs.Parts.{list_given}
use Rattle.acl_list_scope.specs.Scopes.{scope, number_of}
use Rattle.acl_list_scope.proofs.ScopeLemmas.{scope_later}
use Rattle.acl_list_scope.proofs.KeptLemmas.{kept_grown}
use Rattle.acl_list_keeper.proofs.ReadyLemmas.{values_lie, values_known, values_later, ready_is, ready_fits, list_known}
use Rattle.acl_list_keeper.proofs.keeper.prepared.Goals as goal

pub done_by-requires-clause-world : goal.done_by-requires-clause-world
done_by-requires-clause-world c = c.requires.sound.world.lies

pub done_by-requires-clause-accepts : goal.done_by-requires-clause-accepts
done_by-requires-clause-accepts c = c.requires.sound.world.accepts

pub done_by-requires-clause-list : goal.done_by-requires-clause-list
done_by-requires-clause-list c = c.list_for-list.ensures.within c.requires.sound.keeps.within

pub done_by-requires-clause-values : goal.done_by-requires-clause-values
done_by-requires-clause-values c = values_lie c.args._syms.now c.args.heap.now c.args.values.now c.requires.whole

pub returns-in_err-done-clause-keeps : goal.returns-in_err-done-clause-keeps
returns-in_err-done-clause-keeps c k ls i =
    kept_grown c.args.scoped.now.lists c.done_by.new.lists c.args.scoped.now.bindings.items c.args.scoped.now.behind.items k ls c.in_err-done.ensures.lists i

pub returns-clause-keeps : goal.returns-clause-keeps
returns-clause-keeps c k ls i =
    kept_grown c.args.scoped.now.lists c.done_by.new.lists c.args.scoped.now.bindings.items c.args.scoped.now.behind.items k ls c.in_ok-done.ensures.lists i

pub returns-clause-ready : goal.returns-clause-ready
returns-clause-ready c =
    ready_is _ _ c.args.heap.now c.done_by.new.heap c.in_ok-done.done c.first_object-variable.result (seen_world c.args.heap.now c.args.world.now) (seen_world c.done_by.new.heap c.args.world.now) (seen_generated c.args.function.now)
    c.args.values.now (scope c.args.scoped.now.lists c.args.scoped.now.bindings.items) (list_given c.args.scoped.now.lists c.list_for-list.result) c.ready_of.ensures
    (seen_definitions-later c.in_ok-done.ensures.heap c.args.world.now.definitions c.requires.sound.world.lies)
    (values_later c.args.heap.now c.done_by.new.heap c.args.values.now c.in_ok-done.ensures.heap (values_lie c.args._syms.now c.args.heap.now c.args.values.now c.requires.whole))
    (c.first_object-variable.ensures c.args.heap.now)
    (scope_later c.args.scoped.now.lists c.done_by.new.lists c.args.scoped.now.bindings.items c.in_ok-done.ensures.lists c.requires.sound.keeps.within)
    c.list_for-list.ensures.is c.in_ok-done.ensures.is

pub returns-clause-fits : goal.returns-clause-fits
returns-clause-fits c =
    ready_fits c.done_by.new.heap c.done_by.new.lists (length c.args._syms.now.symbols) _ c.in_ok-done.done c.first_object-variable.result _ c.ready_of.ensures c.in_ok-done.ensures.is
    (effects_know (length c.args._syms.now.symbols) c.args.function.now.role (field_layout (unwrap_or c.args.function.now.field 0) (stobj_layout itself (seen_world c.args.heap.now c.args.world.now) c.args.function.now.stobj.0)) (unwrap_or c.args.function.now.field 0)
    (ordinary (all_seen c.args.heap.now c.args.values.now)) (list_given c.args.scoped.now.lists c.list_for-list.result) c.requires.sound.world.some
    (worlds_know.field (length c.args._syms.now.symbols) (unwrap_or c.args.function.now.field 0) (stobj_layout itself (seen_world c.args.heap.now c.args.world.now) c.args.function.now.stobj.0)
    (worlds_know.layout (length c.args._syms.now.symbols) (seen_world c.args.heap.now c.args.world.now) c.args.function.now.stobj.0 c.requires.sound.world.knows))
    (values_known c.args._syms.now c.args.heap.now c.args.values.now c.requires.whole)
    (list_known (length c.args._syms.now.symbols) (scope c.args.scoped.now.lists c.args.scoped.now.bindings.items) c.requires.sound.kept (option_map number_of c.first_object-variable.result)
    (list_given c.args.scoped.now.lists c.list_for-list.result) c.requires.sound.keeps.is c.requires.sound.known c.list_for-list.ensures.is))
