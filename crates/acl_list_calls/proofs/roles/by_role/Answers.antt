use Rattle.std.proofs.Common.{◌≤◌, length, refl, arith}
use Rattle.std.proofs.lemmas.Result.{IfOk-weaker}
use Rattle.model_eval.specs.Variables.{ordinary}
use Rattle.acl_terms.specs.Definitions.{seen_shape}
use Rattle.acl_worlds.specs.Contents.{seen_world}
use Rattle.acl_keep.specs.Seen.{all_seen}
use Rattle.acl_list_parts.specs.Parts.{list_given}
use Rattle.acl_list_calls.proofs.RoleLemmas.{recognizer_done, creator_done, recognize_done, access_done, update_done, length_done, resize_done, get_done, bound_done, both_done, put_done, remove_done, count_done, clear_done}
use Rattle.acl_list_calls.proofs.roles.by_role.Goals as goal

pub returns-in-FieldRecognizer-clause-is : goal.returns-in-FieldRecognizer-clause-is
returns-in-FieldRecognizer-clause-is c = IfOk-weaker c.recognize.result _ _ (λ d i. recognize_done c.args.heap.now c.args.lists.now c.args.role (seen_world c.args.heap.now c.args.world.now) c.args.part.depth (seen_shape c.args.heap.now c.args.part.shape) c.args.place.field (ordinary (all_seen c.args.heap.now c.args.values.now)) (list_given c.args.lists.now c.args.place.list) d c.in-FieldRecognizer.is i) c.recognize.ensures

pub returns-in-Access-clause-is : goal.returns-in-Access-clause-is
returns-in-Access-clause-is c = IfOk-weaker c.access.result _ _ (λ d i. access_done c.access.new.heap c.args.lists.now c.args.role (seen_world c.args.heap.now c.args.world.now) c.args.part.depth (seen_shape c.args.heap.now c.args.part.shape) c.args.place.field (ordinary (all_seen c.args.heap.now c.args.values.now)) (list_given c.args.lists.now c.args.place.list) d c.in-Access.is i) c.access.ensures.is

pub returns-in-Update-clause-is : goal.returns-in-Update-clause-is
returns-in-Update-clause-is c = IfOk-weaker c.update.result _ _ (λ d i. update_done c.args.heap.now c.update.new.lists c.args.role (seen_world c.args.heap.now c.args.world.now) c.args.part.depth (seen_shape c.args.heap.now c.args.part.shape) c.args.place.field (ordinary (all_seen c.args.heap.now c.args.values.now)) (list_given c.args.lists.now c.args.place.list) d c.in-Update.is i) c.update.ensures.is

pub returns-in-Length-clause-is : goal.returns-in-Length-clause-is
returns-in-Length-clause-is c = IfOk-weaker c.measure.result _ _ (λ d i. length_done c.measure.new.heap c.args.lists.now c.args.role (seen_world c.args.heap.now c.args.world.now) c.args.part.depth (seen_shape c.args.heap.now c.args.part.shape) c.args.place.field (ordinary (all_seen c.args.heap.now c.args.values.now)) (list_given c.args.lists.now c.args.place.list) d c.in-Length.is i) c.measure.ensures.is

pub returns-in-Resize-clause-is : goal.returns-in-Resize-clause-is
returns-in-Resize-clause-is c = IfOk-weaker c.resize.result _ _ (λ d i. resize_done c.args.heap.now c.resize.new.lists c.args.role (seen_world c.args.heap.now c.args.world.now) c.args.part.depth (seen_shape c.args.heap.now c.args.part.shape) c.args.place.field (ordinary (all_seen c.args.heap.now c.args.values.now)) (list_given c.args.lists.now c.args.place.list) d c.in-Resize.is i) c.resize.ensures.is

pub returns-in-HashGet-clause-is : goal.returns-in-HashGet-clause-is
returns-in-HashGet-clause-is c = IfOk-weaker c.get.result _ _ (λ d i. get_done c.get.new.heap c.args.lists.now c.args.role (seen_world c.args.heap.now c.args.world.now) c.args.part.depth (seen_shape c.args.heap.now c.args.part.shape) c.args.place.field (ordinary (all_seen c.args.heap.now c.args.values.now)) (list_given c.args.lists.now c.args.place.list) d c.in-HashGet.is i) c.get.ensures.is

pub returns-in-HashBoundp-clause-is : goal.returns-in-HashBoundp-clause-is
returns-in-HashBoundp-clause-is c = IfOk-weaker c.is_bound.result _ _ (λ d i. bound_done c.args.heap.now c.args.lists.now c.args.role (seen_world c.args.heap.now c.args.world.now) c.args.part.depth (seen_shape c.args.heap.now c.args.part.shape) c.args.place.field (ordinary (all_seen c.args.heap.now c.args.values.now)) (list_given c.args.lists.now c.args.place.list) d c.in-HashBoundp.is i) c.is_bound.ensures

pub returns-in-HashGetBound-clause-is : goal.returns-in-HashGetBound-clause-is
returns-in-HashGetBound-clause-is c = IfOk-weaker c.look_up.result _ _ (λ d i. both_done c.look_up.new.heap c.args.lists.now c.args.role (seen_world c.args.heap.now c.args.world.now) c.args.part.depth (seen_shape c.args.heap.now c.args.part.shape) c.args.place.field (ordinary (all_seen c.args.heap.now c.args.values.now)) (list_given c.args.lists.now c.args.place.list) d c.in-HashGetBound.is i) c.look_up.ensures.is

pub returns-in-HashPut-clause-is : goal.returns-in-HashPut-clause-is
returns-in-HashPut-clause-is c = IfOk-weaker c.put.result _ _ (λ d i. put_done c.args.heap.now c.put.new.lists c.args.role (seen_world c.args.heap.now c.args.world.now) c.args.part.depth (seen_shape c.args.heap.now c.args.part.shape) c.args.place.field (ordinary (all_seen c.args.heap.now c.args.values.now)) (list_given c.args.lists.now c.args.place.list) d c.in-HashPut.is i) c.put.ensures.is

pub returns-in-HashRem-clause-is : goal.returns-in-HashRem-clause-is
returns-in-HashRem-clause-is c = IfOk-weaker c.remove.result _ _ (λ d i. remove_done c.args.heap.now c.remove.new.lists c.args.role (seen_world c.args.heap.now c.args.world.now) c.args.part.depth (seen_shape c.args.heap.now c.args.part.shape) c.args.place.field (ordinary (all_seen c.args.heap.now c.args.values.now)) (list_given c.args.lists.now c.args.place.list) d c.in-HashRem.is i) c.remove.ensures.is

pub returns-in-HashCount-clause-is : goal.returns-in-HashCount-clause-is
returns-in-HashCount-clause-is c = IfOk-weaker c.count.result _ _ (λ d i. count_done c.count.new.heap c.args.lists.now c.args.role (seen_world c.args.heap.now c.args.world.now) c.args.part.depth (seen_shape c.args.heap.now c.args.part.shape) c.args.place.field (ordinary (all_seen c.args.heap.now c.args.values.now)) (list_given c.args.lists.now c.args.place.list) d c.in-HashCount.is i) c.count.ensures.is

pub returns-in-HashClear-clause-is : goal.returns-in-HashClear-clause-is
returns-in-HashClear-clause-is c = IfOk-weaker c.clear.result _ _ (λ d i. clear_done c.args.heap.now c.clear.new.lists c.args.role (seen_world c.args.heap.now c.args.world.now) c.args.part.depth (seen_shape c.args.heap.now c.args.part.shape) c.args.place.field (ordinary (all_seen c.args.heap.now c.args.values.now)) (list_given c.args.lists.now c.args.place.list) d c.in-HashClear.is i) c.clear.ensures.is

pub returns-in-Recognizer-clause-is : goal.returns-in-Recognizer-clause-is
returns-in-Recognizer-clause-is c =
    let l : 0 ≤ length c.args.heap.now = omega arith in recognizer_done c.args.heap.now c.args.lists.now c.args.role (seen_world c.args.heap.now c.args.world.now) c.args.part.depth (seen_shape c.args.heap.now c.args.part.shape) c.args.place.field (ordinary (all_seen c.args.heap.now c.args.values.now)) (list_given c.args.lists.now c.args.place.list) _ c.in-Recognizer.is l refl

pub returns-in-Creator-clause-is : goal.returns-in-Creator-clause-is
returns-in-Creator-clause-is c = creator_done c.args.heap.now c.args.lists.now c.args.role (seen_world c.args.heap.now c.args.world.now) c.args.part.depth (seen_shape c.args.heap.now c.args.part.shape) c.args.place.field (ordinary (all_seen c.args.heap.now c.args.values.now)) (list_given c.args.lists.now c.args.place.list) c.in-Creator.is
