use Rattle.model_eval.specs.Variables.{ordinary}
use Rattle.acl_keep.specs.Seen.{all_seen}
use Rattle.acl_list_parts.specs.Parts.{list_given}
use Rattle.acl_list_calls.proofs.WriteLemmas.{scalar_changed, hash_changed, child_changed, children_changed}
use Rattle.acl_list_calls.proofs.writing.update.Goals as goal

pub returns-in_ok-done-in-Scalar-clause-is : goal.returns-in_ok-done-in-Scalar-clause-is
returns-in_ok-done-in-Scalar-clause-is c =
    scalar_changed c.args.heap.now c.args.heap.now c.put_scalar.new.lists c.args.shape c.args.place.field (ordinary (all_seen c.args.heap.now c.args.values.now)) (list_given c.args.lists.now c.args.place.list) _ _ c.in_ok-done-in-Scalar.done c.in-Scalar.is c.in_ok-done-in-Scalar.ensures.is

pub returns-in-Hash-clause-is : goal.returns-in-Hash-clause-is
returns-in-Hash-clause-is c = hash_changed c.args.heap.now c.args.heap.now c.args.lists.now c.args.shape c.args.place.field (ordinary (all_seen c.args.heap.now c.args.values.now)) (list_given c.args.lists.now c.args.place.list) _ c.in-Hash.is

pub returns-in-Child-clause-is : goal.returns-in-Child-clause-is
returns-in-Child-clause-is c = child_changed c.args.heap.now c.args.heap.now c.args.lists.now c.args.shape c.args.place.field (ordinary (all_seen c.args.heap.now c.args.values.now)) (list_given c.args.lists.now c.args.place.list) _ c.in-Child.is

pub returns-in-Children-clause-is : goal.returns-in-Children-clause-is
returns-in-Children-clause-is c = children_changed c.args.heap.now c.args.heap.now c.args.lists.now c.args.shape c.args.place.field (ordinary (all_seen c.args.heap.now c.args.values.now)) (list_given c.args.lists.now c.args.place.list) _ _ c.in-Children.is
