use Rattle.model_eval.specs.Variables.{ordinary}
use Rattle.acl_keep.specs.Seen.{all_seen}
use Rattle.acl_list_parts.specs.Parts.{list_given}
use Rattle.model_prims.specs.Kinds.{by_number}
use Rattle.model_prims.specs.Applied.{argument}
use Rattle.acl_heap.specs.Objects.{object_of}
use Rattle.acl_list_calls.proofs.WriteLemmas.{length_put}
use Rattle.acl_list_calls.proofs.writing.put_length.Goals as goal

pub returns-in_ok-list-in-Some-clause-is : goal.returns-in_ok-list-in-Some-clause-is
returns-in_ok-list-in-Some-clause-is c =
    length_put c.args.heap.now c.args.heap.now c.args.lists.now c.number.new.lists c.value.new.self c.resized.new.self c.with_item.new.lists (argument by_number (ordinary (all_seen c.args.heap.now c.args.values.now)) 0) (object_of c.args.heap.now c.args.initial) c.args.resizable c.is_up_to-fits.result
    c.args.place.list c.item-field.result c.in_ok-list-in-Some.list c.in_ok-old-in-Some.old c.in_ok-fill-in-Some.fill c.in_ok-new-in-Some.new c.args.place.field c.in-Some.count c.argument-wanted.result
    c.argument-wanted.ensures.is c.is_up_to-fits.ensures c.if-not-passes.false c.in-Some.ensures.some c.item-field.ensures.is c.in_ok-old-in-Some.ensures.is c.in_ok-old-in-Some.ensures.within
    c.in_ok-fill-in-Some.ensures.is c.in_ok-new-in-Some.ensures.is c.in_ok-old-in-Some.ensures.grows c.in_ok-fill-in-Some.ensures.grows c.in_ok-new-in-Some.ensures.grows c.requires.place
    c.in_ok-list-in-Some.ensures.within c.in_ok-list-in-Some.ensures.is
