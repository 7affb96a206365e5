use Rattle.model_eval.specs.Variables.{ordinary}
use Rattle.acl_keep.specs.Seen.{all_seen}
use Rattle.acl_list_parts.specs.Parts.{list_given}
use Rattle.model_prims.specs.Kinds.{by_number}
use Rattle.model_prims.specs.Applied.{argument}
use Rattle.acl_heap.specs.Objects.{object_of}
use Rattle.acl_list_calls.proofs.WriteLemmas.{element_put}
use Rattle.acl_list_calls.proofs.writing.put_element.Goals as goal

pub returns-clause-is : goal.returns-clause-is
returns-clause-is c =
    element_put c.args.heap.now c.args.heap.now c.args.lists.now c.value.new.self c.put_child.new.lists (object_of c.args.heap.now c.args.spec) (argument by_number (ordinary (all_seen c.args.heap.now c.args.values.now)) 0) (argument by_number (ordinary (all_seen c.args.heap.now c.args.values.now)) 1)
    c.is_index-reached.result c.in_ok-fits.fits c.size-count.result c.args.place.list c.item-field.result c.in_ok-list.list c.in_ok-value.value c.args.place.field c.argument-index.result c.argument-new.result
    c.argument-index.ensures.is c.argument-new.ensures.is c.size-count.ensures c.item-field.ensures.is c.is_index-reached.ensures c.in_ok-fits.ensures.is c.if-not-passes.false c.in_ok-value.ensures.is
    c.in_ok-value.ensures.grows c.requires.place c.in_ok-list.ensures.within c.in_ok-list.ensures.is
