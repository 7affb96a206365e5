use Rattle.std.proofs.Common.{arith, map, subst, sym, ap, ◌∙◌, ◌-◌, List}
use Rattle.acl_terms.specs.declared.stobj.FieldDescriptor.{FieldDescriptor}
use Rattle.acl_terms.specs.Definitions.{seen_field, seen_descriptor}
use Rattle.acl_worlds.specs.Contents.{seen_world}
use Rattle.acl_new_lists.specs.Begun.{fields_begun, FieldsLie}
use Rattle.acl_new_lists.proofs.BegunLemmas.{scalar_begun, fields_start, fields_step, still_in, begun_concrete}
use Rattle.acl_new_lists.proofs.putting.+putting.Goals as goal

pub put_field-returns-in_ok-n-in-Scalar-clause-is : goal.put_field-returns-in_ok-n-in-Scalar-clause-is
put_field-returns-in_ok-n-in-Scalar-clause-is t c =
    scalar_begun c.value.new.self c.in_ok-n-in-Scalar.n c.args.heap.now (seen_world c.args.heap.now c.args.world.now) c.args.depth c.args.shape c.in-Scalar.spec c.in-Scalar.initial c.in-Scalar.is c.in_ok-n-in-Scalar.ensures.is

pub put_field-put_stobj-requires : goal.put_field-put_stobj-requires
put_field-put_stobj-requires t c = (omega (arith, c.decreases), c.requires.world)

pub put_field-put_stobj-requires-in-Children : goal.put_field-put_stobj-requires-in-Children
put_field-put_stobj-requires-in-Children t c = (omega (arith, c.decreases), c.requires.world)

pub put_fields-put_field-requires : goal.put_fields-put_field-requires
put_fields-put_field-requires t c = (omega (arith, c.decreases), (c.requires.world, c.field_before-field.ensures.lies))

pub put_fields-loop-done-init : goal.put_fields-loop-done-init
put_fields-loop-done-init t c =
    fields_start c.args.lists.now c.end.new.self c.args.heap.now (seen_world c.args.heap.now c.args.world.now) c.args.depth c.args.fields.now c.in_ok-at.at
    c.in_ok-at.ensures.grows c.in_ok-at.ensures.within c.in_ok-at.ensures.is

pub put_fields-add_item-requires-clause-rest : goal.put_fields-add_item-requires-clause-rest
put_fields-add_item-requires-clause-rest t c =
    still_in c.args.lists.now c.loop-done.lists c.put_field.new.lists c.args.heap.now (seen_world c.args.heap.now c.args.world.now) c.args.depth c.args.fields.now c.loop-done.at c.loop-done.done
    c.loop-done.invariant c.in_ok-first.ensures.grows

pub put_fields-loop-done-preserved : goal.put_fields-loop-done-preserved
put_fields-loop-done-preserved t c =
    fields_step c.args.lists.now c.loop-done.lists c.put_field.new.lists c.add_item.new.self c.args.heap.now (seen_world c.args.heap.now c.args.world.now) c.args.depth c.args.fields.now
    c.field_before-field.result.now c.loop-done.at c.in_ok-first.first c.in_ok-at-2.at c.loop-done.done c.loop-done.invariant c.field_before-field.ensures.is
    c.in_ok-first.ensures.is c.in_ok-first.ensures.grows c.in_ok-at-2.ensures.within c.in_ok-at-2.ensures.is c.in_ok-at-2.ensures.grows

pub put_stobj-put_stobj-requires : goal.put_stobj-put_stobj-requires
put_stobj-put_stobj-requires t c = (omega (arith, c.decreases, c.if-depth-eq0.false), c.requires.world)

pub put_stobj-put_fields-requires : goal.put_stobj-put_fields-requires
put_stobj-put_fields-requires t c =
    (omega (arith, c.decreases, c.if-depth-eq0.false), (c.requires.world, subst (λ (fs : List FieldDescriptor). FieldsLie c.args.heap.now fs) (sym c.as_slice-fields.ensures) c.in-Some-descriptor_of.ensures.lies))

pub put_stobj-returns-in_ok-n-in-Some-descriptor_of-clause-is : goal.put_stobj-returns-in_ok-n-in-Some-descriptor_of-clause-is
put_stobj-returns-in_ok-n-in-Some-descriptor_of-clause-is t c =
    begun_concrete c.put_fields.new.lists c.in_ok-n-in-Some-descriptor_of.n (seen_world c.args.heap.now c.args.world.now) c.args.depth c.args.stobj.0 _ (seen_descriptor c.args.heap.now c.in-Some-descriptor_of.descriptor.now)
    c.if-depth-eq0.false c.in-Some.ensures.found c.in-Some-descriptor_of.ensures.is
    (c.in_ok-n-in-Some-descriptor_of.ensures.is ∙ ap (λ (fs : List FieldDescriptor). fields_begun (seen_world c.args.heap.now c.args.world.now) (c.args.depth - 1) (map (seen_field c.args.heap.now) fs)) c.as_slice-fields.ensures)
