use Rattle.std.proofs.Common.{◌≡◌, ◌-◌, List, map, rules, refl, arith, subst, sym, ap, ◌∙◌}
use Rattle.model_prims.specs.Kinds.{by_number, is_pair}
use Rattle.model_lists.specs.Layouts.{recognizes}
use Rattle.acl_heap.specs.Objects.{object_of}
use Rattle.acl_terms.specs.declared.stobj.FieldDescriptor.{FieldDescriptor}
use Rattle.acl_terms.specs.Definitions.{seen_shape, seen_field, seen_descriptor}
use Rattle.acl_worlds.specs.Contents.{seen_world}
use Rattle.acl_new_lists.specs.Begun.{FieldsLie}
use Rattle.acl_layouts.specs.Typed.{AreTyped}
use Rattle.acl_layouts.specs.Laid.{fields_laid}
use Rattle.acl_layouts.proofs.FieldLemmas.{fields_typed}
use Rattle.acl_layouts.proofs.RecognizeLemmas.{scalar_shown, array_shown, shown_concrete, field_passed, field_failed, fields_short, fields_end}
use Rattle.acl_layouts.proofs.recognizing.+recognized.Goals as goal

pub is_field-is_stobj-requires : goal.is_field-is_stobj-requires
is_field-is_stobj-requires t c = (omega (arith, c.decreases), (c.requires.world, (c.requires.accepts, c.requires.object)))

pub is_field-are_stobjs-requires : goal.is_field-are_stobjs-requires
is_field-are_stobjs-requires t c = (omega (arith, c.decreases), (c.requires.world, (c.requires.accepts, c.requires.object)))

pub is_stobj-is_stobj-requires : goal.is_stobj-is_stobj-requires
is_stobj-is_stobj-requires t c = (omega (arith, c.decreases, c.if-depth-eq0.false), (c.requires.world, (c.requires.accepts, c.requires.object)))

pub is_stobj-are_fields-requires : goal.is_stobj-are_fields-requires
is_stobj-are_fields-requires t c = (
  omega (arith, c.decreases, c.if-depth-eq0.false),
  (
    c.requires.world,
    (
      c.requires.accepts,
      (
        subst (λ (fs : List FieldDescriptor). FieldsLie c.args.heap.now fs) (sym c.as_slice-fields.ensures) c.in-Some-descriptor_of.ensures.lies,
        (
          subst (λ (fs : List FieldDescriptor). AreTyped (map (seen_field c.args.heap.now) fs)) (sym c.as_slice-fields.ensures)
              (fields_typed (seen_world c.args.heap.now c.args.world.now) c.args.stobj.0 _ (seen_descriptor c.args.heap.now c.in-Some-descriptor_of.descriptor.now) c.requires.accepts c.in-Some.ensures.found c.in-Some-descriptor_of.ensures.is),
          c.requires.object,
        ),
      ),
    ),
  ),
)

pub is_field-returns-in_ok-holds-in-Scalar : goal.is_field-returns-in_ok-holds-in-Scalar
is_field-returns-in_ok-holds-in-Scalar t c =
    scalar_shown (seen_world c.args.heap.now c.args.world.now) c.args.heap.now c.args.depth c.args.shape (object_of c.args.heap.now c.args.x) c.in_ok-holds-in-Scalar.holds _ _ c.in-Scalar.is c.in_ok-holds-in-Scalar.ensures.is

pub is_stobj-returns-in_ok-holds-in-Some-descriptor_of : goal.is_stobj-returns-in_ok-holds-in-Some-descriptor_of
is_stobj-returns-in_ok-holds-in-Some-descriptor_of t c =
    shown_concrete (seen_world c.args.heap.now c.args.world.now) c.args.depth c.args.stobj.0 (object_of c.args.heap.now c.args.x) c.in_ok-holds-in-Some-descriptor_of.holds _
    (seen_descriptor c.args.heap.now c.in-Some-descriptor_of.descriptor.now) c.if-depth-eq0.false c.in-Some.ensures.found c.in-Some-descriptor_of.ensures.is
    (c.in_ok-holds-in-Some-descriptor_of.ensures
    ∙ ap (λ (fs : List FieldDescriptor). recognizes by_number (fields_laid (seen_world c.args.heap.now c.args.world.now) (c.args.depth - 1) (map (seen_field c.args.heap.now) fs)) (object_of c.args.heap.now c.args.x)) c.as_slice-fields.ensures)

pub are_stobjs-is_stobj-requires : goal.are_stobjs-is_stobj-requires
are_stobjs-is_stobj-requires t c = (omega (arith, c.decreases), (c.requires.world, (c.requires.accepts, search rules)))

pub are_fields-is_field-requires : goal.are_fields-is_field-requires
are_fields-is_field-requires t c = (
  omega (arith, c.decreases),
  (c.requires.world, (c.requires.accepts, (c.shape_at-shape.ensures.lies, (c.shape_at-shape.ensures.typed c.requires.typed, search rules)))),
)

pub are_fields-loop-at-preserved : goal.are_fields-loop-at-preserved
are_fields-loop-at-preserved t c = record {
  lies = c.in-Pair.ensures.sees.2;
  same =
      field_passed (seen_world c.args.heap.now c.args.world.now) c.args.heap.now c.args.depth c.args.fields.now c.loop-at.at (seen_shape c.args.heap.now c.shape_at-shape.result) (object_of c.args.heap.now c.loop-at.rest) (object_of c.args.heap.now c.in-Pair.first)
      (object_of c.args.heap.now c.in-Pair.next) _ c.shape_at-shape.ensures.is c.in-Pair.ensures.sees.0 (sym c.if-not-branch.false ∙ c.in_ok-is_field-in-Pair.ensures) c.loop-at.invariant.same;
}

pub are_fields-returns-then-not-branch : goal.are_fields-returns-then-not-branch
are_fields-returns-then-not-branch t c =
    field_failed (seen_world c.args.heap.now c.args.world.now) c.args.heap.now c.args.depth c.args.fields.now c.loop-at.at (seen_shape c.args.heap.now c.shape_at-shape.result) (object_of c.args.heap.now c.loop-at.rest) (object_of c.args.heap.now c.in-Pair.first)
    (object_of c.args.heap.now c.in-Pair.next) _ c.shape_at-shape.ensures.is c.in-Pair.ensures.sees.0 (sym c.if-not-branch.true ∙ c.in_ok-is_field-in-Pair.ensures) c.loop-at.invariant.same

pub are_fields-returns-in-Integer : goal.are_fields-returns-in-Integer
are_fields-returns-in-Integer t c =
    fields_short (seen_world c.args.heap.now c.args.world.now) c.args.depth c.args.heap.now c.args.fields.now c.loop-at.at (object_of c.args.heap.now c.loop-at.rest) _ c.loop-at-test.true (ap is_pair c.in-Integer.ensures.sees) c.loop-at.invariant.same

pub are_fields-returns-in-Symbol : goal.are_fields-returns-in-Symbol
are_fields-returns-in-Symbol t c =
    fields_short (seen_world c.args.heap.now c.args.world.now) c.args.depth c.args.heap.now c.args.fields.now c.loop-at.at (object_of c.args.heap.now c.loop-at.rest) _ c.loop-at-test.true (ap is_pair c.in-Symbol.ensures.sees) c.loop-at.invariant.same

pub are_fields-returns-in-Text : goal.are_fields-returns-in-Text
are_fields-returns-in-Text t c =
    fields_short (seen_world c.args.heap.now c.args.world.now) c.args.depth c.args.heap.now c.args.fields.now c.loop-at.at (object_of c.args.heap.now c.loop-at.rest) _ c.loop-at-test.true (ap is_pair c.in-Text.ensures.sees) c.loop-at.invariant.same

pub are_fields-returns : goal.are_fields-returns
are_fields-returns t c =
    fields_end (seen_world c.args.heap.now c.args.world.now) c.args.depth c.args.heap.now c.args.fields.now c.loop-at.at (object_of c.args.heap.now c.loop-at.rest) c.is_nil.result _ c.loop-at-test.false c.is_nil.ensures c.loop-at.invariant.same

pub is_field-returns-in_ok-all-in-Array : goal.is_field-returns-in_ok-all-in-Array
is_field-returns-in_ok-all-in-Array t c =
    array_shown (seen_world c.args.heap.now c.args.world.now) c.args.heap.now c.args.depth c.args.shape (object_of c.args.heap.now c.args.x) _ _ _ c.in-Array.len c.in-Array.resizable c.in_ok-all-in-Array.all c.has_length-long.result c.in-Array.is refl
    c.in_ok-all-in-Array.ensures c.has_length-long.ensures
