use Rattle.std.proofs.Common.{rules, refl, ◌≡◌, length, map, slice_get, Some, ℕ, ◌+◌, ◌<◌, ◌++◌, ◌∷◌, [], List, subst, sym, ap, ◌∙◌, arith}
use Rattle.std.proofs.lemmas.List.{length-append, length-map, map_push}
use Rattle.std.proofs.lemmas.Option.{slice_get_read}
use Rattle.acl_base.specs.declared.layout.Field.{Field}
use Rattle.acl_base.specs.declared.layout.Field.TheVariants as fields
use Rattle.acl_nodes.specs.Nodes.{Own, Child, Children}
use Rattle.acl_nodes.proofs.ExtendLemmas.{extends_self, extends_then}
use Rattle.acl_fields.specs.Fields.{Table}
use Rattle.acl_maps.specs.Cells.{Cells}
use Rattle.acl_fields.specs.declared.slot.Slot.TheVariants as slots
use Rattle.acl_fields.specs.Layouts.{IsField}
use Rattle.acl_making.specs.Making.{PartFor, PartsFor, ChildrenFor}
use Rattle.acl_fields.specs.Parts.{part_of}
use Rattle.acl_fields.specs.Views.{view}
use Rattle.acl_fields.specs.declared.slot.Slot.{Slot}
use Rattle.acl_making.proofs.MakeLemmas.{node_pushed, one_for, many_for, hash_for, child_for, children_for, parts_for_start, parts_for_step, children_for_start, children_for_step}
use Rattle.acl_making.proofs.making.+made.Goals as goal

pub make-returns-clause-made : goal.make-returns-clause-made
make-returns-clause-made t c =
    let l : length c.make_slots.new.nodes.items ≡ c.len-c.result = search rules in
    node_pushed c.args.heap.now c.args.layouts.now c.args.id c.index-layouts-id.result (view c.args.nodes.now.items) c.make_slots.new.nodes.items c.push.new.self.items _ c.len-c.result c.in_ok-push.ensures.items
    (slice_get_read c.args.layouts.now (length c.args.layouts.now) c.args.id c.index-layouts-id.result refl c.requires.id c.index-layouts-id.is) c.in_ok-slots.ensures.made c.in_ok-slots.ensures.counted refl l

pub make_children-loop-init : goal.make_children-loop-init
make_children-loop-init t c = let e : c.new-children.result.items ≡ [] = c.new-children.ensures.items in (
  subst (ChildrenFor c.args.heap.now c.args.layouts.now c.args.id c.args.n (view c.args.nodes.now.items) (view c.args.nodes.now.items)) (sym e) (children_for_start c.args.heap.now c.args.layouts.now c.args.id c.args.n (view c.args.nodes.now.items)),
  ap length e,
  extends_self (view c.args.nodes.now.items),
)

pub make_children-loop-preserved : goal.make_children-loop-preserved
make_children-loop-preserved t c =
    let i = c.loop.invariant in
    let q : length c.loop.children.items ≡ c.loop.counter = i.1 in
    let w : c.loop.counter < c.args.n = search rules in
    let low : length c.loop.children.items < c.args.n = omega (arith, q, w) in
    let p : c.push.new.self.items ≡ c.loop.children.items ++ c.in_ok-c.c ∷ [] = c.in_ok-push.ensures.items in (
      subst (ChildrenFor c.args.heap.now c.args.layouts.now c.args.id c.args.n (view c.args.nodes.now.items) (view c.make.new.nodes.items)) (sym p)
          (children_for_step c.args.heap.now c.args.layouts.now c.args.id c.args.n (view c.args.nodes.now.items) (view c.loop.nodes.items) (view c.make.new.nodes.items) c.loop.children.items c.in_ok-c.c i.0 low c.in_ok-c.ensures.made),
      ap length p ∙ (length-append c.loop.children.items (c.in_ok-c.c ∷ []) ∙ ap (λ (n : ℕ). n + 1) i.1),
      extends_then (view c.args.nodes.now.items) (view c.loop.nodes.items) (view c.make.new.nodes.items) i.2 c.in_ok-c.ensures.kept,
    )

pub make_slot-returns-in_ok-scalar-in-Scalar-clause-made : goal.make_slot-returns-in_ok-scalar-in-Scalar-clause-made
make_slot-returns-in_ok-scalar-in-Scalar-clause-made t c =
    let q : IsField c.args.heap.now c.args.id (fields.Scalar c.in-Scalar.kind c.in-Scalar.w) = subst (IsField c.args.heap.now c.args.id) c.in-Scalar.is c.requires.is in
    subst (λ (f : Field). PartFor c.args.heap.now c.args.layouts.now f (view c.args.nodes.now.items) (view c.args.nodes.now.items) (part_of c.in_ok-scalar-in-Scalar.scalar)) (sym c.in-Scalar.is)
    (one_for c.args.heap.now c.args.layouts.now c.in-Scalar.kind c.in-Scalar.w (view c.args.nodes.now.items) (part_of c.in_ok-scalar-in-Scalar.scalar) q c.in_ok-scalar-in-Scalar.ensures)

pub make_slot-returns-in_ok-array-in-Array-clause-made : goal.make_slot-returns-in_ok-array-in-Array-clause-made
make_slot-returns-in_ok-array-in-Array-clause-made t c =
    let q : IsField c.args.heap.now c.args.id (fields.Array c.in-Array.kind c.in-Array.w c.in-Array.n c.in-Array.field-3) = subst (IsField c.args.heap.now c.args.id) c.in-Array.is c.requires.is in
    subst (λ (f : Field). PartFor c.args.heap.now c.args.layouts.now f (view c.args.nodes.now.items) (view c.args.nodes.now.items) (part_of c.in_ok-array-in-Array.array)) (sym c.in-Array.is)
    (many_for c.args.heap.now c.args.layouts.now c.in-Array.kind c.in-Array.w c.in-Array.n c.in-Array.field-3 (view c.args.nodes.now.items) (part_of c.in_ok-array-in-Array.array) q c.in_ok-array-in-Array.ensures.fits c.in_ok-array-in-Array.ensures.array)

pub make_slot-returns-in_ok-child-in-Child-clause-made : goal.make_slot-returns-in_ok-child-in-Child-clause-made
make_slot-returns-in_ok-child-in-Child-clause-made t c =
    subst (λ (f : Field). PartFor c.args.heap.now c.args.layouts.now f (view c.args.nodes.now.items) (view c.make.new.nodes.items) (Child c.in_ok-child-in-Child.child)) (sym c.in-Child.is)
    (child_for c.args.heap.now c.args.layouts.now c.in-Child.c (view c.args.nodes.now.items) (view c.make.new.nodes.items) c.in_ok-child-in-Child.child c.in_ok-child-in-Child.ensures.made)

pub make_slot-returns-in_ok-children-in-Children-clause-made : goal.make_slot-returns-in_ok-children-in-Children-clause-made
make_slot-returns-in_ok-children-in-Children-clause-made t c =
    subst (λ (f : Field). PartFor c.args.heap.now c.args.layouts.now f (view c.args.nodes.now.items) (view c.make_children.new.nodes.items) (Children c.in_ok-children-in-Children.children.items)) (sym c.in-Children.is)
    (children_for c.args.heap.now c.args.layouts.now c.in-Children.c c.in-Children.n (view c.args.nodes.now.items) (view c.make_children.new.nodes.items) c.in_ok-children-in-Children.children.items c.in_ok-children-in-Children.ensures.counted c.in_ok-children-in-Children.ensures.made)

pub make_slots-loop-f-init : goal.make_slots-loop-f-init
make_slots-loop-f-init t c = let e : c.new-slots.result.items ≡ [] = c.new-slots.ensures.items in (
  subst (λ (ss : List Slot). PartsFor c.args.heap.now c.args.layouts.now c.args.layout.now.fields.items (view c.args.nodes.now.items) (view c.args.nodes.now.items) (map part_of ss)) (sym e)
      (parts_for_start c.args.heap.now c.args.layouts.now c.args.layout.now.fields.items (view c.args.nodes.now.items)),
  ap length e,
  extends_self (view c.args.nodes.now.items),
)

pub make_slots-loop-f-preserved : goal.make_slots-loop-f-preserved
make_slots-loop-f-preserved t c =
    let i = c.loop-f.invariant in
    let q : length c.loop-f.slots.items ≡ c.loop-f.f = i.1 in
    let e : slice_get c.args.layout.now.fields.items (length (map part_of c.loop-f.slots.items)) ≡ Some c.field_at-field.result =
    ap (slice_get c.args.layout.now.fields.items) (length-map c.loop-f.slots.items part_of ∙ q) ∙ c.field_at-field.ensures.there in
    let p : c.push.new.self.items ≡ c.loop-f.slots.items ++ c.in_ok-slot.slot ∷ [] = c.in_ok-push.ensures.items in
    let s = parts_for_step c.args.heap.now c.args.layouts.now c.args.layout.now.fields.items (view c.args.nodes.now.items) (view c.loop-f.nodes.items) (view c.make_slot.new.nodes.items) (map part_of c.loop-f.slots.items) (part_of c.in_ok-slot.slot) c.field_at-field.result i.0 e c.in_ok-slot.ensures.made in (
      subst (PartsFor c.args.heap.now c.args.layouts.now c.args.layout.now.fields.items (view c.args.nodes.now.items) (view c.make_slot.new.nodes.items)) (sym (ap (map part_of) p ∙ map_push part_of c.loop-f.slots.items c.in_ok-slot.slot)) s,
      ap length p ∙ (length-append c.loop-f.slots.items (c.in_ok-slot.slot ∷ []) ∙ ap (λ (n : ℕ). n + 1) i.1),
      extends_then (view c.args.nodes.now.items) (view c.loop-f.nodes.items) (view c.make_slot.new.nodes.items) i.2 c.in_ok-slot.ensures.kept,
    )

pub make_slot-returns-in-Hash-clause-made : goal.make_slot-returns-in-Hash-clause-made
make_slot-returns-in-Hash-clause-made t c =
    subst (λ (f : Field). PartFor c.args.heap.now c.args.layouts.now f (view c.args.nodes.now.items) (view c.args.nodes.now.items) (part_of (slots.Table c.new-map.result))) (sym c.in-Hash.is)
    (hash_for c.args.heap.now c.args.layouts.now c.in-Hash.field-0 (view c.args.nodes.now.items) (part_of (slots.Table c.new-map.result)) (ap (λ (cs : Cells). Own (Table cs)) c.new-map.ensures))
