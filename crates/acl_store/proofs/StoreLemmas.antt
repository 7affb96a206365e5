-- What the calls of a store do, by what they do to one part.
use Rattle.std.proofs.Common.{◌≡◌, ℕ, zero, suc, ◌-◌, ◌<◌, ◌≤◌, ℤ, pos, List, [], ◌∷◌, ◌++◌, map, length, take, replicate, Option, Some, None, refl, sym, ap, ◌∙◌, subst, arith, inl, inr, set, get_or, true, false}
use Rattle.std.specs.Prelude.{◌≢◌, ◌⊎◌, ◌^◌, slice_get, option_map, IsSome, IsSomeAnd, IfSome}
use Rattle.std.proofs.lemmas.List.{length-set, length-map}
use Rattle.std.proofs.lemmas.Option.{slice_get_read, slice_get-map}
use Rattle.acl_base.specs.declared.layout.Field.{Field as LayoutField}
use Rattle.acl_base.specs.declared.layout.Field.TheVariants as fields
use Rattle.acl_base.specs.declared.layout.Kind.{Kind}
use Rattle.acl_base.specs.declared.layout.Layout.{Layout}
use Rattle.acl_base.specs.declared.Word.{Word}
use Rattle.acl_base.specs.declared.Word.TheVariants.{Small}
use Rattle.model_objects.specs.Object.{Object}
use Rattle.model_lists.specs.Lists.{StobjList, Item, size, item, with_item, rest_of, resized}
use Rattle.model_eval.specs.PlacesKeeping.{below, list_at, with_list_at}
use Rattle.model_places.proofs.PathLemmas.{at_below}
use Rattle.acl_nodes.specs.Kept.{Kept, place_at, field_at, with_field, items_of}
use Rattle.acl_nodes.specs.Nodes.{Part, Own, Child, Children, Node, part_at, layout_at, with_part, IsChanged}
use Rattle.acl_nodes.specs.Making.{Extends}
use Rattle.acl_nodes.proofs.ClearLemmas.{size_spine, below_both}
use Rattle.acl_nodes.proofs.NodeLemmas.{nat_or, part_is, part_within, with_changed}
use Rattle.acl_nodes.proofs.FieldLemmas.{field_there, written, part_written}
use Rattle.acl_nodes.proofs.CutLemmas.{cut_holds, nothing_holds, length_take, taken_part, taken_width, taken_layout}
use Rattle.acl_nodes.proofs.MakingLemmas.{created}
use Rattle.acl_fields.specs.Fields.{Field, One, Many, Any, Anys, Table, shown, table_in, integer, plain, IsSmall, number_of, IsElement, IsKept, element, with_element, IsHeld, held, with_held, HasValue, value_in, IsSized, IsFilled, sized, filling, HasLength, length_of}
use Rattle.acl_fields.specs.Parts.{part_of, HasChild, child_of}
use Rattle.acl_fields.specs.Layouts.{Matches, Follow, field_in, size_in}
use Rattle.acl_fields.specs.Views.{parts_of, node_of, view}
use Rattle.acl_store.specs.Calls as calls
use Rattle.acl_store.specs.Calls.{Nodes, Holds, place_in, IsGeneral, IsInline, IsMany, IsParent, Reads, ReadsObject, Writes, IsPut, Measures, Lends, Resizes, IsSizedTo, Cuts, Creates, StayTyped, StayTypedIf, IsTyped}
use Rattle.acl_making.specs.Making.{NodeFor}
use Rattle.acl_fields.specs.declared.node.Node.{Node as Memory}
use Rattle.acl_fields.specs.declared.slot.Slot.{Slot}
use Rattle.acl_heap.specs.Objects.{Objects, object_of, nothing, Lies, Denotes}

none_some : {X : Type 0} {x : X} → None ≡ Some x → ⊥
none_some e = cc

some_same : {X : Type 0} {x y : X} → Some x ≡ Some y → x ≡ y
some_same e = cc

-- ---- lists of values

module _ {X : Type 0} (g : X → StobjList ℕ) where
  item_of : (xs : List X) (d : X) (i : ℕ) → i < length xs → item i (items_of (map g xs)) ≡ g (get_or xs i d)
  item_of [] d i h = absurd (omega (arith, h))
  item_of (v ∷ xs) d zero h = refl
  item_of (v ∷ xs) d (suc i) h = let fewer : i < length xs = omega (arith, h) in item_of xs d i fewer

  set_of : (xs : List X) (i : ℕ) (v : X) → with_item i (g v) (items_of (map g xs)) ≡ items_of (map g (set xs i v))
  set_of [] i v = refl
  set_of (x ∷ xs) zero v = refl
  set_of (x ∷ xs) (suc i) v = ap (Item (g x)) (set_of xs i v)

  size_of : (xs : List X) → size (items_of (map g xs)) ≡ length xs
  size_of [] = refl
  size_of (v ∷ xs) = let e = size_of xs in omega (arith, e)

  short : (m : ℕ) (fill : X) → items_of (map g (replicate (m - 0) fill)) ≡ items_of (map g (take m [] ++ replicate (m - 0) fill))
  short zero fill = refl
  short (suc m) fill = refl

  sized_of : (m : ℕ) (xs : List X) (fill : X) → items_of (map g (take m xs ++ replicate (m - length xs) fill)) ≡ resized m (g fill) (items_of (map g xs))
  sized_of zero xs fill = let e : 0 - length xs ≡ 0 = omega arith in ap (λ (k : ℕ). items_of (map g (replicate k fill))) e
  sized_of (suc m) [] fill = let e : suc m - 0 ≡ suc m = omega arith in let q : m - 0 ≡ m = omega arith in
      ap (λ (k : ℕ). items_of (map g (replicate k fill))) e
      ∙ ap (Item (g fill)) (ap (λ (k : ℕ). items_of (map g (replicate k fill))) (sym q) ∙ (short m fill ∙ sized_of m [] fill))
  sized_of (suc m) (v ∷ xs) fill = let e : suc m - suc (length xs) ≡ m - length xs = omega arith in
      ap (Item (g v)) (ap (λ (k : ℕ). items_of (map g (take m xs ++ replicate k fill))) e ∙ sized_of m xs fill)

-- ---- one part

read_items : {X : Type 0} (g : X → StobjList ℕ) (xs : List X) (d : X) (ns : Nodes) (kept : Kept) (h : Holds ns kept) (k f i : ℕ) (o : Field) → part_at ns k f ≡ Some (Own o) → ((l : StobjList ℕ) → shown o l → l ≡ items_of (map g xs))
    → i < length xs → list_at kept.roots (below (place_at kept.places k) (f ∷ i ∷ [])) ≡ g (get_or xs i d)
read_items g xs d ns kept h k f i o at e is =
    ap (list_at kept.roots) (sym (below_both (place_at kept.places k) (f ∷ []) (i ∷ [])))
    ∙ (at_below (field_at kept.places k f) (i ∷ []) kept.roots (field_there shown h k f (Own o) at)
    ∙ (ap (item i) (e (list_at kept.roots (field_at kept.places k f)) (h.shows k f (Own o) at)) ∙ item_of g xs d i is))

pub read_value : (ns : Nodes) (kept : Kept) (h : Holds ns kept) (k f i : ℕ) (p : Part Field) → part_at ns k f ≡ Some p → HasValue p i → list_at kept.roots (place_in kept p k f i) ≡ value_in p i
read_value ns kept h k f i (Own (One w)) at is = h.shows k f (Own (One w)) at
read_value ns kept h k f i (Own (Many kind x vs)) at is = read_items integer vs (pos 0) ns kept h k f i (Many kind x vs) at (λ l e. e) is
read_value ns kept h k f i (Own (Any o)) at is = h.shows k f (Own (Any o)) at
read_value ns kept h k f i (Own (Anys x os)) at is = read_items plain os nothing ns kept h k f i (Anys x os) at (λ l e. e) is
read_value ns kept h k f i (Own (Table cs)) at is = absurd is
read_value ns kept h k f i (Child c) at is = absurd is
read_value ns kept h k f i (Children cs) at is = absurd is

pub element_value : (p : Part Field) (i : ℕ) → IsElement p i → HasValue p i × (value_in p i ≡ integer (element p i))
element_value (Own (One w)) i is = (is, refl)
element_value (Own (Many kind x vs)) i is = (is, refl)
element_value (Own (Any o)) i is = absurd is
element_value (Own (Anys x os)) i is = absurd is
element_value (Own (Table cs)) i is = absurd is
element_value (Child c) i is = absurd is
element_value (Children cs) i is = absurd is

pub held_value : (p : Part Field) (i : ℕ) → IsHeld p i → HasValue p i × (value_in p i ≡ plain (held p i))
held_value (Own (One w)) i is = absurd is
held_value (Own (Many kind x vs)) i is = absurd is
held_value (Own (Any o)) i is = (is, refl)
held_value (Own (Anys x os)) i is = (is, refl)
held_value (Own (Table cs)) i is = absurd is
held_value (Child c) i is = absurd is
held_value (Children cs) i is = absurd is

read_part : (ns : Nodes) (kept : Kept) (h : Holds ns kept) (k f i : ℕ) (p : Part Field) → part_at ns k f ≡ Some p → IsElement p i → list_at kept.roots (place_in kept p k f i) ≡ integer (element p i)
read_part ns kept h k f i p at is = let e = element_value p i is in read_value ns kept h k f i p at e.0 ∙ e.1

write_one : (ns : Nodes) (kept : Kept) (h : Holds ns kept) (k f : ℕ) (x : StobjList ℕ) (old new : Field) → part_at ns k f ≡ Some (Own old) → shown new x
    → Holds (with_part k f (Own new) ns) (record kept { roots = with_list_at (below (place_at kept.places k) (f ∷ [])) x kept.roots })
write_one ns kept h k f x old new at e = part_written shown ns (with_part k f (Own new) ns) kept h k f [] old new x at (λ l g. e) (with_changed ns k f (Own old) (Own new) at)

write_items : {X : Type 0} (g : X → StobjList ℕ) (xs : List X) (v : X) (ns : Nodes) (kept : Kept) (h : Holds ns kept) (k f i : ℕ) (old new : Field) → part_at ns k f ≡ Some (Own old)
    → ((l : StobjList ℕ) → shown old l → l ≡ items_of (map g xs)) → ((l : StobjList ℕ) → l ≡ items_of (map g (set xs i v)) → shown new l) → Holds (with_part k f (Own new) ns) (record kept { roots = with_list_at (below (place_at kept.places k) (f ∷ i ∷ [])) (g v) kept.roots })
write_items g xs v ns kept h k f i old new at d e = part_written shown ns (with_part k f (Own new) ns) kept h k f (i ∷ []) old new (g v) at
    (λ l q. e (with_item i (g v) l) (ap (with_item i (g v)) (d l q) ∙ set_of g xs i v)) (with_changed ns k f (Own old) (Own new) at)

pub write_part : (ns : Nodes) (kept : Kept) (h : Holds ns kept) (k f i : ℕ) (v : ℤ) (p : Part Field) → part_at ns k f ≡ Some p → IsElement p i
    → Holds (with_part k f (with_element p i v) ns) (record kept { roots = with_list_at (place_in kept p k f i) (integer v) kept.roots })
write_part ns kept h k f i v (Own (One w)) at is = write_one ns kept h k f (integer v) (One w) (One v) at refl
write_part ns kept h k f i v (Own (Many kind x vs)) at is = write_items integer vs v ns kept h k f i (Many kind x vs) (Many kind x (set vs i v)) at (λ l e. e) (λ l e. e)
write_part ns kept h k f i v (Own (Any o)) at is = absurd is
write_part ns kept h k f i v (Own (Anys x os)) at is = absurd is
write_part ns kept h k f i v (Own (Table cs)) at is = absurd is
write_part ns kept h k f i v (Child c) at is = absurd is
write_part ns kept h k f i v (Children cs) at is = absurd is

pub write_held : (ns : Nodes) (kept : Kept) (h : Holds ns kept) (k f i : ℕ) (v : Object ℕ) (p : Part Field) → part_at ns k f ≡ Some p → IsHeld p i
    → Holds (with_part k f (with_held p i v) ns) (record kept { roots = with_list_at (place_in kept p k f i) (plain v) kept.roots })
write_held ns kept h k f i v (Own (One w)) at is = absurd is
write_held ns kept h k f i v (Own (Many kind x vs)) at is = absurd is
write_held ns kept h k f i v (Own (Any o)) at is = write_one ns kept h k f (plain v) (Any o) (Any v) at refl
write_held ns kept h k f i v (Own (Anys x os)) at is = write_items plain os v ns kept h k f i (Anys x os) (Anys x (set os i v)) at (λ l e. e) (λ l e. e)
write_held ns kept h k f i v (Own (Table cs)) at is = absurd is
write_held ns kept h k f i v (Child c) at is = absurd is
write_held ns kept h k f i v (Children cs) at is = absurd is

pub measure_part : (ns : Nodes) (kept : Kept) (h : Holds ns kept) (k f : ℕ) (p : Part Field) → part_at ns k f ≡ Some p → HasLength p → size (list_at kept.roots (field_at kept.places k f)) ≡ length_of p
measure_part ns kept h k f (Own (One w)) at is = absurd is
measure_part ns kept h k f (Own (Many kind x vs)) at is = ap size (h.shows k f (Own (Many kind x vs)) at) ∙ size_of integer vs
measure_part ns kept h k f (Own (Any o)) at is = absurd is
measure_part ns kept h k f (Own (Anys x os)) at is = ap size (h.shows k f (Own (Anys x os)) at) ∙ size_of plain os
measure_part ns kept h k f (Own (Table cs)) at is = absurd is
measure_part ns kept h k f (Child c) at is = absurd is
measure_part ns kept h k f (Children cs) at is = size_spine (length cs) (list_at kept.roots (field_at kept.places k f)) (h.shows k f (Children cs) at).0

lend_part : (ns : Nodes) (kept : Kept) (h : Holds ns kept) (k f i c : ℕ) (p : Part Field) → part_at ns k f ≡ Some p → child_of p i ≡ Some c → (place_at kept.places c ≡ place_in kept p k f i) × (c < k)
lend_part ns kept h k f i c (Own o) at e = absurd (none_some e)
lend_part ns kept h k f i c (Child x) at e = let s = h.shows k f (Child x) at in
    subst (λ (y : ℕ). (place_at kept.places y ≡ field_at kept.places k f) × (y < k)) (some_same e) (s.1, s.0)
lend_part ns kept h k f i c (Children cs) at e = let s = (h.shows k f (Children cs) at).1 i c e in
    (s.1 ∙ below_both (place_at kept.places k) (f ∷ []) (i ∷ []), s.0)

size_items : {X : Type 0} (g : X → StobjList ℕ) (xs : List X) (fill : X) (ns : Nodes) (kept : Kept) (h : Holds ns kept) (k f m : ℕ) (old new : Field) → part_at ns k f ≡ Some (Own old)
    → ((l : StobjList ℕ) → shown old l → l ≡ items_of (map g xs)) → ((l : StobjList ℕ) → l ≡ items_of (map g (take m xs ++ replicate (m - length xs) fill)) → shown new l)
    → Holds (with_part k f (Own new) ns) (with_field k f (resized m (g fill) (list_at kept.roots (field_at kept.places k f))) kept)
size_items g xs fill ns kept h k f m old new at d e =
    written shown ns (with_part k f (Own new) ns) kept h k f (Own old) new (resized m (g fill) (list_at kept.roots (field_at kept.places k f))) at tt
    (e (resized m (g fill) (list_at kept.roots (field_at kept.places k f))) (ap (resized m (g fill)) (d (list_at kept.roots (field_at kept.places k f)) (h.shows k f (Own old) at)) ∙ sym (sized_of g m xs fill))) (with_changed ns k f (Own old) (Own new) at)

pub resize_part : (hs : Objects) (ns : Nodes) (kept : Kept) (h : Holds ns kept) (k f m : ℕ) (p : Part Field) → part_at ns k f ≡ Some p → IsSized p
    → Holds (with_part k f (sized hs p m) ns) (with_field k f (resized m (filling hs p) (list_at kept.roots (field_at kept.places k f))) kept)
resize_part hs ns kept h k f m (Own (One w)) at is = absurd is
resize_part hs ns kept h k f m (Own (Many kind x vs)) at is = size_items integer vs x ns kept h k f m (Many kind x vs) (Many kind x (take m vs ++ replicate (m - length vs) x)) at (λ l e. e) (λ l e. e)
resize_part hs ns kept h k f m (Own (Any o)) at is = absurd is
resize_part hs ns kept h k f m (Own (Anys x os)) at is =
    size_items plain os (object_of hs x) ns kept h k f m (Anys x os) (Anys x (take m os ++ replicate (m - length os) (object_of hs x))) at (λ l e. e) (λ l e. e)
resize_part hs ns kept h k f m (Own (Table cs)) at is = absurd is
resize_part hs ns kept h k f m (Child x) at is = absurd is
resize_part hs ns kept h k f m (Children xs) at is = absurd is

-- ---- layouts

matches_same : (ns after : Nodes) (k : ℕ) (field : LayoutField) (p : Part Field) → ((j : ℕ) → j < k → layout_at after j ≡ layout_at ns j) → Matches ns k field p → Matches after k field p
matches_same ns after k (fields.Scalar kind w) p l m = m
matches_same ns after k (fields.Array kind w n r) p l m = m
matches_same ns after k (fields.Hash test) p l m = m
matches_same ns after k (fields.Child id) (Own o) l m = m
matches_same ns after k (fields.Child id) (Child c) l m = (m.0, l c m.0 ∙ m.1)
matches_same ns after k (fields.Child id) (Children cs) l m = m
matches_same ns after k (fields.Children id n) (Own o) l m = m
matches_same ns after k (fields.Children id n) (Child c) l m = m
matches_same ns after k (fields.Children id n) (Children cs) l m = (m.0, λ i c g. let o = m.1 i c g in (o.0, l c o.0 ∙ o.1))

-- a part that matches is put in place of another
pub follow_changed : (layouts : List Layout) (ns after : Nodes) (k f : ℕ) (old new : Part Field) → part_at ns k f ≡ Some old → IsChanged k f new ns after
    → ((field : LayoutField) → field_in layouts (layout_at ns k) f ≡ Some field → Matches ns k field old → Matches ns k field new) → Follow layouts ns → Follow layouts after
follow_changed layouts ns after k f old new at c same h = record {
  sizes = λ j w. ap (size_in layouts) (c.layouts j) ∙ (h.sizes j (subst (λ (m : ℕ). j < m) c.counted w) ∙ ap Some (sym (c.widths j)));
  fields = λ j g p e. by j g p e (nat_or j k) (nat_or g f);
}
  where
    Goal : ℕ → ℕ → Part Field → Type 0
    Goal j g p = (field : LayoutField) × (field_in layouts (layout_at after j) g ≡ Some field) × Matches after j field p

    moved : (j g : ℕ) (p : Part Field) → (field : LayoutField) × (field_in layouts (layout_at ns j) g ≡ Some field) × Matches ns j field p → Goal j g p
    moved j g p m = (m.0, ap (λ (i : ℕ). field_in layouts i g) (c.layouts j) ∙ m.1, matches_same ns after j m.0 p (λ i w. c.layouts i) m.2)

    here : Goal k f new
    here = let m = h.fields k f old at in moved k f new (m.0, m.1, same m.0 m.1 m.2)

    by : (j g : ℕ) (p : Part Field) → part_at after j g ≡ Some p → (j ≡ k) ⊎ (j ≢ k) → (g ≡ f) ⊎ (g ≢ f) → Goal j g p
    by j g p e (inr d) b = moved j g p (h.fields j g p (sym (c.others j g (inl d)) ∙ e))
    by j g p e (inl a) (inr d) = moved j g p (h.fields j g p (sym (c.others j g (inr d)) ∙ e))
    by j g p e (inl a) (inl b) =
        subst (λ (i : ℕ). Goal i g p) (sym a) (subst (λ (i : ℕ). Goal k i p) (sym b)
        (subst (Goal k f) (some_same (sym c.changed ∙ (ap (λ (i : ℕ). part_at after i f) (sym a) ∙ (ap (λ (i : ℕ). part_at after j i) (sym b) ∙ e)))) here))

element_table : (p : Part Field) (i : ℕ) (v : ℤ) → table_in (with_element p i v) ≡ table_in p
element_table (Own (One w)) i v = refl
element_table (Own (Many kind x vs)) i v = refl
element_table (Own (Any o)) i v = refl
element_table (Own (Anys x os)) i v = refl
element_table (Own (Table cs)) i v = refl
element_table (Child c) i v = refl
element_table (Children cs) i v = refl

held_table : (p : Part Field) (i : ℕ) (v : Object ℕ) → table_in (with_held p i v) ≡ table_in p
held_table (Own (One w)) i v = refl
held_table (Own (Many kind x vs)) i v = refl
held_table (Own (Any o)) i v = refl
held_table (Own (Anys x os)) i v = refl
held_table (Own (Table cs)) i v = refl
held_table (Child c) i v = refl
held_table (Children cs) i v = refl

element_matches : (ns : Nodes) (k : ℕ) (field : LayoutField) (p : Part Field) (i : ℕ) (v : ℤ) → Matches ns k field p → Matches ns k field (with_element p i v)
element_matches ns k (fields.Scalar kind w) (Own (One x)) i v m = m
element_matches ns k (fields.Scalar kind w) (Own (Many q x vs)) i v m = m
element_matches ns k (fields.Scalar kind w) (Own (Any o)) i v m = m
element_matches ns k (fields.Scalar kind w) (Own (Anys x os)) i v m = m
element_matches ns k (fields.Scalar kind w) (Own (Table cs)) i v m = m
element_matches ns k (fields.Scalar kind w) (Child c) i v m = m
element_matches ns k (fields.Scalar kind w) (Children cs) i v m = m
element_matches ns k (fields.Array kind w n r) (Own (One x)) i v m = m
element_matches ns k (fields.Array kind w n r) (Own (Many q x vs)) i v m =
    (m.0, m.1, subst (λ (j : ℕ). j < 2 ^ 32) (sym (length-set vs i v)) m.2, λ e. length-set vs i v ∙ m.3 e, m.4)
element_matches ns k (fields.Array kind w n r) (Own (Any o)) i v m = m
element_matches ns k (fields.Array kind w n r) (Own (Anys x os)) i v m = m
element_matches ns k (fields.Array kind w n r) (Own (Table cs)) i v m = m
element_matches ns k (fields.Array kind w n r) (Child c) i v m = m
element_matches ns k (fields.Array kind w n r) (Children cs) i v m = m
element_matches ns k (fields.Hash test) p i v m = subst IsSome (sym (element_table p i v)) m
element_matches ns k (fields.Child id) (Own o) i v m = absurd m
element_matches ns k (fields.Child id) (Child c) i v m = m
element_matches ns k (fields.Child id) (Children cs) i v m = m
element_matches ns k (fields.Children id n) (Own o) i v m = absurd m
element_matches ns k (fields.Children id n) (Child c) i v m = m
element_matches ns k (fields.Children id n) (Children cs) i v m = m

pub held_matches : (ns : Nodes) (k : ℕ) (field : LayoutField) (p : Part Field) (i : ℕ) (v : Object ℕ) → Matches ns k field p → Matches ns k field (with_held p i v)
held_matches ns k (fields.Scalar kind w) (Own (One x)) i v m = m
held_matches ns k (fields.Scalar kind w) (Own (Many q x vs)) i v m = m
held_matches ns k (fields.Scalar kind w) (Own (Any o)) i v m = m
held_matches ns k (fields.Scalar kind w) (Own (Anys x os)) i v m = m
held_matches ns k (fields.Scalar kind w) (Own (Table cs)) i v m = m
held_matches ns k (fields.Scalar kind w) (Child c) i v m = m
held_matches ns k (fields.Scalar kind w) (Children cs) i v m = m
held_matches ns k (fields.Array kind w n r) (Own (One x)) i v m = m
held_matches ns k (fields.Array kind w n r) (Own (Many q x vs)) i v m = m
held_matches ns k (fields.Array kind w n r) (Own (Any o)) i v m = m
held_matches ns k (fields.Array kind w n r) (Own (Anys x os)) i v m =
    (m.0, m.1, subst (λ (j : ℕ). j < 2 ^ 32) (sym (length-set os i v)) m.2, λ e. length-set os i v ∙ m.3 e)
held_matches ns k (fields.Array kind w n r) (Own (Table cs)) i v m = m
held_matches ns k (fields.Array kind w n r) (Child c) i v m = m
held_matches ns k (fields.Array kind w n r) (Children cs) i v m = m
held_matches ns k (fields.Hash test) p i v m = subst IsSome (sym (held_table p i v)) m
held_matches ns k (fields.Child id) (Own o) i v m = absurd m
held_matches ns k (fields.Child id) (Child c) i v m = m
held_matches ns k (fields.Child id) (Children cs) i v m = m
held_matches ns k (fields.Children id n) (Own o) i v m = absurd m
held_matches ns k (fields.Children id n) (Child c) i v m = m
held_matches ns k (fields.Children id n) (Children cs) i v m = m

size_resized : (m : ℕ) (fill l : StobjList ℕ) → size (resized m fill l) ≡ m
size_resized zero fill l = refl
size_resized (suc m) fill l = let e = size_resized m fill (rest_of l) in omega (arith, e)

length_sized : {X : Type 0} (g : X → StobjList ℕ) (xs : List X) (m : ℕ) (x : X) → length (take m xs ++ replicate (m - length xs) x) ≡ m
length_sized g xs m x = sym (size_of g (take m xs ++ replicate (m - length xs) x)) ∙ (ap size (sized_of g m xs x) ∙ size_resized m (g x) (items_of (map g xs)))

true_false : true ≡ false → ⊥
true_false e = cc

sized_matches : (hs : Objects) (ns : Nodes) (k : ℕ) (kind : Kind) (w : Word) (n m : ℕ) (p : Part Field) → m < 2 ^ 32 → Matches ns k (fields.Array kind w n true) p
    → Matches ns k (fields.Array kind w n true) (sized hs p m)
sized_matches hs ns k kind w n m (Own (One x)) u h = h
sized_matches hs ns k kind w n m (Own (Many q x vs)) u h = (h.0, h.1, subst (λ (j : ℕ). j < 2 ^ 32) (sym (length_sized integer vs m x)) u, λ e. absurd (true_false e), h.4)
sized_matches hs ns k kind w n m (Own (Any o)) u h = h
sized_matches hs ns k kind w n m (Own (Anys x os)) u h = (h.0, h.1, subst (λ (j : ℕ). j < 2 ^ 32) (sym (length_sized plain os m (object_of hs x))) u, λ e. absurd (true_false e))
sized_matches hs ns k kind w n m (Own (Table cs)) u h = h
sized_matches hs ns k kind w n m (Child c) u h = h
sized_matches hs ns k kind w n m (Children cs) u h = h

-- ---- memory

view_at : (ns : List Memory) (k f : ℕ) (node : Memory) → slice_get ns k ≡ Some node → part_at (view ns) k f ≡ option_map part_of (slice_get node.slots.items f)
view_at ns k f node e = part_is (view ns) k f (node_of node) (slice_get-map node_of ns k ∙ ap (option_map node_of) e) ∙ slice_get-map part_of node.slots.items f

view_set : (ns : List Memory) (k f : ℕ) (old new : Memory) (p : Part Field) → slice_get ns k ≡ Some old → new.layout ≡ old.layout → parts_of new ≡ set (parts_of old) f p → view (set ns k new) ≡ with_part k f p (view ns)
view_set [] k f old new p e l q = absurd (none_some e)
view_set (n ∷ ns) zero f old new p e l q = ap (λ (m : Node Field). m ∷ view ns) (both (ap (λ (d : _). d.0) l) q ∙ ap (λ (m : Memory). record (node_of m) { parts = set (parts_of m) f p }) (sym (some_same e)))
  where
    node : ℕ → List (Part Field) → Node Field
    node i xs = record { layout = i; parts = xs }

    both : {i j : ℕ} {xs ys : List (Part Field)} → i ≡ j → xs ≡ ys → node i xs ≡ node j ys
    both a b = cc
view_set (n ∷ ns) (suc k) f old new p e l q = ap (λ (ms : List (Node Field)). node_of n ∷ ms) (view_set ns k f old new p e l q)

view_same : (ns : List Memory) (k : ℕ) (old new : Memory) → slice_get ns k ≡ Some old → new.layout ≡ old.layout → parts_of new ≡ parts_of old → view (set ns k new) ≡ view ns
view_same [] k old new e l q = absurd (none_some e)
view_same (n ∷ ns) zero old new e l q = ap (λ (m : Node Field). m ∷ view ns) (both (ap (λ (d : _). d.0) l) q ∙ ap node_of (sym (some_same e)))
  where
    node : ℕ → List (Part Field) → Node Field
    node i xs = record { layout = i; parts = xs }

    both : {i j : ℕ} {xs ys : List (Part Field)} → i ≡ j → xs ≡ ys → node i xs ≡ node j ys
    both a b = cc
view_same (n ∷ ns) (suc k) old new e l q = ap (λ (ms : List (Node Field)). node_of n ∷ ms) (view_same ns k old new e l q)

pub some_within : (P : Part Field → Type 0) (ns : List Memory) (k f : ℕ) → IsSomeAnd (part_at (view ns) k f) P → k < length ns
some_within P ns k f h = subst (λ (m : ℕ). k < m) (length-map ns node_of) (by (part_at (view ns) k f) (λ p e. part_within (view ns) k f p e) h)
  where
    by : (r : Option (Part Field)) → ((p : Part Field) → r ≡ Some p → k < length (view ns)) → IsSomeAnd r P → k < length (view ns)
    by None g h = absurd h
    by (Some s) g h = g s refl

module _ (ns : List Memory) (k f : ℕ) (node : Memory) (low : k < length ns) (e : node ≡ get_or ns k node) where
  got : slice_get ns k ≡ Some node
  got = slice_get_read ns (length ns) k node refl low e

  pub asked : (P : Part Field → Type 0) → IsSomeAnd (part_at (view ns) k f) P → IsSomeAnd (slice_get node.slots.items f) (λ s. P (part_of s))
  asked P h = by (slice_get node.slots.items f) (subst (λ (r : Option (Part Field)). IsSomeAnd r P) (view_at ns k f node got) h)
    where
      by : (r : Option Slot) → IsSomeAnd (option_map part_of r) P → IsSomeAnd r (λ s. P (part_of s))
      by None h = h
      by (Some s) h = h

  -- by the part
  pub by_part : (P Q R : Part Field → Type 0) → ((p : Part Field) → part_at (view ns) k f ≡ Some p → P p → Q p → R p)
      → IsSomeAnd (part_at (view ns) k f) P → IfSome (slice_get node.slots.items f) (λ s. Q (part_of s)) → IfSome (part_at (view ns) k f) R
  by_part P Q R g p q = cases (part_at (view ns) k f) refl p (given (slice_get node.slots.items f) q)
    where
      given : (r : Option Slot) → IfSome r (λ s. Q (part_of s)) → IfSome (option_map part_of r) Q
      given None q = q
      given (Some s) q = q

      cases : (r : Option (Part Field)) → part_at (view ns) k f ≡ r → IsSomeAnd r P → IfSome (option_map part_of (slice_get node.slots.items f)) Q → IfSome r R
      cases None at p q = absurd p
      cases (Some s) at p q = g s at p (subst (λ (r : Option (Part Field)). IfSome r Q) (sym (view_at ns k f node got) ∙ at) q)

  pub reads_it : (i : ℕ) (v : ℤ) → IsInline (view ns) k f i → IfSome (slice_get node.slots.items f) (λ s. v ≡ element (part_of s) i) → Reads (view ns) k f i (Small v)
  reads_it i v p q = (
    tt,
    λ kept h. by_part (λ s. IsElement s i) (λ s. v ≡ element s i) (λ s. list_at kept.roots (place_in kept s k f i) ≡ integer v)
        (λ s at a b. read_part (view ns) kept h k f i s at a ∙ ap integer (sym b)) p q,
  )

  pub reads_object : (i : ℕ) (hs : Objects) (w : Word) → IsGeneral (view ns) k f i → IfSome (slice_get node.slots.items f) (λ s. Denotes hs w (held (part_of s) i)) → ReadsObject (view ns) k f i hs w
  reads_object i hs w p q = (
    out (part_at (view ns) k f) p (by_part (λ s. IsHeld s i) (λ s. Denotes hs w (held s i)) (λ s. Lies hs w) (λ s at a b. b.lies) p q),
    λ kept g. by_part (λ s. IsHeld s i) (λ s. Denotes hs w (held s i)) (λ s. list_at kept.roots (place_in kept s k f i) ≡ plain (object_of hs w))
        (λ s at a b. read_value (view ns) kept g k f i s at (held_value s i a).0 ∙ ((held_value s i a).1 ∙ ap plain (sym b.is))) p q,
  )
    where
      out : (r : Option (Part Field)) → IsSomeAnd r (λ s. IsHeld s i) → IfSome r (λ s. Lies hs w) → Lies hs w
      out None p q = absurd p
      out (Some s) p q = q

  -- the part that was put
  pub puts_it : (P : Part Field → Type 0) (g : Part Field → Part Field) (new : Memory) → IsSomeAnd (part_at (view ns) k f) P → new.layout ≡ node.layout
      → IfSome (slice_get node.slots.items f) (λ s. parts_of new ≡ set (parts_of node) f (g (part_of s))) → IfSome (part_at (view ns) k f) (λ p. view (set ns k new) ≡ with_part k f (g p) (view ns))
  puts_it P g new p l q = by_part P (λ s. parts_of new ≡ set (parts_of node) f (g s)) (λ s. view (set ns k new) ≡ with_part k f (g s) (view ns)) (λ s at a b. view_set ns k f node new (g s) got l b) p q

  pub same_it : (new : Memory) → new.layout ≡ node.layout → parts_of new ≡ parts_of node → view (set ns k new) ≡ view ns
  same_it new l q = view_same ns k node new got l q

  pub measures_it : (m : ℕ) → IsMany (view ns) k f → IfSome (slice_get node.slots.items f) (λ s. m ≡ length_of (part_of s)) → Measures (view ns) k f m
  measures_it m p q kept h = out (part_at (view ns) k f) p (by_part HasLength (λ s. m ≡ length_of s) (λ s. size (list_at kept.roots (field_at kept.places k f)) ≡ m)
      (λ s at a b. measure_part (view ns) kept h k f s at a ∙ sym b) p q)
    where
      out : (r : Option (Part Field)) → IsSomeAnd r HasLength → IfSome r (λ s. size (list_at kept.roots (field_at kept.places k f)) ≡ m) → size (list_at kept.roots (field_at kept.places k f)) ≡ m
      out None p q = absurd p
      out (Some s) p q = q

  pub lends_it : (i c : ℕ) → IsParent (view ns) k f i → IfSome (slice_get node.slots.items f) (λ s. child_of (part_of s) i ≡ Some c) → Lends (view ns) k f i c
  lends_it i c p q kept h = by_part (λ s. HasChild s i) (λ s. child_of s i ≡ Some c) (λ s. (place_at kept.places c ≡ place_in kept s k f i) × (c < k))
      (λ s at a b. lend_part (view ns) kept h k f i c s at b) p q

-- ---- calls

-- by the part, once more
pub by_some : (r : Option (Part Field)) (P Q R : Part Field → Type 0) → ((p : Part Field) → r ≡ Some p → P p → Q p → R p) → IsSomeAnd r P → IfSome r Q → IfSome r R
by_some None P Q R g p q = absurd p
by_some (Some s) P Q R g p q = g s refl p q

pub out_of : (r : Option (Part Field)) (P : Part Field → Type 0) (R : Type 0) → IsSomeAnd r P → IfSome r (λ p. R) → R
out_of None P R p q = absurd p
out_of (Some s) P R p q = q

pub writes : (ns after : Nodes) (k f i : ℕ) (v : ℤ) → IsInline ns k f i → IsPut ns k f i v after → Writes ns k f i v after
writes ns after k f i v p q kept h = by_some (part_at ns k f) (λ s. IsElement s i) (λ s. after ≡ with_part k f (with_element s i v) ns)
    (λ s. Holds after (record kept { roots = with_list_at (place_in kept s k f i) (integer v) kept.roots }))
    (λ s at a b. subst (λ (ms : Nodes). Holds ms (record kept { roots = with_list_at (place_in kept s k f i) (integer v) kept.roots })) (sym b) (write_part ns kept h k f i v s at a)) p q

pub put_typed : (ns after : Nodes) (k f i : ℕ) (v : ℤ) → IsInline ns k f i → IsPut ns k f i v after → StayTyped ns after
unfolding StayTyped
put_typed ns after k f i v p q layouts h = out_of (part_at ns k f) (λ s. IsElement s i) (Follow layouts after) p (by_some (part_at ns k f) (λ s. IsElement s i) (λ s. after ≡ with_part k f (with_element s i v) ns) (λ s. Follow layouts after)
    (λ s at a b. subst (Follow layouts) (sym b) (follow_changed layouts ns (with_part k f (with_element s i v) ns) k f s (with_element s i v) at (with_changed ns k f s (with_element s i v) at) (λ field e m. element_matches ns k field s i v m) h)) p q)

pub resizes : (hs : Objects) (ns after : Nodes) (k f m : ℕ) → calls.IsArray hs ns k f → IsSizedTo hs ns k f m after → Resizes hs ns k f m after
resizes hs ns after k f m p q kept h = by_some (part_at ns k f) (λ s. IsSized s × IsFilled hs s) (λ s. after ≡ with_part k f (sized hs s m) ns)
    (λ s. Holds after (with_field k f (resized m (filling hs s) (list_at kept.roots (field_at kept.places k f))) kept))
    (λ s at a b. subst (λ (ms : Nodes). Holds ms (with_field k f (resized m (filling hs s) (list_at kept.roots (field_at kept.places k f))) kept)) (sym b) (resize_part hs ns kept h k f m s at a.0)) p q

pub size_typed : (hs : Objects) (ns after : Nodes) (k f m : ℕ) → m < 2 ^ 32 → calls.IsArray hs ns k f → IsSizedTo hs ns k f m after → StayTypedIf k f ns after
unfolding StayTypedIf
size_typed hs ns after k f m u p q layouts kind w n is h = out_of (part_at ns k f) (λ s. IsSized s × IsFilled hs s) (Follow layouts after) p
    (by_some (part_at ns k f) (λ s. IsSized s × IsFilled hs s) (λ s. after ≡ with_part k f (sized hs s m) ns) (λ s. Follow layouts after)
    (λ s at a b. subst (Follow layouts) (sym b) (follow_changed layouts ns (with_part k f (sized hs s m) ns) k f s (sized hs s m) at (with_changed ns k f s (sized hs s m) at) (λ field e x. by_field s field (some_same (sym is ∙ e)) x) h)) p q)
  where
    by_field : (s : Part Field) (field : LayoutField) → fields.Array kind w n true ≡ field → Matches ns k field s → Matches ns k field (sized hs s m)
    by_field s field e x = subst (λ (g : LayoutField). Matches ns k g (sized hs s m)) e (sized_matches hs ns k kind w n m s u (subst (λ (g : LayoutField). Matches ns k g s) (sym e) x))

pub cuts : (ns after : Nodes) (m : ℕ) → m ≤ length ns → after ≡ take m ns → Cuts ns m after
cuts ns after m u e = subst (λ (ms : Nodes). Cuts ns m ms) (sym e) (cut_holds shown ns m u)

pub cut_typed : (ns after : Nodes) (m : ℕ) → m ≤ length ns → after ≡ take m ns → StayTyped ns after
unfolding StayTyped
cut_typed ns after m u e layouts h = subst (Follow layouts) (sym e) (record {
  sizes = λ k w. let v : k < m = within k w in let low : k < length ns = omega (arith, v, u) in ap (size_in layouts) (taken_layout ns m k v) ∙ (h.sizes k low ∙ ap Some (sym (taken_width ns m k v)));
  fields = λ k f p a. let t = taken_part ns m k f p a in let low = t.0 in let x = h.fields k f p t.1 in (
    x.0,
    ap (λ (i : ℕ). field_in layouts i f) (taken_layout ns m k t.0) ∙ x.1,
    matches_same ns (take m ns) k x.0 p (λ j w. let less : j < m = omega (arith, w, low) in taken_layout ns m j less) x.2,
  );
})
  where
    within : (k : ℕ) → k < length (take m ns) → k < m
    within k w = let g = length_take ns m u in omega (arith, w, g)

pub creates : (h : Objects) (layouts : List Layout) (id : ℕ) (ns after : Nodes) (c : ℕ) → NodeFor h layouts id ns after c → Creates h layouts id ns after c
unfolding Creates
creates h layouts id ns after c t lists b kept g = created shown ns after (lists id) c (t.makes lists b) kept g

pub new_typed : (h : Objects) (layouts : List Layout) (id : ℕ) (ns after : Nodes) (c : ℕ) → NodeFor h layouts id ns after c → IsTyped layouts id ns after c
unfolding IsTyped
new_typed h layouts id ns after c t f = let a = t.follows f in (a.0, a.1.1)

pub view_take : (ns : List Memory) (m : ℕ) → view (take m ns) ≡ take m (view ns)
view_take ns zero = refl
view_take [] (suc m) = refl
view_take (n ∷ ns) (suc m) = ap (λ (ms : Nodes). node_of n ∷ ms) (view_take ns m)

pub nothing_there : (ns : List Memory) → ns ≡ [] → Holds (view ns) (record { roots = []; places = [] })
nothing_there ns e = subst (λ (ms : List Memory). Holds (view ms) (record { roots = []; places = [] })) (sym e) (nothing_holds shown)

pub cut_back : (old new after : List Memory) (m : ℕ) → m ≡ length old → after ≡ take m new → Extends (view old) (view new) → view after ≡ view old
cut_back old new after m l e g = ap view e ∙ (view_take new m ∙ (ap (λ (k : ℕ). take k (view new)) (l ∙ sym (length-map old node_of)) ∙ g.1))

pub kept_word : (r : Option (Part Field)) (w : Word) (v : ℤ) → v ≡ number_of w → IsSomeAnd r (λ p. IsSmall w × IsKept p (number_of w)) → IsSomeAnd r (λ p. IsKept p v)
kept_word None w v e h = h
kept_word (Some p) w v e h = subst (IsKept p) (sym e) h.1
