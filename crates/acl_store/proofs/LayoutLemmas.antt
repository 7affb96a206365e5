-- What the calls ask of nodes that are as their layouts say.
use Rattle.std.proofs.Common.{◌≡◌, ℕ, zero, suc, ◌<◌, List, [], ◌∷◌, length, Option, Some, None, Bool, refl, sym, ◌∙◌, subst, arith}
use Rattle.std.specs.Prelude.{◌≢◌, ◌^◌, slice_get, IsSome, IsSomeAnd}
use Rattle.acl_base.specs.declared.layout.Field.{Field as LayoutField}
use Rattle.acl_base.specs.declared.layout.Field.TheVariants as fields
use Rattle.acl_base.specs.declared.layout.Kind.{Kind}
use Rattle.acl_base.specs.declared.layout.Kind.TheVariants.{General}
use Rattle.acl_base.specs.declared.layout.Layout.{Layout}
use Rattle.acl_base.specs.declared.Word.{Word}
use Rattle.acl_heap.specs.Objects.{Objects, Lies}
use Rattle.acl_nodes.specs.Nodes.{Part, Own, Child, Children, part_at, width, layout_at}
use Rattle.acl_fields.specs.Fields.{Field, One, Many, Any, Anys, Table, table_in, IsSmall, InRange, number_of, IsElement, IsKept, IsHeld, IsSized, IsFilled, HasLength, length_of}
use Rattle.acl_fields.specs.Layouts as layouts
use Rattle.acl_fields.specs.Layouts.{Follow, Matches, field_in, size_in, IsOne}
use Rattle.acl_fields.specs.Parts.{HasChild}
use Rattle.acl_store.specs.Calls.{Nodes, IsArray}
use Rattle.acl_store.specs.Laws.{HasField, LayoutsTell}
use Rattle.acl_store.proofs.StoreLemmas.{measure_part}

none_some : {X : Type 0} {x : X} → None ≡ Some x → ⊥
none_some e = cc

some_same : {X : Type 0} {x y : X} → Some x ≡ Some y → x ≡ y
some_same e = cc

-- ---- the part of a field

got_within : {X : Type 0} (xs : List X) (i : ℕ) (x : X) → slice_get xs i ≡ Some x → i < length xs
got_within [] i x e = absurd (none_some e)
got_within (y ∷ xs) zero x e = omega arith
got_within (y ∷ xs) (suc i) x e = let l = got_within xs i x e in omega (arith, l)

within_got : {X : Type 0} (xs : List X) (i : ℕ) → i < length xs → (x : X) × (slice_get xs i ≡ Some x)
within_got [] i h = absurd (omega (arith, h))
within_got (y ∷ xs) zero h = (y, refl)
within_got (y ∷ xs) (suc i) h = let l : i < length xs = omega (arith, h) in within_got xs i l

field_within : (ls : List Layout) (k f : ℕ) (field : LayoutField) (m : ℕ) → field_in ls k f ≡ Some field → size_in ls k ≡ Some m → f < m
field_within [] k f field m e s = absurd (none_some e)
field_within (l ∷ ls) zero f field m e s = subst (λ (n : ℕ). f < n) (some_same s) (got_within l.fields.items f field e)
field_within (l ∷ ls) (suc k) f field m e s = field_within ls k f field m e s

part_there : (ns : Nodes) (k f : ℕ) → f < width ns k → (p : Part Field) × (part_at ns k f ≡ Some p)
part_there [] k f h = absurd (omega (arith, h))
part_there (n ∷ ns) zero f h = within_got n.parts f h
part_there (n ∷ ns) (suc k) f h = part_there ns k f h

-- the part that is as the field says
found : (ls : List Layout) (ns : Nodes) (n f : ℕ) (field : LayoutField) → Follow ls ns → HasField ls ns n f field → (p : Part Field) × (part_at ns n f ≡ Some p) × Matches ns n field p
found ls ns n f field g h =
    let w = field_within ls (layout_at ns n) f field (width ns n) h.1 (g.sizes n h.0) in
    let p = part_there ns n f w in
    let m = g.fields n f p.0 p.1 in
    (p.0, p.1, subst (λ (x : LayoutField). Matches ns n x p.0) (some_same (sym m.1 ∙ h.1)) m.2)

by : (ls : List Layout) (ns : Nodes) (n f : ℕ) (field : LayoutField) (P : Part Field → Type 0) → Follow ls ns → HasField ls ns n f field → ((p : Part Field) → part_at ns n f ≡ Some p → Matches ns n field p → P p) → IsSomeAnd (part_at ns n f) P
by ls ns n f field P g h k = let p = found ls ns n f field g h in subst (λ (r : Option (Part Field)). IsSomeAnd r P) (sym p.1) (k p.0 p.1 p.2)

-- ---- by the kinds of fields

one_element : (kind : Kind) (p : Part Field) → kind ≢ General → IsOne kind p → IsElement p 0
one_element kind (Own (One v)) d m = refl
one_element kind (Own (Many k x vs)) d m = absurd m
one_element kind (Own (Any o)) d m = absurd (d m)
one_element kind (Own (Anys x os)) d m = absurd m
one_element kind (Own (Table cs)) d m = absurd m
one_element kind (Child c) d m = absurd m
one_element kind (Children cs) d m = absurd m

one_kept : (kind : Kind) (p : Part Field) (v : Word) → kind ≢ General → IsOne kind p → IsKept p (number_of v)
one_kept kind (Own (One x)) v d m = tt
one_kept kind (Own (Many k x vs)) v d m = absurd m
one_kept kind (Own (Any o)) v d m = absurd (d m)
one_kept kind (Own (Anys x os)) v d m = absurd m
one_kept kind (Own (Table cs)) v d m = absurd m
one_kept kind (Child c) v d m = absurd m
one_kept kind (Children cs) v d m = absurd m

one_held : (p : Part Field) → IsOne General p → IsHeld p 0
one_held (Own (One v)) m = absurd (m refl)
one_held (Own (Many k x vs)) m = absurd m
one_held (Own (Any o)) m = refl
one_held (Own (Anys x os)) m = absurd m
one_held (Own (Table cs)) m = absurd m
one_held (Child c) m = absurd m
one_held (Children cs) m = absurd m

array_many : (kind : Kind) (w : Word) (m : ℕ) (r : Bool) (p : Part Field) → layouts.IsArray kind w m r p → HasLength p
array_many kind w m r (Own (One v)) a = absurd a
array_many kind w m r (Own (Many k x vs)) a = a.2
array_many kind w m r (Own (Any o)) a = absurd a
array_many kind w m r (Own (Anys x os)) a = a.2
array_many kind w m r (Own (Table cs)) a = absurd a
array_many kind w m r (Child c) a = absurd a
array_many kind w m r (Children cs) a = absurd a

array_element : (kind : Kind) (w : Word) (m i : ℕ) (r : Bool) (p : Part Field) → kind ≢ General → layouts.IsArray kind w m r p → i < length_of p → IsElement p i
array_element kind w m i r (Own (One v)) d a l = absurd a
array_element kind w m i r (Own (Many k x vs)) d a l = l
array_element kind w m i r (Own (Any o)) d a l = absurd a
array_element kind w m i r (Own (Anys x os)) d a l = absurd (d a.0)
array_element kind w m i r (Own (Table cs)) d a l = absurd a
array_element kind w m i r (Child c) d a l = absurd a
array_element kind w m i r (Children cs) d a l = absurd a

array_held : (w : Word) (m i : ℕ) (r : Bool) (p : Part Field) → layouts.IsArray General w m r p → i < length_of p → IsHeld p i
array_held w m i r (Own (One v)) a l = absurd a
array_held w m i r (Own (Many k x vs)) a l = absurd (a.4 refl)
array_held w m i r (Own (Any o)) a l = absurd a
array_held w m i r (Own (Anys x os)) a l = l
array_held w m i r (Own (Table cs)) a l = absurd a
array_held w m i r (Child c) a l = absurd a
array_held w m i r (Children cs) a l = absurd a

array_kept : (kind : Kind) (w v : Word) (m : ℕ) (r : Bool) (p : Part Field) → kind ≢ General → InRange kind (number_of v) → layouts.IsArray kind w m r p → IsKept p (number_of v)
array_kept kind w v m r (Own (One x)) d g a = absurd a
array_kept kind w v m r (Own (Many k x vs)) d g a = subst (λ (y : Kind). InRange y (number_of v)) (sym a.0) g
array_kept kind w v m r (Own (Any o)) d g a = absurd a
array_kept kind w v m r (Own (Anys x os)) d g a = absurd (d a.0)
array_kept kind w v m r (Own (Table cs)) d g a = absurd a
array_kept kind w v m r (Child c) d g a = absurd a
array_kept kind w v m r (Children cs) d g a = absurd a

array_sized : (h : Objects) (kind : Kind) (w : Word) (m : ℕ) (r : Bool) (p : Part Field) → layouts.IsInitial h kind w → layouts.IsArray kind w m r p → IsSized p × IsFilled h p
array_sized h kind w m r (Own (One v)) i a = absurd a
array_sized h kind w m r (Own (Many k x vs)) i a = (tt, tt)
array_sized h kind w m r (Own (Any o)) i a = absurd a
array_sized h kind w m r (Own (Anys x os)) i a = (tt, subst (Lies h) (sym a.1) (subst (λ (y : Kind). layouts.IsInitial h y w) a.0 i))
array_sized h kind w m r (Own (Table cs)) i a = absurd a
array_sized h kind w m r (Child c) i a = absurd a
array_sized h kind w m r (Children cs) i a = absurd a

child_there : (ns : Nodes) (n id : ℕ) (p : Part Field) → layouts.IsStobj ns n id p → HasChild p 0
child_there ns n id (Own o) a = absurd a
child_there ns n id (Child c) a = refl
child_there ns n id (Children cs) a = absurd a

children_there : (ns : Nodes) (n id m i : ℕ) (p : Part Field) → i < m → layouts.AreObjects ns n id m p → HasChild p i
children_there ns n id m i (Own o) l a = absurd a
children_there ns n id m i (Child c) l a = absurd a
children_there ns n id m i (Children cs) l a = subst (λ (k : ℕ). i < k) (sym a.0) l

children_many : (ns : Nodes) (n id m : ℕ) (p : Part Field) → m < 2 ^ 32 → layouts.AreObjects ns n id m p → HasLength p
children_many ns n id m (Own o) l a = absurd a
children_many ns n id m (Child c) l a = absurd a
children_many ns n id m (Children cs) l a = subst (λ (k : ℕ). k < 2 ^ 32) (sym a.0) l

-- a field of a layout that is kept
field_kept : (h : Objects) (ls : List Layout) (id f : ℕ) (field : LayoutField) → ((i g : ℕ) (layout : Layout) (x : LayoutField) → slice_get ls i ≡ Some layout → slice_get layout.fields.items g ≡ Some x → (j : ℕ) × layouts.IsField h j x)
    → field_in ls id f ≡ Some field → (j : ℕ) × layouts.IsField h j field
field_kept h [] id f field a e = absurd (none_some e)
field_kept h (l ∷ ls) zero f field a e = a 0 f l field refl e
field_kept h (l ∷ ls) (suc id) f field a e = field_kept h ls id f field (λ i g layout x p q. a (suc i) g layout x p q) e

pub layouts_tell : LayoutsTell
layouts_tell = record {
  inline = λ ls ns n f kind w g h d. by ls ns n f (fields.Scalar kind w) (λ p. IsElement p 0) g h (λ p at m. one_element kind p d m);
  word = λ ls ns n f kind w v g h d s. by ls ns n f (fields.Scalar kind w) (λ p. IsSmall v × IsKept p (number_of v)) g h (λ p at m. (s, one_kept kind p v d m));
  general = λ ls ns n f w g h. by ls ns n f (fields.Scalar General w) (λ p. IsHeld p 0) g h (λ p at m. one_held p m);
  elements = λ ls ns n f i kind w m r kept g h k d l. by ls ns n f (fields.Array kind w m r) (λ p. IsElement p i) g h
      (λ p at a. array_element kind w m i r p d a (subst (λ (c : ℕ). i < c) (measure_part ns kept k n f p at (array_many kind w m r p a)) l));
  fits = λ ls ns n f kind w m r v g h d s i. by ls ns n f (fields.Array kind w m r) (λ p. IsSmall v × IsKept p (number_of v)) g h (λ p at a. (s, array_kept kind w v m r p d i a));
  objects = λ ls ns n f i w m r kept g h k l. by ls ns n f (fields.Array General w m r) (λ p. IsHeld p i) g h
      (λ p at a. array_held w m i r p a (subst (λ (c : ℕ). i < c) (measure_part ns kept k n f p at (array_many General w m r p a)) l));
  array = λ hs ls ns n f kind w m r b g h. by ls ns n f (fields.Array kind w m r) (λ p. IsSized p × IsFilled hs p) g h
      (λ p at a. array_sized hs kind w m r p (field_kept hs ls (layout_at ns n) f (fields.Array kind w m r) (λ i q layout x e o. (i, b i q layout x e o)) h.1).1 a);
  many = λ ls ns n f kind w m r g h. by ls ns n f (fields.Array kind w m r) HasLength g h (λ p at a. array_many kind w m r p a);
  hash = λ ls ns n f test g h. by ls ns n f (fields.Hash test) (λ p. IsSome (table_in p)) g h (λ p at m. m);
  child = λ ls ns n f c g h. by ls ns n f (fields.Child c) (λ p. HasChild p 0) g h (λ p at m. child_there ns n c.0 p m);
  children = λ ls ns n f i c m g h l. by ls ns n f (fields.Children c m) (λ p. HasChild p i) g h (λ p at a. children_there ns n c.0 m i p l a);
  lengths = λ ls ns n f c m g h l. by ls ns n f (fields.Children c m) HasLength g h (λ p at a. children_many ns n c.0 m p l a);
}
