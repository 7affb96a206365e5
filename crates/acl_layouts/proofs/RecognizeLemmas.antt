-- What is as a layout says.
use Rattle.std.specs.Prelude.{◌≡◌, ◌≢◌, ℕ, zero, suc, ◌+◌, ◌-◌, ◌<◌, ◌≤◌, Bool, true, false, ◌&&◌, ◌||◌, nat_eq, List, [], ◌∷◌, length, map, drop, Option, Some, None, slice_get, is_some, refl}
use Rattle.std.proofs.Common.{sym, ap, ◌∙◌, subst, arith}
use Rattle.acl_base.specs.declared.SymId.{SymId}
use Rattle.acl_base.specs.declared.Word.{Word}
use Rattle.acl_base.specs.declared.layout.Test.{Test}
use Rattle.acl_heap.specs.Objects.{Objects, object_of, reach}
use Rattle.acl_terms.specs.declared.stobj.Shape.{Shape}
use Rattle.acl_terms.specs.declared.stobj.Shape.TheVariants as shape
use Rattle.acl_terms.specs.declared.stobj.FieldDescriptor.{FieldDescriptor}
use Rattle.acl_terms.specs.Definitions.{seen_shape, seen_field, shape_reach}
use Rattle.model_objects.specs.Object.{Object, Integer, Symbol, Text, Pair}
use Rattle.model_prims.specs.Kinds.{by_number, is_nil, is_pair}
use Rattle.model_prims.specs.Lists.{len}
use Rattle.model_lists.specs.Types.{meets}
use Rattle.model_lists.specs.Layouts.{Layout, NoField, Field, recognizes, field_recognizes, every}
use Rattle.model_terms.specs.Worlds as worlds
use Rattle.model_terms.specs.Accessors.{descriptor_in}
use Rattle.model_eval.specs.StobjLayouts.{field_type, shape_layout, fields_layout, defined_layout, layout_within}
use Rattle.model_expansion.specs.TypeTerms.{accepted_type}
use Rattle.acl_new_lists.specs.Begun.{itself, foundation_in}
use Rattle.acl_layouts.specs.Typed.{IsTyped}
use Rattle.acl_layouts.specs.Laid.{laid, fields_laid, stobj_laid}
use Rattle.acl_layouts.proofs.LaidLemmas.{stobj_nowhere, stobj_unknown, stobj_abstract, stobj_concrete, stobj_other}

-- ---- what shapes ask for

pub scalar_reach : (h : Objects) (s : Shape) (spec start : Word) → s ≡ shape.Scalar spec start → shape_reach s ≤ length h → reach spec ≤ length h
scalar_reach h s spec start e l = let m : shape_reach (shape.Scalar spec start) ≤ length h = subst (λ t. shape_reach t ≤ length h) e l in omega (arith, m)

pub array_reach : (h : Objects) (s : Shape) (spec start : Word) (len : ℕ) (resizable : Bool) → s ≡ shape.Array spec start len resizable → shape_reach s ≤ length h → reach spec ≤ length h
array_reach h s spec start len resizable e l = let m : shape_reach (shape.Array spec start len resizable) ≤ length h = subst (λ t. shape_reach t ≤ length h) e l in omega (arith, m)

pub scalar_typed : (h : Objects) (s : Shape) (spec start : Word) → s ≡ shape.Scalar spec start → IsTyped (seen_shape h s) → is_some (accepted_type (object_of h spec)) ≡ true
scalar_typed h s spec start e t = subst (λ u. IsTyped (seen_shape h u)) e t

pub array_typed : (h : Objects) (s : Shape) (spec start : Word) (len : ℕ) (resizable : Bool) → s ≡ shape.Array spec start len resizable → IsTyped (seen_shape h s)
    → is_some (accepted_type (object_of h spec)) ≡ true
array_typed h s spec start len resizable e t = subst (λ u. IsTyped (seen_shape h u)) e t

-- ---- fields by their shapes

module _ (w : worlds.World) (h : Objects) (d : ℕ) (s : Shape) (x : Object ℕ) (b : Bool) where
  pub scalar_shown : (spec start : Word) → s ≡ shape.Scalar spec start → b ≡ meets by_number (field_type itself (object_of h spec)) x → b ≡ recognizes by_number (laid w d (seen_shape h s)) x
  unfolding laid
  scalar_shown spec start e i = i ∙ ap (λ t. recognizes by_number (shape_layout itself (layout_within itself w d) (seen_shape h t)) x) (sym e)

  pub array_shown : (spec start : Word) (n : ℕ) (resizable all long : Bool) → s ≡ shape.Array spec start n resizable → b ≡ (all && (resizable || long))
      → all ≡ every by_number (meets by_number (field_type itself (object_of h spec))) x → long ≡ nat_eq (len x) n → b ≡ recognizes by_number (laid w d (seen_shape h s)) x
  unfolding laid
  array_shown spec start n resizable all long e i j k =
      i
      ∙ (ap (λ q. q && (resizable || long)) j
      ∙ (ap (λ q. every by_number (meets by_number (field_type itself (object_of h spec))) x && (resizable || q)) k
      ∙ ap (λ t. recognizes by_number (shape_layout itself (layout_within itself w d) (seen_shape h t)) x) (sym e)))

  pub hash_shown : (test : Test) → s ≡ shape.Hash test → b ≡ true → b ≡ recognizes by_number (laid w d (seen_shape h s)) x
  unfolding laid
  hash_shown test e i = i ∙ ap (λ t. recognizes by_number (shape_layout itself (layout_within itself w d) (seen_shape h t)) x) (sym e)

  pub child_shown : (y : SymId) → s ≡ shape.Child y → b ≡ recognizes by_number (stobj_laid w d y.0) x → b ≡ recognizes by_number (laid w d (seen_shape h s)) x
  unfolding laid stobj_laid
  child_shown y e i = i ∙ ap (λ t. recognizes by_number (shape_layout itself (layout_within itself w d) (seen_shape h t)) x) (sym e)

  pub children_shown : (y : SymId) (n : ℕ) (all long : Bool) → s ≡ shape.Children y n → b ≡ (all && long) → all ≡ every by_number (recognizes by_number (stobj_laid w d y.0)) x → long ≡ nat_eq (len x) n
      → b ≡ recognizes by_number (laid w d (seen_shape h s)) x
  unfolding laid stobj_laid
  children_shown y n all long e i j k =
      i
      ∙ (ap (λ q. q && long) j
      ∙ (ap (λ q. every by_number (recognizes by_number (layout_within itself w d y.0)) x && q) k
      ∙ ap (λ t. recognizes by_number (shape_layout itself (layout_within itself w d) (seen_shape h t)) x) (sym e)))

-- ---- the recognizers of fields

told_by : (w : worlds.World) (child : ℕ → Layout ℕ) (o : Option worlds.Definition) (x : Object ℕ)
    → ((y : ℕ) → recognizes by_number (child y) x ≡ field_recognizes by_number (child y) x)
    → recognizes by_number (defined_layout itself child o) x ≡ field_recognizes by_number (defined_layout itself child o) x
told_by w child None x c = refl
told_by w child (Some (worlds.Primitive name row)) x c = refl
told_by w child (Some (worlds.Defined f)) x c = refl
told_by w child (Some (worlds.Macro name formals body)) x c = refl
told_by w child (Some (worlds.Constant name value)) x c = refl
told_by w child (Some (worlds.Concrete e class)) x c = among e.fields where
  among : (fs : List worlds.Field) → recognizes by_number (fields_layout itself child fs) x ≡ field_recognizes by_number (fields_layout itself child fs) x
  among [] = refl
  among (f ∷ fs) = refl
told_by w child (Some (worlds.Generated f)) x c = refl
told_by w child (Some (worlds.Abstract a)) x c = c a.foundation
told_by w child (Some (worlds.OfAbstract f)) x c = refl
told_by w child (Some (worlds.Named name formals)) x c = refl
told_by w child (Some (worlds.Signed name formals signature executable)) x c = refl

stobj_told : (w : worlds.World) (d y : ℕ) (x : Object ℕ) → recognizes by_number (layout_within itself w d y) x ≡ field_recognizes by_number (layout_within itself w d y) x
unfolding layout_within
stobj_told w zero y x = refl
stobj_told w (suc d) y x = told_by w (layout_within itself w d) (worlds.definition w y) x (λ z. stobj_told w d z x)

module _ (w : worlds.World) (h : Objects) (d : ℕ) (s : Shape) (x : Object ℕ) (b : Bool) where
  pub scalar_told : (spec start : Word) → s ≡ shape.Scalar spec start → b ≡ meets by_number (field_type itself (object_of h spec)) x → b ≡ field_recognizes by_number (laid w d (seen_shape h s)) x
  unfolding laid
  scalar_told spec start e i = i ∙ ap (λ t. field_recognizes by_number (shape_layout itself (layout_within itself w d) (seen_shape h t)) x) (sym e)

  pub array_told : (spec start : Word) (n : ℕ) (resizable : Bool) → s ≡ shape.Array spec start n resizable → b ≡ every by_number (meets by_number (field_type itself (object_of h spec))) x
      → b ≡ field_recognizes by_number (laid w d (seen_shape h s)) x
  unfolding laid
  array_told spec start n resizable e i = i ∙ ap (λ t. field_recognizes by_number (shape_layout itself (layout_within itself w d) (seen_shape h t)) x) (sym e)

  pub hash_told : (test : Test) → s ≡ shape.Hash test → b ≡ true → b ≡ field_recognizes by_number (laid w d (seen_shape h s)) x
  unfolding laid
  hash_told test e i = i ∙ ap (λ t. field_recognizes by_number (shape_layout itself (layout_within itself w d) (seen_shape h t)) x) (sym e)

  pub child_told : (y : SymId) → s ≡ shape.Child y → b ≡ recognizes by_number (stobj_laid w d y.0) x → b ≡ field_recognizes by_number (laid w d (seen_shape h s)) x
  unfolding laid stobj_laid
  child_told y e i = i ∙ (stobj_told w d y.0 x ∙ ap (λ t. field_recognizes by_number (shape_layout itself (layout_within itself w d) (seen_shape h t)) x) (sym e))

  pub children_told : (y : SymId) (n : ℕ) → s ≡ shape.Children y n → b ≡ every by_number (recognizes by_number (stobj_laid w d y.0)) x → b ≡ field_recognizes by_number (laid w d (seen_shape h s)) x
  unfolding laid stobj_laid
  children_told y n e i = i ∙ ap (λ t. field_recognizes by_number (shape_layout itself (layout_within itself w d) (seen_shape h t)) x) (sym e)

-- ---- fields one after the other

dropped : (h : Objects) (fs : List FieldDescriptor) (at : ℕ) (s : worlds.Shape) (child : ℕ → Layout ℕ) → slice_get (map (λ (g : worlds.Field). g.shape) (map (seen_field h) fs)) at ≡ Some s
    → fields_layout itself child (map (seen_field h) (drop at fs)) ≡ Field (shape_layout itself child s) (fields_layout itself child (map (seen_field h) (drop (suc at) fs)))
dropped h [] at s child e = cc
dropped h (f ∷ fs) zero s child e = let q : seen_shape h f.shape ≡ s = cc in ap (λ t. Field (shape_layout itself child t) (fields_layout itself child (map (seen_field h) fs))) q
dropped h (f ∷ fs) (suc at) s child e = dropped h fs at s child e

one_field : (w : worlds.World) (h : Objects) (d : ℕ) (fs : List FieldDescriptor) (at : ℕ) (s : worlds.Shape) → slice_get (map (λ (g : worlds.Field). g.shape) (map (seen_field h) fs)) at ≡ Some s
    → fields_laid w d (map (seen_field h) (drop at fs)) ≡ Field (laid w d s) (fields_laid w d (map (seen_field h) (drop (at + 1) fs)))
unfolding fields_laid laid
one_field w h d fs at s e =
    let n : suc at ≡ at + 1 = omega arith in
    dropped h fs at s (layout_within itself w d) e ∙ ap (λ k. Field (shape_layout itself (layout_within itself w d) s) (fields_layout itself (layout_within itself w d) (map (seen_field h) (drop k fs)))) n

both_shown : (a b : Layout ℕ) (o first next : Object ℕ) → o ≡ Pair first next → recognizes by_number (Field a b) o ≡ (recognizes by_number a first && recognizes by_number b next)
both_shown a b o first next e = ap (recognizes by_number (Field a b)) e

module _ (w : worlds.World) (h : Objects) (d : ℕ) (fs : List FieldDescriptor) (at : ℕ) (s : worlds.Shape) (o first next : Object ℕ) (all : Bool) where
  pub field_passed : slice_get (map (λ (g : worlds.Field). g.shape) (map (seen_field h) fs)) at ≡ Some s → o ≡ Pair first next → true ≡ recognizes by_number (laid w d s) first
      → recognizes by_number (fields_laid w d (map (seen_field h) (drop at fs))) o ≡ all → recognizes by_number (fields_laid w d (map (seen_field h) (drop (at + 1) fs))) next ≡ all
  field_passed e f g i =
      ap (λ q. q && recognizes by_number (fields_laid w d (map (seen_field h) (drop (at + 1) fs))) next) g
      ∙ (sym (both_shown (laid w d s) (fields_laid w d (map (seen_field h) (drop (at + 1) fs))) o first next f)
      ∙ (sym (ap (λ l. recognizes by_number l o) (one_field w h d fs at s e)) ∙ i))

  pub field_failed : slice_get (map (λ (g : worlds.Field). g.shape) (map (seen_field h) fs)) at ≡ Some s → o ≡ Pair first next → false ≡ recognizes by_number (laid w d s) first
      → recognizes by_number (fields_laid w d (map (seen_field h) (drop at fs))) o ≡ all → false ≡ all
  field_failed e f g i =
      ap (λ q. q && recognizes by_number (fields_laid w d (map (seen_field h) (drop (at + 1) fs))) next) g
      ∙ (sym (both_shown (laid w d s) (fields_laid w d (map (seen_field h) (drop (at + 1) fs))) o first next f)
      ∙ (sym (ap (λ l. recognizes by_number l o) (one_field w h d fs at s e)) ∙ i))

-- a field is left where there is no pair
no_pair : (w : worlds.World) (d : ℕ) (h : Objects) (fs : List FieldDescriptor) (at : ℕ) (o : Object ℕ) → at < length fs → is_pair o ≡ false
    → recognizes by_number (fields_laid w d (map (seen_field h) (drop at fs))) o ≡ false
unfolding fields_laid
no_pair w d h [] at o l p = absurd (omega (arith, l))
no_pair w d h (f ∷ fs) zero o l p = not_shown (shape_layout itself (layout_within itself w d) (seen_shape h f.shape)) (fields_layout itself (layout_within itself w d) (map (seen_field h) fs)) o p where
  not_shown : (a b : Layout ℕ) (o : Object ℕ) → is_pair o ≡ false → recognizes by_number (Field a b) o ≡ false
  not_shown a b (Integer n) p = refl
  not_shown a b (Symbol s) p = refl
  not_shown a b (Text bytes) p = refl
  not_shown a b (Pair c d) p = cc
no_pair w d h (f ∷ fs) (suc at) o l p = no_pair w d h fs at o (omega (arith, l)) p

pub fields_short : (w : worlds.World) (d : ℕ) (h : Objects) (fs : List FieldDescriptor) (at : ℕ) (o : Object ℕ) (all : Bool) → at < length fs → is_pair o ≡ false
    → recognizes by_number (fields_laid w d (map (seen_field h) (drop at fs))) o ≡ all → false ≡ all
fields_short w d h fs at o all l p i = sym (no_pair w d h fs at o l p) ∙ i

dropped_all : {X : Type 0} (n : ℕ) (xs : List X) → length xs ≤ n → drop n xs ≡ []
dropped_all zero [] l = refl
dropped_all zero (x ∷ xs) l = absurd (omega (arith, l))
dropped_all (suc n) [] l = refl
dropped_all (suc n) (x ∷ xs) l = dropped_all n xs (omega (arith, l))

pub fields_end : (w : worlds.World) (d : ℕ) (h : Objects) (fs : List FieldDescriptor) (at : ℕ) (o : Object ℕ) (b all : Bool) → length fs ≤ at → b ≡ is_nil by_number o
    → recognizes by_number (fields_laid w d (map (seen_field h) (drop at fs))) o ≡ all → b ≡ all
unfolding fields_laid
fields_end w d h fs at o b all l e i = e ∙ (sym (ap (λ gs. recognizes by_number (fields_layout itself (layout_within itself w d) (map (seen_field h) gs)) o) (dropped_all at fs l)) ∙ i)

-- ---- a stobj

module _ (w : worlds.World) (d y : ℕ) (x : Object ℕ) (b : Bool) where
  pub shown_nowhere : d ≡ 0 → b ≡ is_nil by_number x → b ≡ recognizes by_number (stobj_laid w d y) x
  shown_nowhere z i = i ∙ ap (λ l. recognizes by_number l x) (stobj_nowhere w d y z)

  pub shown_unknown : d ≢ 0 → None ≡ worlds.definition w y → b ≡ is_nil by_number x → b ≡ recognizes by_number (stobj_laid w d y) x
  shown_unknown p e i = i ∙ ap (λ l. recognizes by_number l x) (stobj_unknown w d y p e)

  pub shown_abstract : (e : worlds.Definition) (f : ℕ) → d ≢ 0 → Some e ≡ worlds.definition w y → Some f ≡ foundation_in e → b ≡ recognizes by_number (stobj_laid w (d - 1) f) x
      → b ≡ recognizes by_number (stobj_laid w d y) x
  shown_abstract e f p k h i = i ∙ ap (λ l. recognizes by_number l x) (stobj_abstract w d y e f p k h)

  pub shown_concrete : (e : worlds.Definition) (c : worlds.Descriptor) → d ≢ 0 → Some e ≡ worlds.definition w y → Some c ≡ descriptor_in e → b ≡ recognizes by_number (fields_laid w (d - 1) c.fields) x
      → b ≡ recognizes by_number (stobj_laid w d y) x
  shown_concrete e c p k h i = i ∙ ap (λ l. recognizes by_number l x) (stobj_concrete w d y e c p k h)

  pub shown_other : (e : worlds.Definition) → d ≢ 0 → Some e ≡ worlds.definition w y → None ≡ foundation_in e → None ≡ descriptor_in e → b ≡ is_nil by_number x
      → b ≡ recognizes by_number (stobj_laid w d y) x
  shown_other e p k h g i = i ∙ ap (λ l. recognizes by_number l x) (stobj_other w d y e p k h g)
