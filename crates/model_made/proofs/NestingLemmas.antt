-- Layouts of concrete stobjs: one that nests less than so many is the same at each depth from there on.
use Rattle.std.proofs.Common.{◌≡◌, ℕ, zero, suc, ◌+◌, ◌<◌, ◌≤◌, List, [], ◌∷◌, map, Option, Some, None, refl, sym, ap, ◌∙◌, subst, arith, inl, inr}
use Rattle.std.specs.Prelude.{option_and_then}
use Rattle.std.specs.Option.{option_map_or}
use Rattle.model_objects.specs.Object.{Object}
use Rattle.model_lists.specs.Layouts.{Layout}
use Rattle.model_lists.specs.Layouts as layout
use Rattle.model_terms.specs.Worlds.{World, Definition, Descriptor, Shape, Field, definition, Primitive, Defined, Macro, Constant, Concrete, Generated, Abstract, OfAbstract, Named, Signed}
use Rattle.model_terms.specs.Worlds as worlds
use Rattle.model_terms.specs.Accessors.{descriptor_in, descriptor_of}
use Rattle.model_eval.specs.StobjLayouts.{layout_within, defined_layout, fields_layout, shape_layout}
use Rattle.model_eval_laws.specs.Agreement.{ShapeStands, FieldsStand, ClosedDefinition, StandsIn, IsClosedWorld}
use Rattle.model_stobjs.specs.Descriptors.{held_stobj, most_of, field_nesting, nesting_by, nesting_within}
use Rattle.model_made.specs.Lawful.{IsConcreteStobj, IsConcreteIfAny, FieldsAreConcrete}
use Rattle.model_made.proofs.MemberLemmas.{IsIn}

abbrev pub see : Object ℕ → Object ℕ
see o = o

-- ---- a concrete stobj is a definition

pub record IsConcreteAt (w : World) (x : ℕ) : Type 0 where
  pub descriptor : Descriptor
  pub class : ℕ
  pub there : definition w x ≡ Some (Concrete descriptor class)
  pub found : descriptor_of w x ≡ Some descriptor

pub concrete_at : (w : World) (x : ℕ) → IsConcreteStobj w x → IsConcreteAt w x
concrete_at w x h = go (definition w x) refl h.1
  where
    is : {a b : Descriptor} → Some a ≡ Some b → a ≡ b
    is e = cc

    go : (d : Option Definition) → definition w x ≡ d → option_and_then descriptor_in d ≡ Some h.0 → IsConcreteAt w x
    go None e f = cc
    go (Some (Primitive name row)) e f = cc
    go (Some (Defined g)) e f = cc
    go (Some (Macro name formals body)) e f = cc
    go (Some (Constant name value)) e f = cc
    go (Some (Concrete d class)) e f = record { descriptor = d; class = class; there = e; found = ap (option_and_then descriptor_in) e }
    go (Some (Generated g)) e f = cc
    go (Some (Abstract d)) e f = cc
    go (Some (OfAbstract g)) e f = cc
    go (Some (Named name formals)) e f = cc
    go (Some (Signed name formals signature executable)) e f = cc

-- ---- fields, where layouts of children are the same

module _ (one other : ℕ → Layout ℕ) where
  pub same_fields : (fs : List Field) → ((f : Field) → IsIn f fs → shape_layout see one f.shape ≡ shape_layout see other f.shape) → fields_layout see one fs ≡ fields_layout see other fs
  same_fields [] h = refl
  same_fields (f ∷ fs) h = rw (h f (inl refl), same_fields fs (λ g i. h g (inr i))) refl

  same_shape : (s : Shape) → ((x : ℕ) → held_stobj s ≡ Some x → one x ≡ other x) → shape_layout see one s ≡ shape_layout see other s
  same_shape (worlds.Scalar written initial) h = refl
  same_shape (worlds.Array written initial length resizable) h = refl
  same_shape (worlds.Hash test) h = refl
  same_shape (worlds.Child stobj) h = h stobj refl
  same_shape (worlds.Children stobj length) h = ap (layout.Children length) (h stobj refl)

  -- the same of fields whose stobjs have the property
  pub fields_alike : (P : ℕ → Type 0) → ((x : ℕ) → P x → one x ≡ other x) → (fs : List Field) → ((f : Field) (x : ℕ) → IsIn f fs → held_stobj f.shape ≡ Some x → P x) → fields_layout see one fs ≡ fields_layout see other fs
  fields_alike P same fs h = same_fields fs (λ f i. same_shape f.shape (λ x e. same x (h f x i e)))

-- ---- one more level

module _ (w : World) (children : (x class : ℕ) (d : Descriptor) → definition w x ≡ Some (Concrete d class) → FieldsAreConcrete w d.fields) where
  below_most : (nest : ℕ → ℕ) (fs : List Field) (f : Field) (x : ℕ) → IsIn f fs → held_stobj f.shape ≡ Some x → nest x ≤ most_of (map (field_nesting nest) fs)
  below_most nest [] f x i e = absurd i
  below_most nest (g ∷ fs) f x (inl same) e =
      let here : field_nesting nest g ≡ nest x = ap (λ (v : Option ℕ). option_map_or nest v 0) (ap (λ (h : Field). held_stobj h.shape) (sym same) ∙ e) in
      omega (arith, here)
  below_most nest (g ∷ fs) f x (inr i) e = let later = below_most nest fs f x i e in omega (arith, later)

  pub concrete_child : (fs : List Field) → FieldsAreConcrete w fs → (f : Field) (x : ℕ) → IsIn f fs → held_stobj f.shape ≡ Some x → IsConcreteStobj w x
  concrete_child [] h f x i e = absurd i
  concrete_child (g ∷ fs) h f x (inl same) e = subst (IsConcreteIfAny w) (ap (λ (h : Field). held_stobj h.shape) (sym same) ∙ e) h.0
  concrete_child (g ∷ fs) h f x (inr i) e = concrete_child fs h.1 f x i e

  -- a stobj that nests less than n
  abbrev NestsBelow : ℕ → ℕ → Type 0
  NestsBelow n x = IsConcreteStobj w x × (nesting_within w n x < n)

  pub one_deeper : (n x : ℕ) → IsConcreteStobj w x → nesting_within w n x < n → layout_within see w n x ≡ layout_within see w (suc n) x
  unfolding layout_within nesting_within
  one_deeper zero x h l = absurd (let never : ⊥ = omega (arith, l) in never)
  one_deeper (suc n) x h l =
      let at = concrete_at w x h in
      let fields : fields_layout see (layout_within see w n) at.descriptor.fields ≡ fields_layout see (layout_within see w (suc n)) at.descriptor.fields
      = fields_alike (layout_within see w n) (layout_within see w (suc n)) (NestsBelow n) (λ y k. one_deeper n y k.0 k.1) at.descriptor.fields (λ f y i e.
      let below : nesting_within w n y ≤ most_of (map (field_nesting (nesting_within w n)) at.descriptor.fields) = below_most (nesting_within w n) at.descriptor.fields f y i e in
      let here : nesting_by (nesting_within w n) (descriptor_of w x) ≡ most_of (map (field_nesting (nesting_within w n)) at.descriptor.fields) + 1 = ap (nesting_by (nesting_within w n)) at.found in
      (concrete_child at.descriptor.fields (children x at.class at.descriptor at.there) f y i e, omega (arith, below, here, l))) in
      ap (defined_layout see (layout_within see w n)) at.there ∙ (fields ∙ sym (ap (defined_layout see (layout_within see w (suc n))) at.there))

-- ---- a world with more definitions

module _ (w new : World) (closed : IsClosedWorld w) (later : (x : ℕ) (d : Definition) → definition w x ≡ Some d → definition new x ≡ Some d) where
  shape_still : (one other : ℕ → Layout ℕ) → ((x : ℕ) → StandsIn w x → one x ≡ other x) → (s : Shape) → ShapeStands (StandsIn w) s → shape_layout see one s ≡ shape_layout see other s
  shape_still one other same (worlds.Scalar written initial) h = refl
  shape_still one other same (worlds.Array written initial length resizable) h = refl
  shape_still one other same (worlds.Hash test) h = refl
  shape_still one other same (worlds.Child stobj) h = same stobj h
  shape_still one other same (worlds.Children stobj length) h = ap (layout.Children length) (same stobj h)

  fields_still : (one other : ℕ → Layout ℕ) → ((x : ℕ) → StandsIn w x → one x ≡ other x) → (fs : List Field) → FieldsStand (StandsIn w) fs → fields_layout see one fs ≡ fields_layout see other fs
  fields_still one other same [] h = refl
  fields_still one other same (f ∷ fs) h = rw (shape_still one other same f.shape h.0, fields_still one other same fs h.1) refl

  definition_still : (one other : ℕ → Layout ℕ) → ((x : ℕ) → StandsIn w x → one x ≡ other x) → (d : Definition) → ClosedDefinition (StandsIn w) d → defined_layout see one (Some d) ≡ defined_layout see other (Some d)
  definition_still one other same (Primitive name row) h = refl
  definition_still one other same (Defined f) h = refl
  definition_still one other same (Macro name formals body) h = refl
  definition_still one other same (Constant name value) h = refl
  definition_still one other same (Concrete d class) h = fields_still one other same d.fields h
  definition_still one other same (Generated f) h = refl
  definition_still one other same (Abstract d) h = same d.foundation h
  definition_still one other same (OfAbstract f) h = refl
  definition_still one other same (Named name formals) h = refl
  definition_still one other same (Signed name formals signature executable) h = refl

  pub within_still : (n x : ℕ) → StandsIn w x → layout_within see new n x ≡ layout_within see w n x
  unfolding layout_within
  within_still zero x s = refl
  within_still (suc n) x s =
      ap (defined_layout see (layout_within see new n)) (later x s.0 s.1)
      ∙ (definition_still (layout_within see new n) (layout_within see w n) (within_still n) s.0 (closed.definitions x s.0 s.1) ∙ ap (defined_layout see (layout_within see w n)) (sym s.1))

  -- ---- how deep stobjs nest

  fields_nest : (one other : ℕ → ℕ) → ((x : ℕ) → StandsIn w x → one x ≡ other x) → (fs : List Field) → FieldsStand (StandsIn w) fs → map (field_nesting one) fs ≡ map (field_nesting other) fs
  fields_nest one other same [] h = refl
  fields_nest one other same (f ∷ fs) h = rw (shape_nests f.shape h.0, fields_nest one other same fs h.1) refl
    where
      shape_nests : (s : Shape) → ShapeStands (StandsIn w) s → option_map_or one (held_stobj s) 0 ≡ option_map_or other (held_stobj s) 0
      shape_nests (worlds.Scalar written initial) h = refl
      shape_nests (worlds.Array written initial length resizable) h = refl
      shape_nests (worlds.Hash test) h = refl
      shape_nests (worlds.Child stobj) h = same stobj h
      shape_nests (worlds.Children stobj length) h = same stobj h

  definition_nests : (one other : ℕ → ℕ) → ((x : ℕ) → StandsIn w x → one x ≡ other x) → (d : Definition) → ClosedDefinition (StandsIn w) d → nesting_by one (option_and_then descriptor_in (Some d)) ≡ nesting_by other (option_and_then descriptor_in (Some d))
  definition_nests one other same (Primitive name row) h = refl
  definition_nests one other same (Defined f) h = refl
  definition_nests one other same (Macro name formals body) h = refl
  definition_nests one other same (Constant name value) h = refl
  definition_nests one other same (Concrete d class) h = ap (λ (ns : List ℕ). most_of ns + 1) (fields_nest one other same d.fields h)
  definition_nests one other same (Generated f) h = refl
  definition_nests one other same (Abstract d) h = refl
  definition_nests one other same (OfAbstract f) h = refl
  definition_nests one other same (Named name formals) h = refl
  definition_nests one other same (Signed name formals signature executable) h = refl

  pub nesting_still : (n x : ℕ) → StandsIn w x → nesting_within new n x ≡ nesting_within w n x
  unfolding nesting_within
  nesting_still zero x s = refl
  nesting_still (suc n) x s =
      ap (λ (d : Option Definition). nesting_by (nesting_within new n) (option_and_then descriptor_in d)) (later x s.0 s.1)
      ∙ (definition_nests (nesting_within new n) (nesting_within w n) (nesting_still n) s.0 (closed.definitions x s.0 s.1) ∙ ap (λ (d : Option Definition). nesting_by (nesting_within w n) (option_and_then descriptor_in d)) (sym s.1))

-- ---- an abstract stobj stands one level above its foundation

module _ (w : World) (children : (x class : ℕ) (d : Descriptor) → definition w x ≡ Some (Concrete d class) → FieldsAreConcrete w d.fields) where
  pub deep_enough : (n x : ℕ) → IsConcreteStobj w x → nesting_within w (suc n) x ≤ n → layout_within see w n x ≡ layout_within see w (suc n) x
  unfolding layout_within nesting_within
  deep_enough zero x h l =
      let at = concrete_at w x h in
      let here : nesting_by (nesting_within w 0) (descriptor_of w x) ≡ most_of (map (field_nesting (nesting_within w 0)) at.descriptor.fields) + 1 = ap (nesting_by (nesting_within w 0)) at.found in
      absurd (let never : ⊥ = omega (arith, here, l) in never)
  deep_enough (suc n) x h l =
      let at = concrete_at w x h in
      let here : nesting_by (nesting_within w (suc n)) (descriptor_of w x) ≡ most_of (map (field_nesting (nesting_within w (suc n))) at.descriptor.fields) + 1 = ap (nesting_by (nesting_within w (suc n))) at.found in
      let fields : fields_layout see (layout_within see w n) at.descriptor.fields ≡ fields_layout see (layout_within see w (suc n)) at.descriptor.fields
      = fields_alike (layout_within see w n) (layout_within see w (suc n)) (λ y. IsConcreteStobj w y × (nesting_within w (suc n) y ≤ n)) (λ y k. deep_enough n y k.0 k.1) at.descriptor.fields (λ f y i e.
      let below : nesting_within w (suc n) y ≤ most_of (map (field_nesting (nesting_within w (suc n))) at.descriptor.fields) = below_most w children (nesting_within w (suc n)) at.descriptor.fields f y i e in
      (concrete_child w children at.descriptor.fields (children x at.class at.descriptor at.there) f y i e, omega (arith, below, here, l))) in
      ap (defined_layout see (layout_within see w n)) at.there ∙ (fields ∙ sym (ap (defined_layout see (layout_within see w (suc n))) at.there))
