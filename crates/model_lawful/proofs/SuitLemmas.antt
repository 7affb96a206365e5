-- What was found in a world still stands in what it becomes.
use Rattle.std.proofs.Common.{◌≡◌, ℕ, zero, suc, List, [], ◌∷◌, true, false, Option, Some, None, refl, sym, ap, ◌∙◌, subst}
use Rattle.std.specs.Prelude.{slice_get, option_and_then}
use Rattle.model_objects.specs.Object.{Object}
use Rattle.model_lists.specs.Layouts.{Layout, NoField}
use Rattle.model_lists.specs.Layouts as layout
use Rattle.model_terms.specs.Worlds.{World, Definition, Descriptor, Shape, Field, GeneratedFunction, Signature, definition, Primitive, Defined, Macro, Constant, Concrete, Generated, Abstract, OfAbstract, Named, Signed}
use Rattle.model_terms.specs.Worlds as worlds
use Rattle.model_terms.specs.Classes.{class_in, class_of, same_class, congruent}
use Rattle.model_terms.specs.Outputs.{signature_in}
use Rattle.model_terms.specs.declared.role.Role.{Role}
use Rattle.model_terms.specs.declared.role.Role.TheVariants as role
use Rattle.model_terms.specs.Accessors.{HeldStobjs, One, Many, ChildAccessor, child_accessor, accessor_in, accessor_to, descriptor_in, descriptor_of, held_by, held_in, is_kept_back, is_internal, is_executable}
use Rattle.model_eval.specs.StobjLayouts.{layout_within, defined_layout, fields_layout, shape_layout, most_nested}
use Rattle.model_eval.specs.Lending as eval
use Rattle.model_eval_laws.specs.Agreement.{ShapeStands, FieldsStand, ClosedDefinition, StandsIn, IsClosedWorld}
use Rattle.model_accepted.specs.Threaded.{layout_of, IsField, IsHeld, Runs, Reaches}
use Rattle.model_lawful.specs.Growth.{IsSettled, Becomes, SuitsWhatItBecomes}
use Rattle.model_accepted.proofs.AcceptLemmas.{false_true}
use Rattle.model_accepted.proofs.ScopeLemmas.{some_same, none_some}

module _ (c w : World) (closed : IsClosedWorld c) (b : Becomes c w) where
  abbrev see : Object ℕ → Object ℕ
  see o = o

  -- ---- layouts

  module _ (one other : ℕ → Layout ℕ) (same : (x : ℕ) → StandsIn c x → one x ≡ other x) where
    same_shape : (s : Shape) → ShapeStands (StandsIn c) s → shape_layout see one s ≡ shape_layout see other s
    same_shape (worlds.Scalar written initial) h = refl
    same_shape (worlds.Array written initial length resizable) h = refl
    same_shape (worlds.Hash test) h = refl
    same_shape (worlds.Child stobj) h = same stobj h
    same_shape (worlds.Children stobj length) h = ap (layout.Children length) (same stobj h)

    same_fields : (fs : List Field) → FieldsStand (StandsIn c) fs → fields_layout see one fs ≡ fields_layout see other fs
    same_fields [] h = refl
    same_fields (f ∷ fs) h = rw (same_shape f.shape h.0, same_fields fs h.1) refl

    same_defined : (x : ℕ) (d : Definition) → ClosedDefinition (StandsIn c) d → IsSettled w x d → defined_layout see one (definition w x) ≡ defined_layout see other (Some d)
    same_defined x (Primitive name row) h i = rw i refl
    same_defined x (Defined f) h i = rw i refl
    same_defined x (Macro name formals body) h i = rw i refl
    same_defined x (Constant name value) h i = rw i refl
    same_defined x (Concrete d class) h i = rw i (same_fields d.fields h)
    same_defined x (Generated f) h i = rw i refl
    same_defined x (Abstract d) h i = rw i (same d.foundation h)
    same_defined x (OfAbstract f) h i = rw i refl
    same_defined x (Named name formals) h i = rw i refl
    same_defined x (Signed name formals signature executable) h i = rw i.1 refl

  same_within : (n x : ℕ) → StandsIn c x → layout_within see w n x ≡ layout_within see c n x
  unfolding layout_within
  same_within zero x s = refl
  same_within (suc n) x s =
      same_defined (layout_within see w n) (layout_within see c n) (same_within n) x s.0 (closed.definitions x s.0 s.1) (b.each x s.0 s.1)
      ∙ ap (defined_layout see (layout_within see c n)) (sym s.1)

  pub same_layout : (x : ℕ) → StandsIn c x → layout_of w x ≡ layout_of c x
  same_layout x s = same_within (suc most_nested) x s

  -- ---- descriptors

  same_descriptor : (x : ℕ) (d : Definition) → definition c x ≡ Some d → IsSettled w x d → descriptor_of w x ≡ descriptor_of c x
  same_descriptor x (Primitive name row) e i = rw (e, i) refl
  same_descriptor x (Defined f) e i = rw (e, i) refl
  same_descriptor x (Macro name formals body) e i = rw (e, i) refl
  same_descriptor x (Constant name value) e i = rw (e, i) refl
  same_descriptor x (Concrete d class) e i = rw (e, i) refl
  same_descriptor x (Generated f) e i = rw (e, i) refl
  same_descriptor x (Abstract d) e i = rw (e, i) refl
  same_descriptor x (OfAbstract f) e i = rw (e, i) refl
  same_descriptor x (Named name formals) e i = rw (e, i) refl
  same_descriptor x (Signed name formals signature executable) e i = rw (e, i.1) refl

  pub same_held : (g : GeneratedFunction) → StandsIn c g.stobj → held_in w g ≡ held_in c g
  same_held g s =
      ap (λ (d : Option Descriptor). option_and_then (λ (e : Field). held_by e.shape) (option_and_then (λ k. option_and_then (λ (d : Descriptor). slice_get d.fields k) d) g.field)) (same_descriptor g.stobj s.0 s.1 (b.each g.stobj s.0 s.1))

  -- ---- functions

  runs_there : (f : ℕ) (d : Definition) (s : Signature) → definition c f ≡ Some d → signature_in d ≡ Some s → is_internal c d ≡ false → is_executable d ≡ true → Runs w f s
  runs_there f d s e signed kept run = go d e signed kept run (closed.definitions f d e) (b.each f d e)
    where
      go : (d : Definition) → definition c f ≡ Some d → signature_in d ≡ Some s → is_internal c d ≡ false → is_executable d ≡ true → ClosedDefinition (StandsIn c) d → IsSettled w f d → Runs w f s
      go (Primitive name row) e signed kept run h i = record { there = Primitive name row; stands = i; signed = signed; callable = refl; executable = refl }
      go (Defined g) e signed kept run h i = record { there = Defined g; stands = i; signed = signed; callable = refl; executable = run }
      go (Macro name formals body) e signed kept run h i = none_some signed
      go (Constant name value) e signed kept run h i = none_some signed
      go (Concrete d class) e signed kept run h i = none_some signed
      go (Generated g) e signed kept run h i = record { there = Generated g; stands = i; signed = signed; callable = ap (is_kept_back g.role) (same_held g h) ∙ kept; executable = refl }
      go (Abstract d) e signed kept run h i = none_some signed
      go (OfAbstract g) e signed kept run h i = record { there = OfAbstract g; stands = i; signed = signed; callable = kept; executable = refl }
      go (Named name formals) e signed kept run h i = none_some signed
      go (Signed name formals signature executable) e signed kept run h i =
          record { there = Defined i.0; stands = i.1; signed = ap (λ (s : Signature). Some s) i.2 ∙ signed; callable = refl; executable = i.3 ∙ run }

  -- ---- stobjs

  stands_class : (x : ℕ) (a : Option ℕ) → class_of c x ≡ a → (k : ℕ) → a ≡ Some k → StandsIn c x
  stands_class x a e k f = go (definition c x) refl (e ∙ f)
    where
      go : (d : Option Definition) → definition c x ≡ d → class_of c x ≡ Some k → StandsIn c x
      go None g h = none_some (ap (option_and_then class_in) (sym g) ∙ h)
      go (Some d) g h = (d, g)

  both_stand : (x y : ℕ) → congruent c x y ≡ true → StandsIn c x × StandsIn c y
  both_stand x y e = go (class_of c x) refl (class_of c y) refl e
    where
      go : (a : Option ℕ) → class_of c x ≡ a → (d : Option ℕ) → class_of c y ≡ d → same_class a d ≡ true → StandsIn c x × StandsIn c y
      go None f d g h = false_true h
      go (Some a) f None g h = false_true h
      go (Some a) f (Some d) g h = (stands_class x (Some a) f a refl, stands_class y (Some d) g d refl)

  -- what an accessor reaches stands
  record IsReached (f : ℕ) (a : ChildAccessor) : Type 0 where
    function : GeneratedFunction
    there : definition c f ≡ Some (Generated function)
    stobj : StandsIn c a.stobj
    held : (x : ℕ) → (a.holds ≡ One x) → StandsIn c x
    holds : (x : ℕ) → (a.holds ≡ Many x) → StandsIn c x

  -- the stobjs of a field that is one of these
  field_stands : (fs : List Field) (k : ℕ) (e : Field) → FieldsStand (StandsIn c) fs → slice_get fs k ≡ Some e → ShapeStands (StandsIn c) e.shape
  field_stands [] k e h g = none_some g
  field_stands (f ∷ fs) zero e h g = subst (λ (q : Field). ShapeStands (StandsIn c) q.shape) (some_same g) h.0
  field_stands (f ∷ fs) (suc k) e h g = field_stands fs k e h.1 g

  held_stands : (s : Shape) (h : HeldStobjs) → ShapeStands (StandsIn c) s → held_by s ≡ Some h → ((x : ℕ) → (h ≡ One x) → StandsIn c x) × ((x : ℕ) → (h ≡ Many x) → StandsIn c x)
  held_stands (worlds.Scalar written initial) h i e = none_some e
  held_stands (worlds.Array written initial length resizable) h i e = none_some e
  held_stands (worlds.Hash test) h i e = none_some e
  held_stands (worlds.Child stobj) h i e = ((λ x f. subst (StandsIn c) (one_same (some_same e ∙ f)) i), (λ x f. one_many (some_same e ∙ f)))
    where
      one_same : {x y : ℕ} → One x ≡ One y → x ≡ y
      one_same g = cc

      one_many : {A : Type 0} {x y : ℕ} → One x ≡ Many y → A
      one_many g = cc
  held_stands (worlds.Children stobj length) h i e = ((λ x f. many_one (some_same e ∙ f)), (λ x f. subst (StandsIn c) (many_same (some_same e ∙ f)) i))
    where
      many_same : {x y : ℕ} → Many x ≡ Many y → x ≡ y
      many_same g = cc

      many_one : {A : Type 0} {x y : ℕ} → Many x ≡ One y → A
      many_one g = cc

  -- the accessor of a child is a function of a stobj, of a field that holds it
  accessor_role : (g : GeneratedFunction) (r : Role) (k : Option ℕ) (h : Option HeldStobjs) (a : ChildAccessor) → accessor_to g r k h ≡ Some a
      → (n : ℕ) × (m : HeldStobjs) × (h ≡ Some m) × (a ≡ record { stobj = g.stobj; field = n; holds = m })
  accessor_role g role.Access (Some n) (Some m) a e = (n, m, refl, sym (some_same e))
  accessor_role g role.Access (Some n) None a e = none_some e
  accessor_role g role.Access None h a e = none_some e
  accessor_role g role.Recognizer k h a e = none_some e
  accessor_role g role.Creator k h a e = none_some e
  accessor_role g role.FieldRecognizer k h a e = none_some e
  accessor_role g role.Update k h a e = none_some e
  accessor_role g role.Length k h a e = none_some e
  accessor_role g role.Resize k h a e = none_some e
  accessor_role g role.HashGet k h a e = none_some e
  accessor_role g role.HashBoundp k h a e = none_some e
  accessor_role g role.HashGetBound k h a e = none_some e
  accessor_role g role.HashPut k h a e = none_some e
  accessor_role g role.HashRem k h a e = none_some e
  accessor_role g role.HashCount k h a e = none_some e
  accessor_role g role.HashClear k h a e = none_some e

  -- the stobjs that a held field names stand
  abbrev HoldsStand : HeldStobjs → Type 0
  HoldsStand m = ((x : ℕ) → (m ≡ One x) → StandsIn c x) × ((x : ℕ) → (m ≡ Many x) → StandsIn c x)

  fields_of : (x : ℕ) (d : Descriptor) → descriptor_of c x ≡ Some d → FieldsStand (StandsIn c) d.fields
  fields_of x d e = go (definition c x) refl e
    where
      concrete : (q : Definition) → descriptor_in q ≡ Some d → ClosedDefinition (StandsIn c) q → FieldsStand (StandsIn c) d.fields
      concrete (Primitive name row) f h = none_some f
      concrete (Defined f) g h = none_some g
      concrete (Macro name formals body) f h = none_some f
      concrete (Constant name value) f h = none_some f
      concrete (Concrete q class) f h = subst (λ (z : Descriptor). FieldsStand (StandsIn c) z.fields) (some_same f) h
      concrete (Generated g) f h = none_some f
      concrete (Abstract q) f h = none_some f
      concrete (OfAbstract g) f h = none_some f
      concrete (Named name formals) f h = none_some f
      concrete (Signed name formals signature executable) f h = none_some f

      go : (q : Option Definition) → definition c x ≡ q → option_and_then descriptor_in q ≡ Some d → FieldsStand (StandsIn c) d.fields
      go None f g = none_some g
      go (Some q) f g = concrete q g (closed.definitions x q f)

  held_are : (g : GeneratedFunction) (m : HeldStobjs) → held_in c g ≡ Some m → HoldsStand m
  held_are g m e = by_field g.field (descriptor_of c g.stobj) refl e
    where
      by_field : (k : Option ℕ) (d : Option Descriptor) → descriptor_of c g.stobj ≡ d
          → option_and_then (λ (e : Field). held_by e.shape) (option_and_then (λ k. option_and_then (λ (d : Descriptor). slice_get d.fields k) (descriptor_of c g.stobj)) k) ≡ Some m → HoldsStand m
      by_field None d f h = none_some h
      by_field (Some k) None f h =
          none_some (ap (λ (d : Option Descriptor). option_and_then (λ (e : Field). held_by e.shape) (option_and_then (λ (d : Descriptor). slice_get d.fields k) d)) (sym f) ∙ h)
      by_field (Some k) (Some d) f h =
          by_shape (slice_get d.fields k) refl (ap (λ (d : Option Descriptor). option_and_then (λ (e : Field). held_by e.shape) (option_and_then (λ (d : Descriptor). slice_get d.fields k) d)) (sym f) ∙ h)
        where
          by_shape : (e : Option Field) → slice_get d.fields k ≡ e → option_and_then (λ (e : Field). held_by e.shape) e ≡ Some m → HoldsStand m
          by_shape None i j = none_some j
          by_shape (Some e) i j = held_stands e.shape m (field_stands d.fields k e (fields_of g.stobj d f) i) j

  is_reached : (f : ℕ) (a : ChildAccessor) → child_accessor c f ≡ Some a → IsReached f a
  is_reached f a e = go (definition c f) refl e
    where
      by_definition : (d : Definition) → definition c f ≡ Some d → accessor_in c d ≡ Some a → IsReached f a
      by_definition (Generated g) i j =
          let k : (n : ℕ) × (m : HeldStobjs) × (held_in c g ≡ Some m) × (a ≡ record { stobj = g.stobj; field = n; holds = m }) = accessor_role g g.role g.field (held_in c g) a j in
          let stand : HoldsStand k.1 = held_are g k.1 k.2 in
          subst (IsReached f) (sym k.3)
          (record { function = g; there = i; stobj = closed.definitions f (Generated g) i; held = stand.0; holds = stand.1 })
      by_definition (Primitive name row) i j = none_some j
      by_definition (Defined g) i j = none_some j
      by_definition (Macro name formals body) i j = none_some j
      by_definition (Constant name value) i j = none_some j
      by_definition (Concrete d class) i j = none_some j
      by_definition (Abstract d) i j = none_some j
      by_definition (OfAbstract g) i j = none_some j
      by_definition (Named name formals) i j = none_some j
      by_definition (Signed name formals signature executable) i j = none_some j

      go : (d : Option Definition) → definition c f ≡ d → option_and_then (accessor_in c) d ≡ Some a → IsReached f a
      go None i j = none_some j
      go (Some d) i j = by_definition d i j

  held_later : (m : HeldStobjs) (field : Layout ℕ) → HoldsStand m → IsHeld c m field → IsHeld w m field
  held_later (One x) field s h = h ∙ sym (same_layout x (s.0 x refl))
  held_later (Many x) field s h = (h.0, h.1 ∙ ap (layout.Children h.0) (sym (same_layout x (s.1 x refl))))

  reaches_later : (f : ℕ) (a : ChildAccessor) → child_accessor c f ≡ Some a → Reaches c f a → Reaches w f a
  reaches_later f a e h =
      let r : IsReached f a = is_reached f a e in
      record {
        number = ap eval.field_number (b.each f (Generated r.function) r.there ∙ sym r.there) ∙ h.number;
        field = h.field;
        there = subst (λ (l : Layout ℕ). IsField a.field l h.field) (sym (same_layout a.stobj r.stobj)) h.there;
        held = held_later a.holds h.field (r.held, r.holds) h.held;
      }

pub suits_what_it_becomes : SuitsWhatItBecomes
suits_what_it_becomes = record {
  suits = λ c w closed lawful b. record {
    called = runs_there c w closed b;
    layouts = λ x y e.
        let both : StandsIn c x × StandsIn c y = both_stand c w closed b x y e in
        same_layout c w closed b x both.0 ∙ (lawful.layouts x y e ∙ sym (same_layout c w closed b y both.1));
    accessors = λ f a e. reaches_later c w closed b f a e (lawful.accessors f a e);
  };
}
