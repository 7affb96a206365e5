-- The definition of a concrete stobj keeps a world lawful.
use Rattle.std.proofs.Common.{◌≡◌, ◌≢◌, ℕ, zero, suc, ◌+◌, ◌<◌, List, [], ◌∷◌, ◌++◌, map, Bool, true, false, Option, Some, None, refl, sym, ap, ◌∙◌, subst, arith, inl, inr}
use Rattle.std.specs.Prelude.{◌⊎◌, nat_eq, unwrap_or, slice_get, option_map, option_and_then, if◌then◌else◌}
use Rattle.std.proofs.lemmas.Bool.{eqb-true}
use Rattle.model_lists.specs.Layouts.{Layout, field_layout}
use Rattle.model_lists.specs.Layouts as layout
use Rattle.model_terms.specs.declared.role.Role.{Role}
use Rattle.model_terms.specs.declared.role.Role.TheVariants as role
use Rattle.model_terms.specs.Worlds.{World, Out, Ordinary, Stobj, Signature, Shape, Scalar, Array, Hash, Child, Children, Field, Descriptor, GeneratedFunction, Definition, definition, Concrete, Generated}
use Rattle.model_terms.specs.Classes as classes
use Rattle.model_terms.specs.Classes.{class_in, class_of}
use Rattle.model_terms.specs.Accessors.{HeldStobjs, One, Many, ChildAccessor, accessor_to, accessor_in, descriptor_in, descriptor_of, held_by, held_in, is_kept_back, is_internal}
use Rattle.model_eval.specs.StobjLayouts.{layout_within, defined_layout, fields_layout, shape_layout, most_nested}
use Rattle.model_eval.specs.Lending as eval
use Rattle.model_eval_laws.specs.Agreement.{ShapeStands, FieldsStand, ClosedDefinition, StandsIn}
use Rattle.model_eval_alike.specs.FunctionLaws.{SuitsRole}
use Rattle.model_eval_laws.proofs.Lists.{same_number}
use Rattle.model_accepted.specs.Threaded.{layout_of, IsField, IsHeld, Reaches, role_outs, IsMade}
use Rattle.model_lawful.specs.Lawful.{IsReady}
use Rattle.model_accepted.proofs.AcceptLemmas.{true_false}
use Rattle.model_stobjs.specs.Descriptors.{held_stobj, nesting_within, mismatch_from}
use Rattle.model_stobjs.specs.Entries.{Task, field_tasks, function_of, named_tasks, field_functions, recognizer_task, creator_task, generated_functions, class_for, stobj_entries}
use Rattle.model_expansion.specs.Faults.{CongruenceMismatch}
use Rattle.model_made.specs.Lawful.{IsWellMade, IsAdmitted, IsConcreteStobj, IsConcreteIfAny, FieldsAreConcrete, HasStobjOrFew, NestsIfAny, FieldsNest, stobj_names, IsLawfulWorld}
use Rattle.model_made.proofs.WorldLemmas.{definition_old, definition_new}
use Rattle.model_made.proofs.GrowthLemmas.{Brings, stands_still, layout_still, concrete_still, grows}
use Rattle.model_made.proofs.EventLemmas.{none_some}
use Rattle.model_made.proofs.MemberLemmas.{IsIn}
use Rattle.model_made.proofs.NestingLemmas.{see, concrete_at, one_deeper, within_still, nesting_still}
use Rattle.model_made.proofs.DescriptorLemmas.{IsNested, IsGoodShape, FieldsGood, IsNew, matching_layouts}

-- ---- the functions of a field

-- what holds of a task, where the function may be called: its outputs, its only stobj, and the layout of its field
pub record IsFit (stobj : ℕ) (child : ℕ → Layout ℕ) (shape : Shape) (t : Task) : Type 0 where
  pub outs : t.1.outs ≡ role_outs t.0 stobj
  pub only : t.1.outs ≡ Stobj stobj ∷ [] → classes.stobjs t.1.ins ≡ stobj ∷ []
  pub suits : SuitsRole t.0 (shape_layout see child shape)

abbrev pub FitsIfCalled : ℕ → (ℕ → Layout ℕ) → Shape → Task → Type 0
FitsIfCalled stobj child shape t = is_kept_back t.0 (held_by shape) ≡ false → IsFit stobj child shape t

abbrev AllFit : ℕ → (ℕ → Layout ℕ) → Shape → List Task → Type 0
AllFit stobj child shape [] = Unit {0}
AllFit stobj child shape (t ∷ ts) = FitsIfCalled stobj child shape t × AllFit stobj child shape ts

module _ (stobj : ℕ) (child : ℕ → Layout ℕ) where
  reads : (shape : Shape) (t : Task) → t.1.outs ≡ role_outs t.0 stobj → (t.1.outs ≡ Stobj stobj ∷ [] → ⊥) → SuitsRole t.0 (shape_layout see child shape) → FitsIfCalled stobj child shape t
  reads shape t outs never suits kept = record { outs = outs; only = λ e. absurd (never e); suits = suits }

  writes : (shape : Shape) (t : Task) → t.1.outs ≡ role_outs t.0 stobj → classes.stobjs t.1.ins ≡ stobj ∷ [] → SuitsRole t.0 (shape_layout see child shape) → FitsIfCalled stobj child shape t
  writes shape t outs only suits kept = record { outs = outs; only = λ e. only; suits = suits }

  ordinary_differs : (ks : List Out) → (Ordinary ∷ ks ≡ Stobj stobj ∷ []) → ⊥
  ordinary_differs ks e = cc

  all_fit : (shape : Shape) → AllFit stobj child shape (field_tasks stobj shape)
  all_fit (Scalar t o) = let s = Scalar t o in (reads s _ refl (ordinary_differs []) tt, (reads s _ refl (ordinary_differs []) tt, (writes s _ refl refl tt, tt)))
  all_fit (Array t o n resizable) = let s = Array t o n resizable in (reads s _ refl (ordinary_differs []) tt, (reads s _ refl (ordinary_differs []) tt, (writes s _ refl refl tt, (reads s _ refl (ordinary_differs []) tt, (writes s _ refl refl tt, tt)))))
  all_fit (Hash test) = let s = Hash test in (reads s _ refl (ordinary_differs []) tt, (reads s _ refl (ordinary_differs []) tt, (reads s _ refl (ordinary_differs []) tt, (reads s _ refl (ordinary_differs (Ordinary ∷ [])) tt, (writes s _ refl refl tt, (writes s _ refl refl tt, (reads s _ refl (ordinary_differs []) tt, (writes s _ refl refl tt, tt))))))))
  all_fit (Child x) = let s = Child x in (reads s _ refl (ordinary_differs []) tt, ((λ kept. true_false kept), ((λ kept. true_false kept), tt)))
  all_fit (Children x n) = let s = Children x n in (reads s _ refl (ordinary_differs []) tt, (reads s _ refl (ordinary_differs []) tt, (writes s _ refl refl tt, ((λ kept. true_false kept), ((λ kept. true_false kept), tt)))))

  fit_in : (shape : Shape) (ts : List Task) → AllFit stobj child shape ts → (t : Task) → IsIn t ts → FitsIfCalled stobj child shape t
  fit_in shape [] h t i = absurd i
  fit_in shape (u ∷ ts) h t (inl same) = subst (FitsIfCalled stobj child shape) (sym same) h.0
  fit_in shape (u ∷ ts) h t (inr i) = fit_in shape ts h.1 t i

-- ---- inputs of tasks

abbrev AllFew : List Task → Type 0
AllFew [] = Unit {0}
AllFew (t ∷ ts) = HasStobjOrFew t.1.ins × AllFew ts

some_object : (x : ℕ) (xs : List ℕ) → (x ∷ xs) ≢ []
some_object x xs e = cc

all_few : (stobj : ℕ) (shape : Shape) → AllFew (field_tasks stobj shape)
all_few stobj (Scalar t o) = (inl (omega arith), (inl (omega arith), (inr (some_object stobj []), tt)))
all_few stobj (Array t o n resizable) = (inl (omega arith), (inl (omega arith), (inr (some_object stobj []), (inr (some_object stobj []), (inr (some_object stobj []), tt)))))
all_few stobj (Hash test) = (inl (omega arith), (inr (some_object stobj []), (inr (some_object stobj []), (inr (some_object stobj []), (inr (some_object stobj []), (inr (some_object stobj []), (inl (omega arith), (inl (omega arith), tt))))))))
all_few stobj (Child x) = (inl (omega arith), (inl (omega arith), (inr (some_object x (stobj ∷ [])), tt)))
all_few stobj (Children x n) = (inl (omega arith), (inl (omega arith), (inr (some_object stobj []), (inr (some_object stobj []), (inr (some_object x (stobj ∷ [])), tt)))))

few_in : (ts : List Task) → AllFew ts → (t : Task) → IsIn t ts → HasStobjOrFew t.1.ins
few_in [] h t i = absurd i
few_in (u ∷ ts) h t (inl same) = subst (λ (q : Task). HasStobjOrFew q.1.ins) (sym same) h.0
few_in (u ∷ ts) h t (inr i) = few_in ts h.1 t i

-- a function of a field of a stobj
pub record IsOfField (d : Descriptor) (g : GeneratedFunction) : Type 0 where
  pub number : ℕ
  pub field : Field
  pub there : slice_get d.fields number ≡ Some field
  pub task : Task
  pub listed : IsIn task (field_tasks d.name field.shape)
  pub stobj : g.stobj ≡ d.name
  pub of_field : g.field ≡ Some number
  pub does : g.role ≡ task.0
  pub signed : g.signature ≡ task.1

-- a function of a stobj: its recognizer, its creator, or one of a field
pub data IsOfObject (d : Descriptor) (g : GeneratedFunction) : Type 0 where
  recognizing : g ≡ function_of d.name None d.recognizer (recognizer_task d.name) → IsOfObject d g
  creating : g ≡ function_of d.name None d.creator (creator_task d.name) → IsOfObject d g
  of_field : IsOfField d g → IsOfObject d g

module _ (d : Descriptor) where
  tasks_of : (k : ℕ) (f : Field) → slice_get d.fields k ≡ Some f → (names : List ℕ) (ts : List Task) → ((t : Task) → IsIn t ts → IsIn t (field_tasks d.name f.shape))
      → (g : GeneratedFunction) → IsIn g (named_tasks d.name k names ts) → IsOfField d g
  tasks_of k f e [] ts h g i = absurd i
  tasks_of k f e (x ∷ xs) [] h g i = absurd i
  tasks_of k f e (x ∷ xs) (t ∷ ts) h g (inl same) = record {
    number = k;
    field = f;
    there = e;
    task = t;
    listed = h t (inl refl);
    stobj = ap (λ (q : GeneratedFunction). q.stobj) same;
    of_field = ap (λ (q : GeneratedFunction). q.field) same;
    does = ap (λ (q : GeneratedFunction). q.role) same;
    signed = ap (λ (q : GeneratedFunction). q.signature) same;
  }
  tasks_of k f e (x ∷ xs) (t ∷ ts) h g (inr i) = tasks_of k f e xs ts (λ u j. h u (inr j)) g i

  in_both : {A : Type 0} (a : A) (xs ys : List A) → IsIn a (xs ++ ys) → IsIn a xs ⊎ IsIn a ys
  in_both a [] ys i = inr i
  in_both a (x ∷ xs) ys (inl e) = inl (inl e)
  in_both a (x ∷ xs) ys (inr i) = go (in_both a xs ys i)
    where
      go : IsIn a xs ⊎ IsIn a ys → IsIn a (x ∷ xs) ⊎ IsIn a ys
      go (inl j) = inl (inr j)
      go (inr j) = inr j

  fields_of : (k : ℕ) (fs : List Field) → ((i : ℕ) (f : Field) → slice_get fs i ≡ Some f → slice_get d.fields (k + i) ≡ Some f) → (g : GeneratedFunction) → IsIn g (field_functions d.name k fs) → IsOfField d g
  fields_of k [] h g i = absurd i
  fields_of k (f ∷ fs) h g i = go (in_both g (named_tasks d.name k f.made (field_tasks d.name f.shape)) (field_functions d.name (k + 1) fs) i) (fields_of (k + 1) fs later g)
    where
      here : slice_get d.fields k ≡ Some f
      here = let none : k + 0 ≡ k = omega arith in subst (λ (n : ℕ). slice_get d.fields n ≡ Some f) none (h 0 f refl)

      later : (i : ℕ) (q : Field) → slice_get fs i ≡ Some q → slice_get d.fields ((k + 1) + i) ≡ Some q
      later i q e = let one : k + suc i ≡ (k + 1) + i = omega arith in subst (λ (n : ℕ). slice_get d.fields n ≡ Some q) one (h (suc i) q e)

      go : IsIn g (named_tasks d.name k f.made (field_tasks d.name f.shape)) ⊎ IsIn g (field_functions d.name (k + 1) fs) → (IsIn g (field_functions d.name (k + 1) fs) → IsOfField d g) → IsOfField d g
      go (inl j) later = tasks_of k f here f.made (field_tasks d.name f.shape) (λ t l. l) g j
      go (inr j) later = later j

  functions_of : (g : GeneratedFunction) → IsIn g (generated_functions d) → IsOfObject d g
  functions_of g (inl e) = recognizing e
  functions_of g (inr (inl e)) = creating e
  functions_of g (inr (inr i)) = of_field (fields_of 0 d.fields (λ i f e. from_zero i f e) g i)
    where
      from_zero : (i : ℕ) (f : Field) → slice_get d.fields i ≡ Some f → slice_get d.fields (0 + i) ≡ Some f
      from_zero i f e = let none : i ≡ 0 + i = omega arith in subst (λ (n : ℕ). slice_get d.fields n ≡ Some f) none e

-- what is found among generated functions is one of them
found_function : (gs : List GeneratedFunction) (x : ℕ) (d : Definition) → definition (map Generated gs) x ≡ Some d → (g : GeneratedFunction) × IsIn g gs × (d ≡ Generated g)
found_function [] x d e = cc
found_function (g ∷ gs) x d e = go (nat_eq x g.name) e (found_function gs x d)
  where
    is : Some (Generated g) ≡ Some d → d ≡ Generated g
    is f = cc

    go : (b : Bool) → (if b then Some (Generated g) else definition (map Generated gs) x) ≡ Some d → (definition (map Generated gs) x ≡ Some d → (h : GeneratedFunction) × IsIn h gs × (d ≡ Generated h))
        → (h : GeneratedFunction) × IsIn h (g ∷ gs) × (d ≡ Generated h)
    go true f later = (g, inl refl, is f)
    go false f later = let h = later f in (h.0, inr h.1, h.2)

-- ---- fields by their numbers

field_here : (child : ℕ → Layout ℕ) (fs : List Field) (k : ℕ) (f : Field) → slice_get fs k ≡ Some f → IsField k (fields_layout see child fs) (shape_layout see child f.shape)
field_here child [] k f e = cc
field_here child (g ∷ fs) zero f e = ap (λ (q : Field). shape_layout see child q.shape) (is e)
  where
    is : Some g ≡ Some f → g ≡ f
    is h = cc
field_here child (g ∷ fs) (suc k) f e = field_here child fs k f e

layout_here : (child : ℕ → Layout ℕ) (fs : List Field) (k : ℕ) (f : Field) → slice_get fs k ≡ Some f → field_layout k (fields_layout see child fs) ≡ shape_layout see child f.shape
layout_here child [] k f e = cc
layout_here child (g ∷ fs) zero f e = ap (λ (q : Field). shape_layout see child q.shape) (is e)
  where
    is : Some g ≡ Some f → g ≡ f
    is h = cc
layout_here child (g ∷ fs) (suc k) f e = layout_here child fs k f e

good_field : (w : World) (fs : List Field) → FieldsGood w fs → (k : ℕ) (f : Field) → slice_get fs k ≡ Some f → IsGoodShape w f.shape
good_field w [] h k f e = cc
good_field w (g ∷ fs) h zero f e = subst (λ (q : Field). IsGoodShape w q.shape) (is e) h.0
  where
    is : Some g ≡ Some f → g ≡ f
    is i = cc
good_field w (g ∷ fs) h (suc k) f e = good_field w fs h.1 k f e

fields_of_concrete : (w : World) (x : ℕ) (c : Descriptor) (class : ℕ) → definition w x ≡ Some (Concrete c class) → layout_of w x ≡ fields_layout see (layout_within see w 64) c.fields
unfolding layout_within
fields_of_concrete w x c class e = ap (defined_layout see (layout_within see w 64)) e

-- ---- what the stobj brings

module _ (w : World) (l : IsLawfulWorld w) (d : Descriptor) (new : IsNew w d) where
  abbrev pub with_object : World
  with_object = w ++ stobj_entries w d

  stobj_there : definition with_object d.name ≡ Some (Concrete d (class_for w d))
  stobj_there =
      definition_new w (stobj_entries w d) d.name new.free
      ∙ ap (λ (b : Bool). if b then Some (Concrete d (class_for w d)) else definition (map Generated (generated_functions d)) d.name) (same_number d.name)

  object_stands : StandsIn with_object d.name
  object_stands = (Concrete d (class_for w d), stobj_there)

  object_fields : layout_of with_object d.name ≡ fields_layout see (layout_within see with_object 64) d.fields
  object_fields = fields_of_concrete with_object d.name d (class_for w d) stobj_there

  -- a new definition is the stobj or one of its functions
  abbrev IsNewDefinition : ℕ → Definition → Type 0
  IsNewDefinition x c = ((x ≡ d.name) × (c ≡ Concrete d (class_for w d))) ⊎ ((g : GeneratedFunction) × IsOfObject d g × (c ≡ Generated g))

  is_new : (x : ℕ) (c : Definition) → definition (stobj_entries w d) x ≡ Some c → IsNewDefinition x c
  is_new x c e = go (nat_eq x d.name) refl e
    where
      is : Some (Concrete d (class_for w d)) ≡ Some c → c ≡ Concrete d (class_for w d)
      is f = cc

      go : (b : Bool) → nat_eq x d.name ≡ b → (if b then Some (Concrete d (class_for w d)) else definition (map Generated (generated_functions d)) x) ≡ Some c → IsNewDefinition x c
      go true f g = inl (eqb-true x d.name f, is g)
      go false f g = let h = found_function (generated_functions d) x c g in inr (h.0, functions_of d h.0 h.1, h.2)

  -- ---- children

  shape_concrete : (s : Shape) → IsGoodShape w s → IsConcreteIfAny with_object (held_stobj s)
  shape_concrete (Scalar written initial) h = tt
  shape_concrete (Array written initial length resizable) h = tt
  shape_concrete (Hash test) h = tt
  shape_concrete (Child x) h = concrete_still w (stobj_entries w d) l x h.concrete
  shape_concrete (Children x n) h = concrete_still w (stobj_entries w d) l x h.concrete

  fields_concrete : (fs : List Field) → FieldsGood w fs → FieldsAreConcrete with_object fs
  fields_concrete [] h = tt
  fields_concrete (f ∷ fs) h = (shape_concrete f.shape h.0, fields_concrete fs h.1)

  child_nests : (x : ℕ) → IsNested w x → nesting_within with_object most_nested x < most_nested
  child_nests x h =
      let at = concrete_at w x h.concrete in
      subst (λ (m : ℕ). m < most_nested) (sym (nesting_still w with_object l.lawful.closed (definition_old w (stobj_entries w d)) most_nested x (Concrete at.descriptor at.class, at.there))) h.nests

  shape_nests : (s : Shape) → IsGoodShape w s → NestsIfAny with_object (held_stobj s)
  shape_nests (Scalar written initial) h = tt
  shape_nests (Array written initial length resizable) h = tt
  shape_nests (Hash test) h = tt
  shape_nests (Child x) h = child_nests x h
  shape_nests (Children x n) h = child_nests x h

  fields_nest : (fs : List Field) → FieldsGood w fs → FieldsNest with_object fs
  fields_nest [] h = tt
  fields_nest (f ∷ fs) h = (shape_nests f.shape h.0, fields_nest fs h.1)

  concrete_stands : (x : ℕ) → IsConcreteStobj w x → StandsIn with_object x
  concrete_stands x h = let at = concrete_at w x h in (Concrete at.descriptor at.class, definition_old w (stobj_entries w d) x (Concrete at.descriptor at.class) at.there)

  fields_stand : (fs : List Field) → FieldsGood w fs → FieldsStand (StandsIn with_object) fs
  fields_stand [] h = tt
  fields_stand (f ∷ fs) h = (shape_stands f.shape h.0, fields_stand fs h.1)
    where
      shape_stands : (s : Shape) → IsGoodShape w s → ShapeStands (StandsIn with_object) s
      shape_stands (Scalar written initial) k = tt
      shape_stands (Array written initial length resizable) k = tt
      shape_stands (Hash test) k = tt
      shape_stands (Child x) k = concrete_stands x k.concrete
      shape_stands (Children x n) k = concrete_stands x k.concrete

  -- a child has its own layout, though it stands one level lower
  child_layout : (x : ℕ) → IsNested w x → layout_within see with_object 64 x ≡ layout_of with_object x
  child_layout x h =
      let at = concrete_at w x h.concrete in
      let stands : StandsIn w x = (Concrete at.descriptor at.class, at.there) in
      within_still w with_object l.lawful.closed (definition_old w (stobj_entries w d)) 64 x stands
      ∙ (one_deeper w l.children 64 x h.concrete h.nests ∙ sym (within_still w with_object l.lawful.closed (definition_old w (stobj_entries w d)) 65 x stands))

  -- ---- functions

  held_here : (g : GeneratedFunction) (f : IsOfField d g) → held_in with_object g ≡ held_by f.field.shape
  held_here g f =
      let descriptor : descriptor_of with_object g.stobj ≡ Some d = ap (descriptor_of with_object) f.stobj ∙ ap (option_and_then descriptor_in) stobj_there in
      ap (λ (v : Option ℕ). option_and_then (λ (e : Field). held_by e.shape) (option_and_then (λ k. option_and_then (λ (d : Descriptor). slice_get d.fields k) (descriptor_of with_object g.stobj)) v)) f.of_field
      ∙ (ap (λ (v : Option Descriptor). option_and_then (λ (e : Field). held_by e.shape) (option_and_then (λ (d : Descriptor). slice_get d.fields f.number) v)) descriptor
      ∙ ap (λ (v : Option Field). option_and_then (λ (e : Field). held_by e.shape) v) f.there)

  made_field : (g : GeneratedFunction) (f : IsOfField d g) → is_internal with_object (Generated g) ≡ false → IsMade with_object g
  made_field g f kept =
      let fit : IsFit d.name (layout_within see with_object 64) f.field.shape f.task
      = fit_in d.name (layout_within see with_object 64) f.field.shape (field_tasks d.name f.field.shape) (all_fit d.name (layout_within see with_object 64) f.field.shape) f.task f.listed
      (ap (λ (r : Role). is_kept_back r (held_by f.field.shape)) (sym f.does) ∙ (ap (is_kept_back g.role) (sym (held_here g f)) ∙ kept)) in
      let outs : g.signature.outs ≡ f.task.1.outs = ap (λ (s : Signature). s.outs) f.signed in
      let here : field_layout (unwrap_or g.field 0) (layout_of with_object g.stobj) ≡ shape_layout see (layout_within see with_object 64) f.field.shape
      = ap (λ (v : Option ℕ). field_layout (unwrap_or v 0) (layout_of with_object g.stobj)) f.of_field
      ∙ (ap (λ (x : ℕ). field_layout f.number (layout_of with_object x)) f.stobj ∙ (ap (field_layout f.number) object_fields ∙ layout_here (layout_within see with_object 64) d.fields f.number f.field f.there)) in
      record {
        outs = outs ∙ (fit.outs ∙ (ap (λ (r : Role). role_outs r d.name) (sym f.does) ∙ ap (role_outs g.role) (sym f.stobj)));
        only = λ e.
            ap (λ (s : Signature). classes.stobjs s.ins) f.signed
            ∙ (fit.only (sym outs ∙ (e ∙ ap (λ (x : ℕ). Stobj x ∷ []) f.stobj)) ∙ ap (λ (x : ℕ). x ∷ []) (sym f.stobj));
        suits = subst (SuitsRole g.role) (sym here) (subst (λ (r : Role). SuitsRole r (shape_layout see (layout_within see with_object 64) f.field.shape)) (sym f.does) fit.suits);
      }

  made_function : (g : GeneratedFunction) → IsOfObject d g → is_internal with_object (Generated g) ≡ false → IsMade with_object g
  made_function g (recognizing e) kept = subst (IsMade with_object) (sym e) (record { outs = refl; only = λ f. absurd (ordinary_differs d.name (λ x. layout.NoField) [] f); suits = tt })
  made_function g (creating e) kept = true_false (ap (λ (q : GeneratedFunction). is_internal with_object (Generated q)) (sym e) ∙ kept)
  made_function g (of_field f) kept = made_field g f kept

  object_of : (g : GeneratedFunction) → IsOfObject d g → g.stobj ≡ d.name
  object_of g (recognizing e) = ap (λ (q : GeneratedFunction). q.stobj) e
  object_of g (creating e) = ap (λ (q : GeneratedFunction). q.stobj) e
  object_of g (of_field f) = f.stobj

  few_inputs : (g : GeneratedFunction) → IsOfObject d g → HasStobjOrFew g.signature.ins
  few_inputs g (recognizing e) = subst (λ (q : GeneratedFunction). HasStobjOrFew q.signature.ins) (sym e) (inl (omega arith))
  few_inputs g (creating e) = subst (λ (q : GeneratedFunction). HasStobjOrFew q.signature.ins) (sym e) (inl (omega arith))
  few_inputs g (of_field f) = subst (λ (q : Signature). HasStobjOrFew q.ins) (sym f.signed) (few_in (field_tasks d.name f.field.shape) (all_few d.name f.field.shape) f.task f.listed)

  -- ---- accessors of children

  held_field : (s : Shape) → IsGoodShape w s → (h : HeldStobjs) → held_by s ≡ Some h → IsHeld with_object h (shape_layout see (layout_within see with_object 64) s)
  held_field (Scalar written initial) k h e = cc
  held_field (Array written initial length resizable) k h e = cc
  held_field (Hash test) k h e = cc
  held_field (Child x) k h e = subst (λ (q : HeldStobjs). IsHeld with_object q (layout_within see with_object 64 x)) (is e) (child_layout x k)
    where
      is : Some (One x) ≡ Some h → One x ≡ h
      is f = cc
  held_field (Children x n) k h e =
      subst (λ (q : HeldStobjs). IsHeld with_object q (layout.Children n (layout_within see with_object 64 x))) (is e) (n, ap (layout.Children n) (child_layout x k))
    where
      is : Some (Many x) ≡ Some h → Many x ≡ h
      is f = cc

  -- an accessor is told by its role, its field and what the field holds
  record IsAccessorTo (g : GeneratedFunction) (held : Option HeldStobjs) (a : ChildAccessor) : Type 0 where
    holds : held ≡ Some a.holds
    stobj : a.stobj ≡ g.stobj
    field : g.field ≡ Some a.field

  accessor_is : (g : GeneratedFunction) (held : Option HeldStobjs) (a : ChildAccessor) → accessor_to g g.role g.field held ≡ Some a → IsAccessorTo g held a
  accessor_is g held a e = go g.role g.field refl held refl e
    where
      object_is : (k : ℕ) (h : HeldStobjs) → Some (record { stobj = g.stobj; field = k; holds = h }) ≡ Some a → record { stobj = g.stobj; field = k; holds = h } ≡ a
      object_is k h f = cc

      go : (r : Role) (v : Option ℕ) → g.field ≡ v → (q : Option HeldStobjs) → held ≡ q → accessor_to g r v q ≡ Some a → IsAccessorTo g held a
      go role.Access (Some k) f (Some h) i j =
          let same = object_is k h j in
          record { holds = i ∙ ap (λ (c : ChildAccessor). Some c.holds) same; stobj = sym (ap (λ (c : ChildAccessor). c.stobj) same); field = f ∙ ap (λ (c : ChildAccessor). Some c.field) same }
      go role.Access None f q i j = cc
      go role.Access (Some k) f None i j = cc
      go role.Recognizer v f q i j = cc
      go role.Creator v f q i j = cc
      go role.FieldRecognizer v f q i j = cc
      go role.Update v f q i j = cc
      go role.Length v f q i j = cc
      go role.Resize v f q i j = cc
      go role.HashGet v f q i j = cc
      go role.HashBoundp v f q i j = cc
      go role.HashGetBound v f q i j = cc
      go role.HashPut v f q i j = cc
      go role.HashRem v f q i j = cc
      go role.HashCount v f q i j = cc
      go role.HashClear v f q i j = cc

  number_of : {m n : ℕ} → Some m ≡ Some n → m ≡ n
  number_of e = cc

  reaches_field : (x : ℕ) (g : GeneratedFunction) → definition with_object x ≡ Some (Generated g) → (f : IsOfField d g) (a : ChildAccessor) → accessor_in with_object (Generated g) ≡ Some a → Reaches with_object x a
  reaches_field x g e f a i =
      let is : IsAccessorTo g (held_in with_object g) a = accessor_is g (held_in with_object g) a i in
      let same : f.number ≡ a.field = number_of (sym f.of_field ∙ is.field) in
      let there : slice_get d.fields a.field ≡ Some f.field = ap (slice_get d.fields) (sym same) ∙ f.there in
      let fields : layout_of with_object a.stobj ≡ fields_layout see (layout_within see with_object 64) d.fields = ap (layout_of with_object) (is.stobj ∙ f.stobj) ∙ object_fields in
      record {
        number = ap eval.field_number e ∙ ap (λ (v : Option ℕ). unwrap_or v 0) is.field;
        field = shape_layout see (layout_within see with_object 64) f.field.shape;
        there = subst (λ (k : Layout ℕ). IsField a.field k (shape_layout see (layout_within see with_object 64) f.field.shape)) (sym fields) (field_here (layout_within see with_object 64) d.fields a.field f.field there);
        held = held_field f.field.shape (good_field w d.fields new.fields f.number f.field f.there) a.holds (sym (held_here g f) ∙ is.holds);
      }

  reaches_function : (x : ℕ) (g : GeneratedFunction) → definition with_object x ≡ Some (Generated g) → IsOfObject d g → (a : ChildAccessor) → accessor_in with_object (Generated g) ≡ Some a → Reaches with_object x a
  reaches_function x g e (recognizing f) a i = none_some (accessor_in with_object (Generated g)) (ap (λ (q : GeneratedFunction). accessor_in with_object (Generated q)) f) i
  reaches_function x g e (creating f) a i = none_some (accessor_in with_object (Generated g)) (ap (λ (q : GeneratedFunction). accessor_in with_object (Generated q)) f) i
  reaches_function x g e (of_field f) a i = reaches_field x g e f a i

  -- ---- its class

  -- what `class_for` is, by the stobj that this one is congruent to
  abbrev class_given : Option ℕ → ℕ
  class_given None = d.name
  class_given (Some old) = unwrap_or (class_of w old) old

  record IsClass (k : ℕ) : Type 0 where
    alike : layout_of with_object d.name ≡ layout_of with_object k
    there : StandsIn with_object k

  none_mapped : (v : Option ℕ) → option_map CongruenceMismatch v ≡ None → v ≡ None
  none_mapped None e = refl
  none_mapped (Some k) e = cc

  class_is : IsClass (class_for w d)
  class_is = go d.congruent_to refl new.congruent
    where
      old_class : (old : ℕ) → IsConcreteStobj w old → d.congruent_to ≡ Some old → IsClass (unwrap_or (class_of w old) old)
      old_class old h e =
          let at = concrete_at w old h in
          let class : class_of w old ≡ Some at.class = ap (option_and_then class_in) at.there in
          let stands : StandsIn w old = (Concrete at.descriptor at.class, at.there) in
          let match : mismatch_from 0 at.descriptor.fields d.fields ≡ None
          = none_mapped (mismatch_from 0 at.descriptor.fields d.fields)
          (sym (ap (λ (v : Option ℕ). option_map CongruenceMismatch (option_and_then (λ old. option_and_then (λ (e : Descriptor). mismatch_from 0 e.fields d.fields) (descriptor_of w old)) v)) e
          ∙ ap (λ (v : Option Descriptor). option_map CongruenceMismatch (option_and_then (λ (e : Descriptor). mismatch_from 0 e.fields d.fields) v)) at.found) ∙ new.matches) in
          let old_fields : layout_of with_object old ≡ fields_layout see (layout_within see with_object 64) at.descriptor.fields = fields_of_concrete with_object old at.descriptor at.class (definition_old w (stobj_entries w d) old (Concrete at.descriptor at.class) at.there) in
          let same : layout_of with_object d.name ≡ layout_of with_object old = object_fields ∙ (sym (matching_layouts (layout_within see with_object 64) 0 at.descriptor.fields d.fields match) ∙ sym old_fields) in
          let there : StandsIn w at.class = l.classes.there old at.class class in
          subst IsClass (sym (ap (λ (v : Option ℕ). unwrap_or v old) class)) (record {
            alike = same ∙ (layout_still w (stobj_entries w d) l old stands ∙ (l.classes.alike old at.class class ∙ sym (layout_still w (stobj_entries w d) l at.class there)));
            there = stands_still w (stobj_entries w d) l at.class there;
          })

      go : (v : Option ℕ) → d.congruent_to ≡ v → IsConcreteIfAny w v → IsClass (class_for w d)
      go None e h = subst IsClass (sym (ap (λ (v : Option ℕ). class_given v) e)) (record { alike = refl; there = object_stands })
      go (Some old) e h = subst IsClass (sym (ap (λ (v : Option ℕ). class_given v) e)) (old_class old h e)

  -- ---- all of it

  abbrev Entries : World
  Entries = stobj_entries w d

  pub object_brings : Brings w (stobj_entries w d)
  object_brings = record {
    closed = λ x c none e. closed_new x c (is_new x c e);
    made = λ x c none e. made_new x c (is_new x c e);
    alike = λ x k c none e f. (class_new x c (is_new x c e) k f).0;
    there = λ x k c none e f. (class_new x c (is_new x c e) k f).1;
    accessors = λ x c a none e f. reaches_new x c (is_new x c e) (definition_new w (stobj_entries w d) x none ∙ e) a f;
    children = λ x class c none e. children_new x class c (is_new x (Concrete c class) e);
    nested = λ x class c none e. nested_new x class c (is_new x (Concrete c class) e);
  }
    where
      closed_new : (x : ℕ) (c : Definition) → IsNewDefinition x c → ClosedDefinition (StandsIn with_object) c
      closed_new x c (inl h) = subst (ClosedDefinition (StandsIn with_object)) (sym h.1) (fields_stand d.fields new.fields)
      closed_new x c (inr h) = subst (ClosedDefinition (StandsIn with_object)) (sym h.2) (subst (StandsIn with_object) (sym (object_of h.0 h.1)) object_stands)

      made_new : (x : ℕ) (c : Definition) → IsNewDefinition x c → IsWellMade with_object c
      made_new x c (inl h) = subst (IsWellMade with_object) (sym h.1) tt
      made_new x c (inr h) = subst (IsWellMade with_object) (sym h.2) (few_inputs h.0 h.1)

      class_new : (x : ℕ) (c : Definition) → IsNewDefinition x c → (k : ℕ) → class_in c ≡ Some k → (layout_of with_object x ≡ layout_of with_object k) × StandsIn with_object k
      class_new x c (inl h) k e =
          let same : class_for w d ≡ k = number_of (ap class_in (sym h.1) ∙ e) in
          let is : IsClass k = subst IsClass same class_is in
          (ap (layout_of with_object) h.0 ∙ is.alike, is.there)
      class_new x c (inr h) k e = none_some (class_in c) (ap class_in h.2) e

      reaches_new : (x : ℕ) (c : Definition) → IsNewDefinition x c → definition with_object x ≡ Some c → (a : ChildAccessor) → accessor_in with_object c ≡ Some a → Reaches with_object x a
      reaches_new x c (inl h) e a f = none_some (accessor_in with_object c) (ap (accessor_in with_object) h.1) f
      reaches_new x c (inr h) e a f = reaches_function x h.0 (e ∙ ap (λ (q : Definition). Some q) h.2) h.1 a (ap (accessor_in with_object) (sym h.2) ∙ f)

      nested_new : (x class : ℕ) (c : Descriptor) → IsNewDefinition x (Concrete c class) → FieldsNest with_object c.fields
      nested_new x class c (inl h) = subst (λ (q : Descriptor). FieldsNest with_object q.fields) (sym (descriptor_is h.1)) (fields_nest d.fields new.fields)
        where
          descriptor_is : Concrete c class ≡ Concrete d (class_for w d) → c ≡ d
          descriptor_is e = cc
      nested_new x class c (inr h) = not_generated h.2
        where
          not_generated : {B : Type 0} → Concrete c class ≡ Generated h.0 → B
          not_generated e = cc

      children_new : (x class : ℕ) (c : Descriptor) → IsNewDefinition x (Concrete c class) → FieldsAreConcrete with_object c.fields
      children_new x class c (inl h) = subst (λ (q : Descriptor). FieldsAreConcrete with_object q.fields) (sym (descriptor_is h.1)) (fields_concrete d.fields new.fields)
        where
          descriptor_is : Concrete c class ≡ Concrete d (class_for w d) → c ≡ d
          descriptor_is e = cc
      children_new x class c (inr h) = not_generated h.2
        where
          not_generated : {B : Type 0} → Concrete c class ≡ Generated h.0 → B
          not_generated e = cc

  pub object_lawful : IsLawfulWorld with_object
  object_lawful = grows w (stobj_entries w d) l object_brings (λ x c none e. ready_new x c (is_new x c e)) (λ x c none e. admitted_new x c (is_new x c e))
    where
      ready_new : (x : ℕ) (c : Definition) → IsNewDefinition x c → IsReady with_object c
      ready_new x c (inl h) = subst (IsReady with_object) (sym h.1) tt
      ready_new x c (inr h) = subst (IsReady with_object) (sym h.2) (made_function h.0 h.1)

      admitted_new : (x : ℕ) (c : Definition) → IsNewDefinition x c → IsAdmitted c
      admitted_new x c (inl h) = subst IsAdmitted (sym h.1) tt
      admitted_new x c (inr h) = subst IsAdmitted (sym h.2) tt

-- it brings one name of a stobj
pub entries_names : (w : World) (d : Descriptor) → stobj_names (stobj_entries w d) ≡ d.name ∷ []
entries_names w d = ap (λ (ns : List ℕ). d.name ∷ ns) (none_generated (generated_functions d))
  where
    none_generated : (gs : List GeneratedFunction) → stobj_names (map Generated gs) ≡ []
    none_generated [] = refl
    none_generated (g ∷ gs) = none_generated gs
