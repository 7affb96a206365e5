-- Definitions of no stobj change no layout, no class and no field of a function, so what was found in a world is found as they enter.
use Rattle.std.specs.Prelude.{◌≡◌, ◌⊎◌, ℕ, zero, suc, List, [], ◌∷◌, ◌++◌, Bool, true, false, Option, Some, None, nat_eq, slice_get, option_and_then, unwrap_or, if◌then◌else◌, refl}
use Rattle.std.specs.Option.{option_or}
use Rattle.std.specs.List.{AllByRecursion}
use Rattle.std.proofs.Common.{sym, ap, ◌∙◌, subst, inl, inr}
use Rattle.std.proofs.lemmas.List.Folds.{find-append}
use Rattle.model_objects.specs.Object.{Object}
use Rattle.model_lists.specs.Layouts.{Layout, NoField, field_layout}
use Rattle.model_lists.specs.Layouts as layout
use Rattle.model_terms.specs.Cores.{Core}
use Rattle.model_terms.specs.Worlds.{World, Definition, Descriptor, Field, Function, GeneratedFunction, FunctionOfAbstract, Out, Signature, definition, definition_name, Primitive, Defined, Macro, Constant, Concrete, Generated, Abstract, OfAbstract, Named, Signed}
use Rattle.model_terms.specs.Accessors.{HeldStobjs, One, Many, ChildAccessor, descriptor_in, held_by, held_in, is_kept_back, is_internal}
use Rattle.model_eval.specs.StobjLayouts.{layout_within, defined_layout, most_nested}
use Rattle.model_eval.specs.Lending.{field_number}
use Rattle.model_eval_alike.specs.FunctionLaws.{SuitsRole}
use Rattle.model_accepted.specs.Threaded.{layout_of, IsField, IsHeld, Runs, Reaches, Suits, IsChecked, IsAdmitted, IsMade, IsExport}
use Rattle.model_origins.specs.Plain.{IsOfNoStobj}

-- ---- definitions by their names

some_same : {A : Type 0} {a b : A} → Some a ≡ Some b → a ≡ b
some_same e = cc

pub each_found : (P : Definition → Type 0) (w : World) → AllByRecursion P w → (x : ℕ) (d : Definition) → definition w x ≡ Some d → P d
each_found P [] h x d e = absurd (cc)
each_found P (c ∷ w) h x d e = go (nat_eq x (definition_name c)) e (each_found P w h.1 x d)
  where
    go : (b : Bool) → (if b then Some c else definition w x) ≡ Some d → (definition w x ≡ Some d → P d) → P d
    go true f later = subst P (some_same f) h.0
    go false f later = later f

pub definition_both : (w new : World) (x : ℕ) → definition (w ++ new) x ≡ option_or (definition w x) (definition new x)
definition_both w new x = find-append (λ d. nat_eq x (definition_name d)) w new

pub definition_old : (w new : World) (x : ℕ) (d : Definition) → definition w x ≡ Some d → definition (w ++ new) x ≡ Some d
definition_old w new x d e = definition_both w new x ∙ ap (λ (c : Option Definition). option_or c (definition new x)) e

pub definition_is : (w new : World) (x : ℕ) (d : Definition) → definition (w ++ new) x ≡ Some d → (definition w x ≡ Some d) ⊎ ((definition w x ≡ None) × (definition new x ≡ Some d))
definition_is w new x d e = go (definition w x) refl
  where
    go : (c : Option Definition) → definition w x ≡ c → (definition w x ≡ Some d) ⊎ ((definition w x ≡ None) × (definition new x ≡ Some d))
    go None f = inr (f, sym (definition_both w new x ∙ ap (λ (c : Option Definition). option_or c (definition new x)) f) ∙ e)
    go (Some c) f = inl (f ∙ sym (definition_old w new x c f) ∙ e)

module _ (w new : World) (plain : AllByRecursion IsOfNoStobj new) where
  abbrev grown : World
  grown = w ++ new

  abbrev see : Object ℕ → Object ℕ
  see o = o

  -- what is alike of a definition of no stobj and of none is alike of a name before and afterwards
  same_at : {A : Type 0} (F : Option Definition → A) → ((d : Definition) → IsOfNoStobj d → F (Some d) ≡ F None) → (x : ℕ) → F (definition grown x) ≡ F (definition w x)
  same_at F none x = ap F (definition_both w new x) ∙ go (definition w x) (definition new x) refl
    where
      go : (a b : Option Definition) → definition new x ≡ b → F (option_or a b) ≡ F a
      go (Some d) b e = refl
      go None None e = refl
      go None (Some d) e = none d (each_found IsOfNoStobj new plain x d e)

  -- ---- layouts

  no_layout : (child : ℕ → Layout ℕ) (d : Definition) → IsOfNoStobj d → defined_layout see child (Some d) ≡ NoField
  no_layout child (Primitive name row) p = refl
  no_layout child (Defined f) p = refl
  no_layout child (Macro name formals body) p = refl
  no_layout child (Constant name value) p = refl
  no_layout child (Concrete d class) p = absurd p
  no_layout child (Generated g) p = absurd p
  no_layout child (Abstract d) p = absurd p
  no_layout child (OfAbstract f) p = absurd p
  no_layout child (Named name formals) p = refl
  no_layout child (Signed name formals signature executable) p = refl

  same_within : (n x : ℕ) → layout_within see grown n x ≡ layout_within see w n x
  unfolding layout_within
  same_within zero x = refl
  same_within (suc n) x =
      let children : layout_within see grown n ≡ layout_within see w n = λ i y. same_within n y i in
      same_at (defined_layout see (layout_within see grown n)) (no_layout (layout_within see grown n)) x
      ∙ ap (λ (child : ℕ → Layout ℕ). defined_layout see child (definition w x)) children

  pub same_layout : (x : ℕ) → layout_of grown x ≡ layout_of w x
  same_layout x = same_within (suc most_nested) x

  -- ---- descriptors and fields

  no_descriptor : (d : Definition) → IsOfNoStobj d → option_and_then descriptor_in (Some d) ≡ None
  no_descriptor (Primitive name row) p = refl
  no_descriptor (Defined f) p = refl
  no_descriptor (Macro name formals body) p = refl
  no_descriptor (Constant name value) p = refl
  no_descriptor (Concrete d class) p = absurd p
  no_descriptor (Generated g) p = absurd p
  no_descriptor (Abstract d) p = absurd p
  no_descriptor (OfAbstract f) p = absurd p
  no_descriptor (Named name formals) p = refl
  no_descriptor (Signed name formals signature executable) p = refl

  same_held : (g : GeneratedFunction) → held_in grown g ≡ held_in w g
  same_held g =
      ap (λ (d : Option Descriptor). option_and_then (λ (e : Field). held_by e.shape) (option_and_then (λ k. option_and_then (λ (d : Descriptor). slice_get d.fields k) d) g.field))
      (same_at (option_and_then descriptor_in) no_descriptor g.stobj)

  no_field : (d : Definition) → IsOfNoStobj d → field_number (Some d) ≡ 0
  no_field (Primitive name row) p = refl
  no_field (Defined f) p = refl
  no_field (Macro name formals body) p = refl
  no_field (Constant name value) p = refl
  no_field (Concrete d class) p = absurd p
  no_field (Generated g) p = absurd p
  no_field (Abstract d) p = absurd p
  no_field (OfAbstract f) p = absurd p
  no_field (Named name formals) p = refl
  no_field (Signed name formals signature executable) p = refl

  pub same_internal : (d : Definition) → is_internal grown d ≡ is_internal w d
  same_internal (Primitive name row) = refl
  same_internal (Defined f) = refl
  same_internal (Macro name formals body) = refl
  same_internal (Constant name value) = refl
  same_internal (Concrete d class) = refl
  same_internal (Generated g) = ap (is_kept_back g.role) (same_held g)
  same_internal (Abstract d) = refl
  same_internal (OfAbstract f) = refl
  same_internal (Named name formals) = refl
  same_internal (Signed name formals signature executable) = refl

  -- ---- what was found

  abbrev pub runs_still : (f : ℕ) (s : Signature) → Runs w f s → Runs grown f s
  runs_still f s r = record { there = r.there; stands = definition_old w new f r.there r.stands; signed = r.signed; callable = same_internal r.there ∙ r.callable; executable = r.executable }

  held_still : (m : HeldStobjs) (field : Layout ℕ) → IsHeld w m field → IsHeld grown m field
  held_still (One x) field h = h ∙ sym (same_layout x)
  held_still (Many x) field h = (h.0, h.1 ∙ ap (layout.Children h.0) (sym (same_layout x)))

  reaches_still : (f : ℕ) (a : ChildAccessor) → Reaches w f a → Reaches grown f a
  reaches_still f a h = record {
    number = same_at field_number no_field f ∙ h.number;
    field = h.field;
    there = subst (λ (l : Layout ℕ). IsField a.field l h.field) (sym (same_layout a.stobj)) h.there;
    held = held_still a.holds h.field h.held;
  }

  pub suits_still : (c : World) → Suits c w → Suits c grown
  suits_still c s = record {
    called = λ f d t e signed kept run. runs_still f t (s.called f d t e signed kept run);
    layouts = λ x y e. same_layout x ∙ (s.layouts x y e ∙ sym (same_layout y));
    accessors = λ f a e. reaches_still f a (s.accessors f a e);
  }

  -- ---- definitions

  checked_still : (formals : List ℕ) (ins : List Out) (form : Core) (expected : List Out) → IsChecked w formals ins form expected → IsChecked grown formals ins form expected
  checked_still formals ins form expected h = record { world = h.world; suits = suits_still h.world h.suits; accepted = h.accepted; formed = h.formed }

  pub admitted_still : (f : Function) → IsAdmitted w f → IsAdmitted grown f
  admitted_still f h = record { formals = h.formals; distinct = h.distinct; guard = checked_still _ _ _ _ h.guard; body = checked_still _ _ _ _ h.body }

  pub made_still : (g : GeneratedFunction) → IsMade w g → IsMade grown g
  made_still g h = record {
    outs = h.outs;
    only = h.only;
    suits = subst (λ (k : Layout ℕ). SuitsRole g.role (field_layout (unwrap_or g.field 0) k)) (sym (same_layout g.stobj)) h.suits;
  }

  pub kept_before : (g : GeneratedFunction) → is_internal grown (Generated g) ≡ false → is_internal w (Generated g) ≡ false
  kept_before g e = sym (same_internal (Generated g)) ∙ e

  pub exported_still : (f : FunctionOfAbstract) → IsExport w f → IsExport grown f
  exported_still f h = record {
    formals = h.formals;
    distinct = h.distinct;
    guard = checked_still _ _ _ _ h.guard;
    foundation = h.foundation;
    alike = same_layout f.stobj ∙ (h.alike ∙ sym (same_layout h.foundation));
    signature = h.signature;
    runs = runs_still f.exec h.signature h.runs;
    concrete = h.concrete;
    ins = h.ins;
    outs = h.outs;
    only = h.only;
    only_outs = h.only_outs;
  }
