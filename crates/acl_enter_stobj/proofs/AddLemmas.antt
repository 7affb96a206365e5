-- Definitions added one after another.
use Rattle.std.specs.Prelude.{◌≡◌, ℕ, ◌+◌, ◌≤◌, List, [], ◌∷◌, ◌++◌, length, map, take, Option, Some, None, nat_eq, position, refl}
use Rattle.std.specs.List.{IsDistinct}
use Rattle.std.proofs.Common.{ap, sym, subst, ◌∙◌, arith}
use Rattle.std.proofs.lemmas.List.{append-nil, append_assoc, map-append, length-append}
use Rattle.acl_base.specs.declared.SymId.{SymId}
use Rattle.acl_base.specs.declared.LayoutId.{LayoutId}
use Rattle.acl_base.specs.declared.layout.Field.{Field}
use Rattle.acl_terms.specs.declared.definition.Definition.{Definition}
use Rattle.acl_terms.specs.declared.definition.Definition.TheVariants as definition
use Rattle.acl_terms.specs.declared.definition.GeneratedFunction.{GeneratedFunction}
use Rattle.acl_terms.specs.declared.stobj.Descriptor.{Descriptor}
use Rattle.acl_terms.specs.Definitions.{name_in}
use Rattle.acl_worlds.specs.Contents.{Content, names_in, number_of, with_definition, with_layout, cut}
use Rattle.acl_worlds.proofs.NameLemmas.{none_before}
use Rattle.acl_enter_stobj.specs.Entered.{function_names, functions, with_functions, entered, Begins, IsAdding}

-- ---- nothing of the old world has changed

pub begins_same : (old new : Content) → new ≡ old → Begins old new
begins_same old new e = record {
  definitions = [];
  layouts = [];
  with_definitions = ap (λ (w : Content). w.definitions) e ∙ sym (append-nil old.definitions);
  with_layouts = ap (λ (w : Content). w.layouts) e ∙ sym (append-nil old.layouts);
}

begins_more : (old new : Content) (d : Definition) → new ≡ with_definition old d → Begins old new
begins_more old new d e = record {
  definitions = d ∷ [];
  layouts = [];
  with_definitions = ap (λ (w : Content). w.definitions) e;
  with_layouts = ap (λ (w : Content). w.layouts) e ∙ sym (append-nil old.layouts);
}

begins_layout : (old new : Content) (l : List Field) → new ≡ with_layout old l → Begins old new
begins_layout old new l e = record {
  definitions = [];
  layouts = l ∷ [];
  with_definitions = ap (λ (w : Content). w.definitions) e ∙ sym (append-nil old.definitions);
  with_layouts = ap (λ (w : Content). w.layouts) e;
}

pub begins_then : (a b c : Content) → Begins a b → Begins b c → Begins a c
begins_then a b c f g = record {
  definitions = f.definitions ++ g.definitions;
  layouts = f.layouts ++ g.layouts;
  with_definitions = g.with_definitions ∙ (ap (λ ds. ds ++ g.definitions) f.with_definitions ∙ append_assoc a.definitions f.definitions g.definitions);
  with_layouts = g.with_layouts ∙ (ap (λ ls. ls ++ g.layouts) f.with_layouts ∙ append_assoc a.layouts f.layouts g.layouts);
}

-- ---- cut back

module _ (old new : Content) (b : Begins old new) where
  taken : {A : Type 0} (xs ys zs : List A) → zs ≡ xs ++ ys → take (length xs) zs ≡ xs
  taken xs ys zs e = rw e (front xs ys)
    where
      front : {A : Type 0} (xs ys : List A) → take (length xs) (xs ++ ys) ≡ xs
      front [] ys = refl
      front (x ∷ xs) ys = ap (λ zs. x ∷ zs) (front xs ys)

  pub definitions_marked : (n : ℕ) → n ≡ length old.definitions → n ≤ length new.definitions
  definitions_marked n e = let l : length new.definitions ≡ length old.definitions + length b.definitions = ap length b.with_definitions ∙ length-append old.definitions b.definitions in omega (arith, e, l)

  pub layouts_marked : (n : ℕ) → n ≡ length old.layouts → n ≤ length new.layouts
  layouts_marked n e = let l : length new.layouts ≡ length old.layouts + length b.layouts = ap length b.with_layouts ∙ length-append old.layouts b.layouts in omega (arith, e, l)

  pub cut_begins : (last : Content) (n k : ℕ) → n ≡ length old.definitions → k ≡ length old.layouts → last ≡ cut new n k → last ≡ old
  cut_begins last n k e f is =
      is
      ∙ (ap (λ i. cut new i k) e
      ∙ (ap (λ i. cut new (length old.definitions) i) f
      ∙ (ap (λ ds. record { definitions = ds; layouts = take (length old.layouts) new.layouts }) (taken old.definitions b.definitions new.definitions b.with_definitions)
      ∙ ap (λ ls. record { definitions = old.definitions; layouts = ls }) (taken old.layouts b.layouts new.layouts b.with_layouts))))

-- ---- functions

names_with : (ds : List Definition) (d : Definition) (ns : List ℕ) → names_in (ds ++ d ∷ []) ++ ns ≡ names_in ds ++ name_in d ∷ ns
names_with ds d ns = ap (λ ms. ms ++ ns) (map-append name_in ds (d ∷ [])) ∙ append_assoc (names_in ds) (name_in d ∷ []) ns

pub adding_start : (w : Content) (fs : List GeneratedFunction) → IsDistinct nat_eq (names_in w.definitions ++ function_names fs) → IsAdding w w fs fs
adding_start w fs d = record { begins = begins_same w w refl; fresh = d; whole = refl }

module _ (old now : Content) (f : GeneratedFunction) (rest left all : List GeneratedFunction) (g : IsAdding old now rest all) (split : rest ≡ f ∷ left) where
  names_split : IsDistinct nat_eq (names_in now.definitions ++ f.name.0 ∷ function_names left)
  names_split = subst (λ fs. IsDistinct nat_eq (names_in now.definitions ++ function_names fs)) split g.fresh

  pub adding_fresh : number_of now f.name.0 ≡ None
  adding_fresh = none_before (names_in now.definitions) (function_names left) f.name.0 names_split

  pub adding_refused : (new : Content) → new ≡ now → Begins old new
  adding_refused new e = begins_then old now new g.begins (begins_same now new e)

  pub adding_more : (new : Content) → new ≡ with_definition now (definition.Generated f) → IsAdding old new left all
  adding_more new e = record {
    begins = begins_then old now new g.begins (begins_more now new (definition.Generated f) e);
    fresh = subst (λ (w : Content). IsDistinct nat_eq (names_in w.definitions ++ function_names left)) (sym e)
        (subst (λ ns. IsDistinct nat_eq ns) (sym (names_with now.definitions (definition.Generated f) (function_names left))) names_split);
    whole =
        ap (λ (w : Content). with_functions w left) e
        ∙ (ap (λ ds. record { definitions = ds; layouts = now.layouts }) (append_assoc now.definitions (definition.Generated f ∷ []) (functions left))
        ∙ (ap (with_functions now) (sym split) ∙ g.whole));
  }

nothing_left : (fs : List GeneratedFunction) → length fs ≡ 0 → fs ≡ []
nothing_left [] e = refl
nothing_left (f ∷ fs) e = absurd (omega (arith, e))

pub adding_end : (old now : Content) (left all : List GeneratedFunction) → IsAdding old now left all → length left ≡ 0 → now ≡ with_functions old all
adding_end old now left all g e =
    ap (λ ds. record { definitions = ds; layouts = now.layouts }) (sym (append-nil now.definitions)) ∙ (ap (with_functions now) (sym (nothing_left left e)) ∙ g.whole)

-- ---- a stobj, then its functions

module _ (w laid_out : Content) (l : List Field) (is_laid : laid_out ≡ with_layout w l) where
  pub object_fresh : (x : ℕ) (ns : List ℕ) → IsDistinct nat_eq (names_in w.definitions ++ x ∷ ns) → number_of laid_out x ≡ None
  object_fresh x ns d = ap (λ (v : Content). number_of v x) is_laid ∙ none_before (names_in w.definitions) ns x d

  pub begins_laid : (last : Content) → last ≡ laid_out → Begins w last
  begins_laid last e = begins_then w laid_out last (begins_layout w laid_out l is_laid) (begins_same laid_out last e)

  module _ (d : Descriptor) (n : LayoutId) (class : SymId) (with_object : Content) (has_object : with_object ≡ with_definition laid_out (definition.Object d n class)) where
    pub functions_fresh : (ns : List ℕ) → IsDistinct nat_eq (names_in w.definitions ++ d.name.0 ∷ ns) → IsDistinct nat_eq (names_in with_object.definitions ++ ns)
    functions_fresh ns h =
        let is : with_object.definitions ≡ w.definitions ++ definition.Object d n class ∷ [] =
        ap (λ (v : Content). v.definitions) has_object ∙ ap (λ (v : Content). v.definitions ++ definition.Object d n class ∷ []) is_laid in
        subst (λ ds. IsDistinct nat_eq (names_in ds ++ ns)) (sym is) (subst (λ ms. IsDistinct nat_eq ms) (sym (names_with w.definitions (definition.Object d n class) ns)) h)

    pub begins_object : (last : Content) → Begins with_object last → Begins w last
    begins_object last b =
        begins_then w laid_out last (begins_layout w laid_out l is_laid) (begins_then laid_out with_object last (begins_more laid_out with_object (definition.Object d n class) has_object) b)

    pub all_entered : (fs : List GeneratedFunction) (last : Content) → n.0 ≡ length w.layouts → last ≡ with_functions with_object fs → last ≡ entered w d class l fs
    all_entered fs last number is =
        is
        ∙ (ap (λ (v : Content). with_functions v fs) has_object
        ∙ (ap (λ (v : Content). with_functions (with_definition v (definition.Object d n class)) fs) is_laid
        ∙ (ap (λ ds. record { definitions = ds; layouts = w.layouts ++ l ∷ [] }) (append_assoc w.definitions (definition.Object d n class ∷ []) (functions fs))
        ∙ ap (λ k. record { definitions = w.definitions ++ definition.Object d (record { 0 = k }) class ∷ functions fs; layouts = w.layouts ++ l ∷ [] }) number)))
