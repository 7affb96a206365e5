-- Refusals once the names are made.
use Rattle.std.specs.Prelude.{◌≡◌, ℕ, List, [], ◌∷◌, ◌++◌, map, Option, Some, None, refl}
use Rattle.std.specs.List.{flat_map}
use Rattle.std.proofs.Common.{sym, ap, ◌∙◌, append_assoc}
use Rattle.std.proofs.lemmas.List.{append-nil, map-append}
use Rattle.model_terms.specs.Worlds as worlds
use Rattle.model_expansion.specs.Faults.{Refusal}
use Rattle.model_stobjs.specs.Heads.{name_in_use}
use Rattle.model_stobjs.specs.Descriptors.{names_of_field, new_names, mismatch}
use Rattle.acl_base.specs.declared.SymId.{SymId}
use Rattle.acl_heap.specs.Objects.{Objects}
use Rattle.acl_terms.specs.Forms.{numbers}
use Rattle.acl_terms.specs.Definitions.{seen_field, seen_descriptor}
use Rattle.acl_terms.specs.declared.stobj.FieldDescriptor.{FieldDescriptor}
use Rattle.acl_terms.specs.declared.stobj.Descriptor.{Descriptor}
use Rattle.acl_stobj.specs.MadeFields.{names_in}
use Rattle.acl_stobj.specs.Outcomes.{named_refusal}

-- ---- names put behind others

pub pushed : (all now new rest others : List SymId) (x : SymId) → now ++ rest ≡ all → rest ≡ x ∷ others → new ≡ now ++ x ∷ [] → new ++ others ≡ all
pushed all now new rest others x g e n = rw n (append_assoc now (x ∷ []) others ∙ (ap (λ xs. now ++ xs) (sym e) ∙ g))

pub all_pushed : (all now rest : List SymId) → now ++ rest ≡ all → rest ≡ [] → now ≡ all
all_pushed all now rest g e = sym (append-nil now) ∙ (ap (λ xs. now ++ xs) (sym e) ∙ g)

pub none_pushed : (now rest : List SymId) → now ++ rest ≡ now ++ rest
none_pushed now rest = refl

pub numbers_both : (xs ys zs : List SymId) → zs ≡ xs ++ ys → numbers zs ≡ numbers xs ++ numbers ys
numbers_both xs ys zs e = ap numbers e ∙ map-append (λ (s : SymId). s.0) xs ys

pub field_pushed : (all : List ℕ) (now new : List SymId) (d : FieldDescriptor) (rest others : List FieldDescriptor) → numbers now ++ names_in rest ≡ all → rest ≡ d ∷ others → new ≡ now ++ d.made
    → numbers new ++ names_in others ≡ all
field_pushed all now new d rest others g e n =
    ap (λ xs. xs ++ names_in others) (numbers_both now d.made new n)
    ∙ (append_assoc (numbers now) (numbers d.made) (names_in others) ∙ (ap (λ fs. numbers now ++ names_in fs) (sym e) ∙ g))

pub fields_pushed : (all : List ℕ) (now : List SymId) (rest : List FieldDescriptor) → numbers now ++ names_in rest ≡ all → rest ≡ [] → numbers now ≡ all
fields_pushed all now rest g e = sym (append-nil (numbers now)) ∙ (ap (λ fs. numbers now ++ names_in fs) (sym e) ∙ g)

made_are : (h : Objects) (ds : List FieldDescriptor) → flat_map names_of_field (map (seen_field h) ds) ≡ names_in ds
made_are h [] = refl
made_are h (d ∷ ds) = ap (λ xs. numbers d.made ++ xs) (made_are h ds)

pub names_are : (h : Objects) (d : Descriptor) (fs : List FieldDescriptor) (own names : List SymId) → own ≡ d.name ∷ (d.recognizer ∷ (d.creator ∷ [])) → fs ≡ d.fields → numbers names ≡ numbers own ++ names_in fs
    → numbers names ≡ new_names (seen_descriptor h d)
names_are h d fs own names o f e = e ∙ (rw (o, f) (ap (λ xs. d.name.0 ∷ (d.recognizer.0 ∷ (d.creator.0 ∷ xs))) (sym (made_are h d.fields))))

-- ---- the first refusal

module _ (w : worlds.World) (d : worlds.Descriptor) where
  pub used : (xs : List ℕ) (r : Refusal) → xs ≡ new_names d → name_in_use w xs ≡ Some r → named_refusal w d ≡ Some r
  used xs r e f = let g : name_in_use w (new_names d) ≡ Some r = rw e at f in rw g refl

  pub differs : (xs : List ℕ) (r : Refusal) → xs ≡ new_names d → name_in_use w xs ≡ None → mismatch w d ≡ Some r → named_refusal w d ≡ Some r
  differs xs r e f m = let g : name_in_use w (new_names d) ≡ None = rw e at f in rw (g, m) refl

  pub accepted : (xs : List ℕ) → xs ≡ new_names d → name_in_use w xs ≡ None → mismatch w d ≡ None → named_refusal w d ≡ None
  accepted xs e f m = let g : name_in_use w (new_names d) ≡ None = rw e at f in rw (g, m) refl
