-- The names that a stobj brings to the world are among those that were found free.
use Rattle.std.specs.Prelude.{◌≡◌, ℕ, ◌+◌, List, [], ◌∷◌, ◌++◌, map, pos, false, None, nat_eq, refl}
use Rattle.std.specs.List.{AllByRecursion, IsDistinct, flat_map}
use Rattle.std.proofs.Common.{sym, ap, ◌∙◌, subst}
use Rattle.std.proofs.lemmas.List.{map-append, append_assoc}
use Rattle.model_terms.specs.Worlds as worlds
use Rattle.model_terms.specs.Worlds.{World, HasDistinctNames, Field, GeneratedFunction, definition_name}
use Rattle.model_stobjs.specs.Heads.{name_in_use}
use Rattle.model_stobjs.specs.Descriptors.{names_of_field, new_names}
use Rattle.model_stobjs.specs.Entries.{Task, named_tasks, field_tasks, field_functions, stobj_entries}
use Rattle.acl_base.specs.declared.Word.TheVariants.{Small}
use Rattle.acl_heap.specs.Objects.{Objects}
use Rattle.acl_terms.specs.declared.definition.Definition.{Definition}
use Rattle.acl_terms.specs.declared.definition.Definition.TheVariants as definition
use Rattle.acl_terms.specs.Definitions.{name_in}
use Rattle.acl_worlds.specs.Contents.{Content, IsWorld, seen_world, names_in}
use Rattle.acl_worlds.proofs.WorldLemmas.{seen_names}
use Rattle.acl_definitions.proofs.LawLemmas.{are_added}

-- ---- lists without some of their numbers

all_without : (P : ℕ → Type 0) (kept xs rest : List ℕ) → AllByRecursion P (kept ++ (xs ++ rest)) → AllByRecursion P (kept ++ rest)
all_without P [] [] rest h = h
all_without P [] (x ∷ xs) rest h = all_without P [] xs rest h.1
all_without P (a ∷ kept) xs rest h = (h.0, all_without P kept xs rest h.1)

without : (kept xs rest : List ℕ) → IsDistinct nat_eq (kept ++ (xs ++ rest)) → IsDistinct nat_eq (kept ++ rest)
unfolding IsDistinct
without [] [] rest h = h
without [] (x ∷ xs) rest h = without [] xs rest h.1
without (a ∷ kept) xs rest h = (all_without (λ z. nat_eq a z ≡ false) kept xs rest h.0, without kept xs rest h.1)

-- ---- names of functions

names : List GeneratedFunction → List ℕ
names fs = map definition_name (map worlds.Generated fs)

names_both : (fs gs : List GeneratedFunction) → names (fs ++ gs) ≡ names fs ++ names gs
unfolding names
names_both fs gs = ap (map definition_name) (map-append worlds.Generated fs gs) ∙ map-append definition_name (map worlds.Generated fs) (map worlds.Generated gs)

module _ (s : ℕ) where
  -- as many of a field's names as it has functions
  of_field : (i : ℕ) (xs : List ℕ) (ts : List Task) (kept rest : List ℕ) → IsDistinct nat_eq (kept ++ (xs ++ rest)) → IsDistinct nat_eq (kept ++ (names (named_tasks s i xs ts) ++ rest))
  unfolding names
  of_field i [] ts kept rest h = h
  of_field i (x ∷ xs) [] kept rest h = without kept (x ∷ xs) rest h
  of_field i (x ∷ xs) (t ∷ ts) kept rest h =
      subst (λ ns. IsDistinct nat_eq ns) (append_assoc kept (x ∷ []) (names (named_tasks s i xs ts) ++ rest))
      (of_field i xs ts (kept ++ x ∷ []) rest (subst (λ ns. IsDistinct nat_eq ns) (sym (append_assoc kept (x ∷ []) (xs ++ rest))) h))

  of_fields : (i : ℕ) (fs : List Field) (kept : List ℕ) → IsDistinct nat_eq (kept ++ flat_map names_of_field fs) → IsDistinct nat_eq (kept ++ names (field_functions s i fs))
  unfolding names
  of_fields i [] kept h = h
  of_fields i (f ∷ fs) kept h =
      let first : List GeneratedFunction = named_tasks s i f.made (field_tasks s f.shape) in
      let later : IsDistinct nat_eq ((kept ++ names first) ++ names (field_functions s (i + 1) fs)) =
      of_fields (i + 1) fs (kept ++ names first)
      (subst (λ ns. IsDistinct nat_eq ns) (sym (append_assoc kept (names first) (flat_map names_of_field fs)))
      (of_field i f.made (field_tasks s f.shape) kept (flat_map names_of_field fs) h)) in
      subst (λ ns. IsDistinct nat_eq ns)
      (append_assoc kept (names first) (names (field_functions s (i + 1) fs)) ∙ ap (λ ns. kept ++ ns) (sym (names_both first (field_functions s (i + 1) fs)))) later

-- ---- a stobj in the world

-- definitions of these names
constants : List ℕ → List Definition
constants ns = map (λ n. definition.Constant (record { 0 = n }) (Small (pos 0))) ns

constants_named : (ns : List ℕ) → names_in (constants ns) ≡ ns
unfolding constants
constants_named [] = refl
constants_named (n ∷ ns) = ap (λ ms. n ∷ ms) (constants_named ns)

all_new : (h : Objects) (w : Content) (ns : List ℕ) → IsWorld w → name_in_use (seen_world h w) ns ≡ None → IsDistinct nat_eq (names_in w.definitions ++ ns)
all_new h w ns is free =
    subst (λ ms. IsDistinct nat_eq ms) (map-append name_in w.definitions (constants ns) ∙ ap (λ ms. names_in w.definitions ++ ms) (constants_named ns))
    (are_added.fresh h w (constants ns) is (ap (name_in_use (seen_world h w)) (constants_named ns) ∙ free))

pub entries_new : (h : Objects) (w : Content) (d : worlds.Descriptor) → IsWorld w → name_in_use (seen_world h w) (new_names d) ≡ None → HasDistinctNames (seen_world h w ++ stobj_entries (seen_world h w) d)
unfolding names
entries_new h w d is free =
    let own : List ℕ = d.name ∷ (d.recognizer ∷ (d.creator ∷ [])) in
    let before : IsDistinct nat_eq ((names_in w.definitions ++ own) ++ flat_map names_of_field d.fields) =
    subst (λ ns. IsDistinct nat_eq ns) (sym (append_assoc (names_in w.definitions) own (flat_map names_of_field d.fields))) (all_new h w (new_names d) is free) in
    let after : IsDistinct nat_eq (names_in w.definitions ++ (own ++ names (field_functions d.name 0 d.fields))) =
    subst (λ ns. IsDistinct nat_eq ns) (append_assoc (names_in w.definitions) own (names (field_functions d.name 0 d.fields)))
    (of_fields d.name 0 d.fields (names_in w.definitions ++ own) before) in
    subst (λ ns. IsDistinct nat_eq ns)
    (ap (λ ns. ns ++ (own ++ names (field_functions d.name 0 d.fields))) (sym (seen_names h w.definitions))
    ∙ sym (map-append definition_name (seen_world h w) (stobj_entries (seen_world h w) d))) after
