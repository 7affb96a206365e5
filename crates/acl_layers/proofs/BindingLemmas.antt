-- Bindings, bodies and names.
use Rattle.std.specs.Prelude.{◌≡◌, ℕ, zero, suc, ◌+◌, ◌<◌, ◌≤◌, List, [], ◌∷◌, ◌++◌, length, map, max, drop, Some, None, true, false, not, ◌&&◌, ◌||◌, nat_eq, option_map, if◌then◌else◌, refl}
use Rattle.std.proofs.Common.{sym, ap, ◌∙◌, get_or, drop-cons, add-one, append_assoc, arith}
use Rattle.std.proofs.Math.ListN.{drop_of_length-le}
use Rattle.std.proofs.lemmas.List.{append-nil, map-append}
use Rattle.model_objects.specs.Object.{Object}
use Rattle.model_symbols.specs.Symbols.{QualifiedName}
use Rattle.model_terms.specs.Classes.{has}
use Rattle.model_expansion.specs.Words.{declare_word}
use Rattle.model_expansion.specs.Forms.{elements, has_head, are_different, variable_name}
use Rattle.model_expansion.specs.Layers.{binding, binding_in, body_of, bound_names, bound_forms, is_none}
use Rattle.model_expansion.specs.Layers as layers
use Rattle.acl_base.specs.declared.SymId.{SymId}
use Rattle.acl_base.specs.declared.Word.{Word}
use Rattle.acl_heap.specs.Objects.{Objects, object_of, reach}
use Rattle.acl_terms.specs.Forms.{numbers, most}
use Rattle.acl_layers.specs.Lists.{only_two, seen_binding, seen_bindings, bindings_reach}

pub left_at : {X : Type 0} (xs : List X) (i : ℕ) (d : X) → i < length xs → drop i xs ≡ get_or xs i d ∷ drop (i + 1) xs
left_at xs i d l = rw (add-one i, drop-cons xs i d l) refl

-- ---- a binding

module _ (sy : List QualifiedName) where
  pub no_list : (o : Object ℕ) → elements o ≡ None → binding sy o ≡ None
  no_list o e = rw e refl

  in_none : (os : List (Object ℕ)) → only_two os ≡ None → binding_in sy os ≡ None
  in_none [] e = refl
  in_none (a ∷ []) e = refl
  in_none (a ∷ (b ∷ [])) e = cc
  in_none (a ∷ (b ∷ (c ∷ os))) e = refl

  pub not_two : (o : Object ℕ) (os : List (Object ℕ)) → elements o ≡ Some os → only_two os ≡ None → binding sy o ≡ None
  not_two o os e n = rw e (in_none os n)

  pub is_two : (o a b : Object ℕ) (os : List (Object ℕ)) → elements o ≡ Some os → os ≡ a ∷ (b ∷ []) → binding sy o ≡ option_map (λ s. (s, b)) (variable_name sy a)
  is_two o a b os e n = rw (e, n) refl

  -- ---- a body

  pub body_none : (os : List (Object ℕ)) → os ≡ [] → body_of sy os ≡ None
  body_none os e = rw e refl

  last_body : (a : Object ℕ) (rest : List (Object ℕ)) → is_none sy rest ≡ true → body_of sy (a ∷ rest) ≡ Some a
  last_body a [] n = refl
  last_body a (b ∷ rest) n = cc

  more_body : (a : Object ℕ) (rest : List (Object ℕ)) → is_none sy rest ≡ false → body_of sy (a ∷ rest) ≡ (if has_head declare_word a then body_of sy rest else None)
  more_body a [] n = cc
  more_body a (b ∷ rest) n = refl

  pub body_last : (a : Object ℕ) (os rest : List (Object ℕ)) → os ≡ a ∷ rest → is_none sy rest ≡ true → body_of sy os ≡ Some a
  body_last a os rest e n = ap (body_of sy) e ∙ last_body a rest n

  pub body_declared : (a : Object ℕ) (os rest : List (Object ℕ)) → os ≡ a ∷ rest → is_none sy rest ≡ false → has_head declare_word a ≡ true → body_of sy os ≡ body_of sy rest
  body_declared a os rest e n h = ap (body_of sy) e ∙ (more_body a rest n ∙ rw h refl)

  pub body_other : (a : Object ℕ) (os rest : List (Object ℕ)) → os ≡ a ∷ rest → is_none sy rest ≡ false → has_head declare_word a ≡ false → body_of sy os ≡ None
  body_other a os rest e n h = ap (body_of sy) e ∙ (more_body a rest n ∙ rw h refl)

-- ---- lists of bindings

pub binding_pushed : (h : Objects) (bs : List (SymId × Word)) (b : SymId × Word) → seen_bindings h (bs ++ b ∷ []) ≡ seen_bindings h bs ++ seen_binding h b ∷ []
binding_pushed h bs b = map-append (seen_binding h) bs (b ∷ [])

pub most_append : (ns : List ℕ) (n : ℕ) → most (ns ++ n ∷ []) ≡ max (most ns) n
most_append [] n = omega arith
most_append (m ∷ ns) n = let e : most (ns ++ n ∷ []) ≡ max (most ns) n = most_append ns n in omega arith

pub reach_pushed : (bs : List (SymId × Word)) (b : SymId × Word) → bindings_reach (bs ++ b ∷ []) ≡ max (bindings_reach bs) (reach b.1)
reach_pushed bs b = ap most (map-append (λ (b : SymId × Word). reach b.1) bs (b ∷ [])) ∙ most_append (map (λ (b : SymId × Word). reach b.1) bs) (reach b.1)

pub form_lies : (bs : List (SymId × Word)) (i : ℕ) (d : SymId × Word) → i < length bs → reach (get_or bs i d).1 ≤ bindings_reach bs
form_lies [] i d l = omega arith
form_lies (b ∷ bs) zero d l = omega arith
form_lies (b ∷ bs) (suc i) d l = let y : reach (get_or bs i d).1 ≤ bindings_reach bs = form_lies bs i d (omega arith) in omega arith

module _ (h : Objects) where
  pub names_step : (done : List ℕ) (bs : List (SymId × Word)) (i : ℕ) (d : SymId × Word) → i < length bs
      → done ++ bound_names [] (seen_bindings h (drop i bs)) ≡ (done ++ (get_or bs i d).0.0 ∷ []) ++ bound_names [] (seen_bindings h (drop (i + 1) bs))
  names_step done bs i d l = ap (λ xs. done ++ bound_names [] (seen_bindings h xs)) (left_at bs i d l) ∙ sym (append_assoc done ((get_or bs i d).0.0 ∷ []) (bound_names [] (seen_bindings h (drop (i + 1) bs))))

  pub names_end : (done : List ℕ) (bs : List (SymId × Word)) (i : ℕ) → length bs ≤ i → done ++ bound_names [] (seen_bindings h (drop i bs)) ≡ done
  names_end done bs i l = rw (drop_of_length-le bs l) (append-nil done)

  pub forms_step : (done : List layers.Part) (bs : List (SymId × Word)) (i : ℕ) (d : SymId × Word) → i < length bs
      → done ++ bound_forms [] (seen_bindings h (drop i bs)) ≡ (done ++ layers.Form (object_of h (get_or bs i d).1) ∷ []) ++ bound_forms [] (seen_bindings h (drop (i + 1) bs))
  forms_step done bs i d l =
      ap (λ xs. done ++ bound_forms [] (seen_bindings h xs)) (left_at bs i d l)
      ∙ sym (append_assoc done (layers.Form (object_of h (get_or bs i d).1) ∷ []) (bound_forms [] (seen_bindings h (drop (i + 1) bs))))

  pub forms_end : (done : List layers.Part) (bs : List (SymId × Word)) (i : ℕ) → length bs ≤ i → done ++ bound_forms [] (seen_bindings h (drop i bs)) ≡ done
  forms_end done bs i l = rw (drop_of_length-le bs l) (append-nil done)

-- ---- names

pub numbers_push : (xs : List SymId) (x : SymId) → numbers (xs ++ x ∷ []) ≡ numbers xs ++ x.0 ∷ []
numbers_push xs x = map-append (λ (s : SymId). s.0) xs (x ∷ [])

pub has_step : (ns : List SymId) (i x : ℕ) (d : SymId) → i < length ns → has (numbers (drop i ns)) x ≡ (nat_eq x (get_or ns i d).0 || has (numbers (drop (i + 1) ns)) x)
has_step ns i x d l = rw (left_at ns i d l) refl

pub has_end : (ns : List SymId) (i x : ℕ) → length ns ≤ i → has (numbers (drop i ns)) x ≡ false
has_end ns i x l = rw (drop_of_length-le ns l) refl

pub different_step : (ns : List SymId) (i : ℕ) (d : SymId) → i < length ns
    → are_different (numbers (drop i ns)) ≡ (not (has (numbers (drop (i + 1) ns)) (get_or ns i d).0) && are_different (numbers (drop (i + 1) ns)))
different_step ns i d l = rw (left_at ns i d l) refl

pub different_end : (ns : List SymId) (i : ℕ) → length ns ≤ i → are_different (numbers (drop i ns)) ≡ true
different_end ns i l = rw (drop_of_length-le ns l) refl
