-- There are as many values as formals.
use Rattle.std.specs.Prelude.{◌≡◌, ℕ, suc, ◌+◌, ◌≤◌, List, [], ◌∷◌, ◌++◌, length, map, take, drop, Bool, true, false, nat_le, Option, Some, None, option_map, option_and_then, option_to_list, unwrap_or, refl, if◌then◌else◌}
use Rattle.std.proofs.Common.{sym, ap, ◌∙◌, arith}
use Rattle.std.proofs.lemmas.Bool.Decides.{nat_tests}
use Rattle.std.proofs.lemmas.List.{length-append, length-map, length-take}
use Rattle.model_objects.specs.Object.{Object}
use Rattle.model_symbols.specs.Symbols.{QualifiedName}
use Rattle.model_terms.specs.Worlds as worlds
use Rattle.model_terms.specs.Faults.{formal_names, optional_names}
use Rattle.model_expansion.specs.Expansion.{Taken, required_taken, optional_values, supplied_value, optional_taken, all_optional_values, key_pairs, keys_fit, actual_of_key, all_key_values, keys_taken, last_taken, after_required, macro_values}
use Rattle.acl_base.specs.declared.Word.{Word}
use Rattle.acl_heap.specs.Objects.{Objects, object_of}
use Rattle.acl_actuals.specs.Values.{words_at}

-- the values are so many, where there are values
abbrev Counts : ℕ → Option (List (Object ℕ)) → Type 0
Counts n None = Unit {0}
Counts n (Some vs) = length vs ≡ n

supplied_count : (x : Option ℕ) (b : Bool) (f : worlds.OptionalFormal) → f.supplied ≡ x → length (supplied_value f b) ≡ length (option_to_list x)
supplied_count x b f e = rw e (length-map (option_to_list x) _)

one_count : (f : worlds.OptionalFormal) (o : Option (Object ℕ)) → length (optional_values f o) ≡ length (f.name ∷ option_to_list f.supplied)
one_count f None = ap suc (supplied_count f.supplied false f refl)
one_count f (Some o) = ap suc (supplied_count f.supplied true f refl)

both_count : (vs ws : List (Object ℕ)) (xs ys : List ℕ) → length vs ≡ length xs → length ws ≡ length ys → length (vs ++ ws) ≡ length (xs ++ ys)
both_count vs ws xs ys e f = let a = length-append vs ws in let b = length-append xs ys in omega (arith, a, b, e, f)

optional_count : (fs : List worlds.OptionalFormal) (os : List (Object ℕ)) → length (all_optional_values fs os) ≡ length (optional_names fs)
optional_count [] os = refl
optional_count (f ∷ fs) [] = both_count (optional_values f None) (all_optional_values fs []) (f.name ∷ option_to_list f.supplied) (optional_names fs) (one_count f None) (optional_count fs [])
optional_count (f ∷ fs) (o ∷ os) = both_count (optional_values f (Some o)) (all_optional_values fs os) (f.name ∷ option_to_list f.supplied) (optional_names fs) (one_count f (Some o)) (optional_count fs os)

module _ (sy : List QualifiedName) where
  keyed_count : (fs : List worlds.OptionalFormal) (ps : List (Object ℕ × Object ℕ)) → length (all_key_values sy fs ps) ≡ length (optional_names fs)
  keyed_count [] ps = refl
  keyed_count (f ∷ fs) ps =
      both_count (optional_values f (actual_of_key sy ps f)) (all_key_values sy fs ps) (f.name ∷ option_to_list f.supplied) (optional_names fs) (one_count f (actual_of_key sy ps f)) (keyed_count fs ps)

  fitting_count : (fs : List worlds.OptionalFormal) (ps : List (Object ℕ × Object ℕ)) (b : Bool) → Counts (length (optional_names fs)) (if b then Some (all_key_values sy fs ps) else None)
  fitting_count fs ps true = keyed_count fs ps
  fitting_count fs ps false = tt

  pairs_count : (fs : List worlds.OptionalFormal) (ps : Option (List (Object ℕ × Object ℕ)))
      → Counts (length (optional_names fs)) (option_and_then (λ ps. if keys_fit sy fs ps then Some (all_key_values sy fs ps) else None) ps)
  pairs_count fs None = tt
  pairs_count fs (Some ps) = fitting_count fs ps (keys_fit sy fs ps)

  one_more : (n : ℕ) (o : Object ℕ) (t : Option (List (Object ℕ))) → Counts n t → Counts (suc n) (option_map (λ vs. o ∷ vs) t)
  one_more n o None c = tt
  one_more n o (Some vs) c = ap suc c

  last_count : (r : Option ℕ) (ks : Option (List worlds.OptionalFormal)) (os : List (Object ℕ)) → Counts (length (option_to_list r ++ optional_names (unwrap_or ks []))) (last_taken sy r ks os)
  last_count None None [] = refl
  last_count None None (o ∷ os) = tt
  last_count (Some x) None os = refl
  last_count None (Some fs) os = pairs_count fs (key_pairs os)
  last_count (Some x) (Some fs) os = one_more (length (optional_names fs)) _ (keys_taken sy fs os) (pairs_count fs (key_pairs os))

  behind_count : (done more : List (Object ℕ)) (xs ys zs : List ℕ) (t : Option (List (Object ℕ))) → length done ≡ length xs → length more ≡ length ys → Counts (length zs) t
      → Counts (length (xs ++ (ys ++ zs))) (option_map (λ vs. done ++ (more ++ vs)) t)
  behind_count done more xs ys zs None e f c = tt
  behind_count done more xs ys zs (Some vs) e f c = both_count done (more ++ vs) xs (ys ++ zs) e (both_count more vs ys zs f c)

  all_count : (f : worlds.MacroFormals) (os : List (Object ℕ)) (b : Bool) → nat_le (length f.required) (length os) ≡ b
      → Counts (length (formal_names f)) (option_and_then (after_required sy f) (if b then Some (take (length f.required) os, drop (length f.required) os) else None))
  all_count f os false e = tt
  all_count f os true e =
      let l : length f.required ≤ length os = grind (arith, nat_tests) in
      let t = length-take (length f.required) os in
      let n : length (take (length f.required) os) ≡ length f.required = omega (arith, t, l) in
      behind_count (take (length f.required) os) (all_optional_values f.optional (drop (length f.required) os)) f.required (optional_names f.optional)
      (option_to_list f.rest ++ optional_names (unwrap_or f.keys [])) (last_taken sy f.rest f.keys (drop (length f.optional) (drop (length f.required) os)))
      n (optional_count f.optional (drop (length f.required) os)) (last_count f.rest f.keys (drop (length f.optional) (drop (length f.required) os)))

  counted : (f : worlds.MacroFormals) (os : List (Object ℕ)) → Counts (length (formal_names f)) (macro_values sy f os)
  unfolding macro_values
  counted f os = all_count f os (nat_le (length f.required) (length os)) refl

  told : (n : ℕ) (t : Option (List (Object ℕ))) (vs : List (Object ℕ)) → Counts n t → t ≡ Some vs → length vs ≡ n
  told n None vs c e = cc
  told n (Some ws) vs c e = let q : ws ≡ vs = cc in ap (λ xs. length xs) (sym q) ∙ c

  pub count : (h : Objects) (f : worlds.MacroFormals) (os : List (Object ℕ)) (ws : List Word) → macro_values sy f os ≡ Some (words_at h ws) → length ws ≡ length (formal_names f)
  count h f os ws e = sym (length-map ws (object_of h)) ∙ told (length (formal_names f)) (macro_values sy f os) (words_at h ws) (counted f os) e
