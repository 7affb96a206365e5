-- The values of a macro's formals have the symbols of its actuals, of what formals may be by default, and of T and NIL.
use Rattle.std.proofs.Common.{ℕ, zero, suc, List, [], ◌∷◌, ◌++◌, take, drop, length, Bool, true, false, Option, Some, None}
use Rattle.std.specs.Prelude.{nat_le, map, if◌then◌else◌, option_map, option_and_then, option_to_list, unwrap_or}
use Rattle.std.specs.List.{find}
use Rattle.model_objects.specs.Object.{Object, Symbol}
use Rattle.model_objects.specs.Named.{Symbols}
use Rattle.model_symbols.specs.Symbols.{QualifiedName}
use Rattle.model_symbols.specs.Opening.{truth, nil}
use Rattle.model_terms.specs.Worlds.{OptionalFormal, MacroFormals}
use Rattle.model_expansion.specs.Forms.{list}
use Rattle.model_expansion.specs.Expansion.{Taken, supplied_value, optional_values, all_optional_values, key_pairs, names_formal, keys_fit, actual_of_key, all_key_values, keys_taken, last_taken, after_required, macro_values}
use Rattle.model_expansion_forms.proofs.PartLemmas.{AllHave, AllHaveIfAny, HasIfAny, list_has, both_have}

module _ (P : ℕ → Type 0) where
  abbrev pub DefaultsHave : List OptionalFormal → Type 0
  DefaultsHave [] = Unit {0}
  DefaultsHave (f ∷ fs) = Symbols P f.default × DefaultsHave fs

module _ (P : ℕ → Type 0) (yes : P truth) (no : P nil) where
  take_has : (n : ℕ) (os : List (Object ℕ)) → AllHave P os → AllHave P (take n os)
  take_has zero os h = tt
  take_has (suc n) [] h = tt
  take_has (suc n) (o ∷ os) h = (h.0, take_has n os h.1)

  drop_has : (n : ℕ) (os : List (Object ℕ)) → AllHave P os → AllHave P (drop n os)
  drop_has zero os h = h
  drop_has (suc n) [] h = tt
  drop_has (suc n) (o ∷ os) h = drop_has n os h.1

  flag_has : (b : Bool) → Symbols P (Symbol (if b then truth else nil))
  flag_has true = yes
  flag_has false = no

  supplied_has : (f : OptionalFormal) (b : Bool) → AllHave P (supplied_value f b)
  supplied_has f b = go f.supplied
    where
      go : (v : Option ℕ) → AllHave P (map (λ x. Symbol (if b then truth else nil)) (option_to_list v))
      go None = tt
      go (Some x) = (flag_has b, tt)

  optional_has : (f : OptionalFormal) → Symbols P f.default → (o : Option (Object ℕ)) → HasIfAny P o → AllHave P (optional_values f o)
  optional_has f d None h = (d, supplied_has f false)
  optional_has f d (Some o) h = (h, supplied_has f true)

  all_optional_has : (fs : List OptionalFormal) → DefaultsHave P fs → (os : List (Object ℕ)) → AllHave P os → AllHave P (all_optional_values fs os)
  all_optional_has [] d os h = tt
  all_optional_has (f ∷ fs) d [] h = both_have P (optional_values f None) (all_optional_values fs []) (optional_has f d.0 None tt) (all_optional_has fs d.1 [] h)
  all_optional_has (f ∷ fs) d (o ∷ os) h = both_have P (optional_values f (Some o)) (all_optional_values fs os) (optional_has f d.0 (Some o) h.0) (all_optional_has fs d.1 os h.1)

  -- ---- keys

  abbrev PairsHave : List (Object ℕ × Object ℕ) → Type 0
  PairsHave [] = Unit {0}
  PairsHave (p ∷ ps) = Symbols P p.1 × PairsHave ps

  abbrev PairsHaveIfAny : Option (List (Object ℕ × Object ℕ)) → Type 0
  PairsHaveIfAny None = Unit {0}
  PairsHaveIfAny (Some ps) = PairsHave ps

  abbrev PairHasIfAny : Option (Object ℕ × Object ℕ) → Type 0
  PairHasIfAny None = Unit {0}
  PairHasIfAny (Some p) = Symbols P p.1

  pairs_have : (os : List (Object ℕ)) → AllHave P os → PairsHaveIfAny (key_pairs os)
  pairs_have [] h = tt
  pairs_have (k ∷ []) h = tt
  pairs_have (k ∷ (v ∷ os)) h = go (key_pairs os) (pairs_have os h.1.1)
    where
      go : (ps : Option (List (Object ℕ × Object ℕ))) → PairsHaveIfAny ps → PairsHaveIfAny (option_map (λ ps. (k, v) ∷ ps) ps)
      go None l = tt
      go (Some ps) l = (h.1.0, l)

  found_has : (test : Object ℕ × Object ℕ → Bool) (ps : List (Object ℕ × Object ℕ)) → PairsHave ps → PairHasIfAny (find test ps)
  found_has test [] h = tt
  found_has test (p ∷ ps) h = go (test p) (found_has test ps h.1)
    where
      go : (b : Bool) → PairHasIfAny (find test ps) → PairHasIfAny (if b then Some p else find test ps)
      go true k = h.0
      go false k = k

  module _ (symbols : List QualifiedName) where
    key_has : (ps : List (Object ℕ × Object ℕ)) → PairsHave ps → (f : OptionalFormal) → HasIfAny P (actual_of_key symbols ps f)
    key_has ps h f = go (find (λ (p : Object ℕ × Object ℕ). names_formal symbols p.0 f) ps) (found_has (λ (p : Object ℕ × Object ℕ). names_formal symbols p.0 f) ps h)
      where
        go : (p : Option (Object ℕ × Object ℕ)) → PairHasIfAny p → HasIfAny P (option_map (λ (p : Object ℕ × Object ℕ). p.1) p)
        go None k = tt
        go (Some p) k = k

    all_keys_have : (fs : List OptionalFormal) → DefaultsHave P fs → (ps : List (Object ℕ × Object ℕ)) → PairsHave ps → AllHave P (all_key_values symbols fs ps)
    all_keys_have [] d ps h = tt
    all_keys_have (f ∷ fs) d ps h =
        both_have P (optional_values f (actual_of_key symbols ps f)) (all_key_values symbols fs ps) (optional_has f d.0 (actual_of_key symbols ps f) (key_has ps h f)) (all_keys_have fs d.1 ps h)

    keys_have : (fs : List OptionalFormal) → DefaultsHave P fs → (os : List (Object ℕ)) → AllHave P os → AllHaveIfAny P (keys_taken symbols fs os)
    keys_have fs d os h = go (key_pairs os) (pairs_have os h)
      where
        by_test : (ps : List (Object ℕ × Object ℕ)) → PairsHave ps → (b : Bool) → AllHaveIfAny P (if b then Some (all_key_values symbols fs ps) else None)
        by_test ps k true = all_keys_have fs d ps k
        by_test ps k false = tt

        go : (ps : Option (List (Object ℕ × Object ℕ))) → PairsHaveIfAny ps → AllHaveIfAny P (option_and_then (λ ps. if keys_fit symbols fs ps then Some (all_key_values symbols fs ps) else None) ps)
        go None k = tt
        go (Some ps) k = by_test ps k (keys_fit symbols fs ps)

    last_have : (rest : Option ℕ) (fs : Option (List OptionalFormal)) → DefaultsHave P (unwrap_or fs []) → (os : List (Object ℕ)) → AllHave P os → AllHaveIfAny P (last_taken symbols rest fs os)
    last_have None None d [] h = tt
    last_have None None d (o ∷ os) h = tt
    last_have (Some x) None d os h = (list_has P no os h, tt)
    last_have None (Some fs) d os h = keys_have fs d os h
    last_have (Some x) (Some fs) d os h = go (keys_taken symbols fs os) (keys_have fs d os h)
      where
        go : (vs : Option (List (Object ℕ))) → AllHaveIfAny P vs → AllHaveIfAny P (option_map (λ vs. list os ∷ vs) vs)
        go None k = tt
        go (Some vs) k = (list_has P no os h, k)

    rest_have : (f : MacroFormals) → DefaultsHave P f.optional → DefaultsHave P (unwrap_or f.keys []) → (t : Taken) → AllHave P t.0 → AllHave P t.1 → AllHaveIfAny P (after_required symbols f t)
    rest_have f d e t h k =
        go (last_taken symbols f.rest f.keys (drop (length f.optional) t.1)) (last_have f.rest f.keys e (drop (length f.optional) t.1) (drop_has (length f.optional) t.1 k))
      where
        go : (vs : Option (List (Object ℕ))) → AllHaveIfAny P vs → AllHaveIfAny P (option_map (λ vs. t.0 ++ (all_optional_values f.optional t.1 ++ vs)) vs)
        go None l = tt
        go (Some vs) l = both_have P t.0 (all_optional_values f.optional t.1 ++ vs) h (both_have P (all_optional_values f.optional t.1) vs (all_optional_has f.optional d t.1 k) l)

    pub values_have : (f : MacroFormals) → DefaultsHave P f.optional → DefaultsHave P (unwrap_or f.keys []) → (os : List (Object ℕ)) → AllHave P os → AllHaveIfAny P (macro_values symbols f os)
    unfolding macro_values
    values_have f d e os h = go (nat_le (length f.required) (length os))
      where
        go : (b : Bool) → AllHaveIfAny P (option_and_then (after_required symbols f) (if b then Some (take (length f.required) os, drop (length f.required) os) else None))
        go true = rest_have f d e (take (length f.required) os, drop (length f.required) os) (take_has (length f.required) os h) (drop_has (length f.required) os h)
        go false = tt
