-- What is left behind the optional formals, and all formals.
use Rattle.std.specs.Prelude.{◌≡◌, ℕ, List, [], ◌∷◌, ◌++◌, length, drop, Bool, true, false, Option, Some, None, option_map, refl}
use Rattle.std.proofs.Common.{sym, ap, ◌∙◌, append_assoc, arith}
use Rattle.std.proofs.lemmas.Bool.Decides.{nat_tests}
use Rattle.std.proofs.lemmas.List.{append-nil, length-map}
use Rattle.model_objects.specs.Object.{Object, Integer, Symbol, Text, Pair}
use Rattle.model_symbols.specs.Symbols.{QualifiedName}
use Rattle.model_prims.specs.Kinds.{by_number}
use Rattle.model_prims.specs.Lists.{is_true_list}
use Rattle.model_terms.specs.Worlds as worlds
use Rattle.model_expansion.specs.Forms.{list}
use Rattle.model_expansion.specs.Expansion.{required_taken, all_optional_values, key_pairs, keys_fit, all_key_values, keys_taken, last_taken, macro_values}
use Rattle.acl_heap.specs.Objects.{Objects}
use Rattle.acl_base.specs.declared.Word.{Word}
use Rattle.acl_terms.specs.declared.definition.MacroFormals.{MacroFormals}
use Rattle.acl_terms.specs.declared.definition.OptionalFormal.{OptionalFormal}
use Rattle.acl_terms.specs.Forms.{numbers}
use Rattle.acl_terms.specs.Signatures.{seen_name}
use Rattle.acl_terms.specs.Definitions.{seen_optional, seen_optionals, seen_formals}
use Rattle.acl_layers.specs.Lists.{items_along}
use Rattle.acl_actuals.specs.Values.{words_at, optionals_at, Puts}

-- a list that ends in NIL is the list of what stands along it
list_again : (o : Object ℕ) → is_true_list by_number o ≡ true → list (items_along o) ≡ o
list_again (Integer n) e = cc
list_again (Symbol s) e = let n : s ≡ 1 = grind (arith, nat_tests) in ap (λ (k : ℕ). Symbol k) (sym n)
list_again (Text bytes) e = cc
list_again (Pair a d) e = ap (Pair a) (list_again d e)

module _ (sy : List QualifiedName) where
  -- ---- keys

  pub keys_odd : (fs : List worlds.OptionalFormal) (os : List (Object ℕ)) → key_pairs os ≡ None → keys_taken sy fs os ≡ None
  keys_odd fs os e = rw e refl

  pub keys_bad : (fs : List worlds.OptionalFormal) (os : List (Object ℕ)) (ps : List (Object ℕ × Object ℕ)) → key_pairs os ≡ Some ps → keys_fit sy fs ps ≡ false → keys_taken sy fs os ≡ None
  keys_bad fs os ps e f = rw (e, f) refl

  pub keys_good : (fs : List worlds.OptionalFormal) (os : List (Object ℕ)) (ps : List (Object ℕ × Object ℕ)) (done made : List (Object ℕ))
      → key_pairs os ≡ Some ps → keys_fit sy fs ps ≡ true → made ≡ done ++ all_key_values sy fs ps → option_map (λ vs. done ++ vs) (keys_taken sy fs os) ≡ Some made
  keys_good fs os ps done made e f g = rw (e, f) (ap (λ xs. Some xs) (sym g))

  -- ---- what is left

  pub nothing_left : (done os : List (Object ℕ)) → os ≡ [] → option_map (λ vs. done ++ vs) (last_taken sy None None os) ≡ Some done
  nothing_left done os e = rw e (ap (λ xs. Some xs) (append-nil done))

  pub something_left : (o a d : Object ℕ) → o ≡ Pair a d → last_taken sy None None (items_along o) ≡ None
  something_left o a d e = rw e refl

  pub all_rest : (x : ℕ) (o : Object ℕ) (done made : List (Object ℕ)) → is_true_list by_number o ≡ true → made ≡ done ++ o ∷ []
      → option_map (λ vs. done ++ vs) (last_taken sy (Some x) None (items_along o)) ≡ Some made
  all_rest x o done made e g = ap (λ p. Some (done ++ p ∷ [])) (list_again o e) ∙ ap (λ xs. Some xs) (sym g)

  behind : (o : Object ℕ) (done : List (Object ℕ)) (t : Option (List (Object ℕ))) → option_map (λ vs. done ++ vs) (option_map (λ vs. o ∷ vs) t) ≡ option_map (λ vs. (done ++ o ∷ []) ++ vs) t
  behind o done None = refl
  behind o done (Some vs) = ap (λ xs. Some xs) (sym (append_assoc done (o ∷ []) vs))

  pub rest_and_keys : (x : ℕ) (fs : List worlds.OptionalFormal) (o : Object ℕ) (done with_rest made : List (Object ℕ)) → is_true_list by_number o ≡ true
      → with_rest ≡ done ++ o ∷ [] → option_map (λ vs. with_rest ++ vs) (keys_taken sy fs (items_along o)) ≡ Some made
      → option_map (λ vs. done ++ vs) (last_taken sy (Some x) (Some fs) (items_along o)) ≡ Some made
  rest_and_keys x fs o done with_rest made e g k =
      ap (λ p. option_map (λ vs. done ++ vs) (option_map (λ vs. p ∷ vs) (keys_taken sy fs (items_along o)))) (list_again o e)
      ∙ (behind o done (keys_taken sy fs (items_along o)) ∙ (ap (λ xs. option_map (λ vs. xs ++ vs) (keys_taken sy fs (items_along o))) (sym g) ∙ k))

  pub rest_and_none : (x : ℕ) (fs : List worlds.OptionalFormal) (os : List (Object ℕ)) → keys_taken sy fs os ≡ None → last_taken sy (Some x) (Some fs) os ≡ None
  rest_and_none x fs os e = rw e refl

  -- ---- all formals

  pub macro_few : (h : Objects) (f : MacroFormals) (os : List (Object ℕ)) → required_taken (numbers f.required) os ≡ None → macro_values sy (seen_formals h f) os ≡ None
  unfolding macro_values
  macro_few h f os e = rw e refl

  same_left : (h : Objects) (fs : List OptionalFormal) (left later : List (Object ℕ)) → later ≡ drop (length fs) left → drop (length (optionals_at h fs)) left ≡ later
  same_left h fs left later g = ap (λ n. drop n left) (length-map fs (seen_optional h)) ∙ sym g

  assoc : (done os : List (Object ℕ)) (t : Option (List (Object ℕ))) → option_map (λ vs. done ++ (os ++ vs)) t ≡ option_map (λ vs. (done ++ os) ++ vs) t
  assoc done os None = refl
  assoc done os (Some vs) = ap (λ xs. Some xs) (sym (append_assoc done os vs))

  pub macro_none : (h : Objects) (f : MacroFormals) (os done left later : List (Object ℕ))
      → required_taken (numbers f.required) os ≡ Some (done, left) → later ≡ drop (length f.optional) left
      → last_taken sy (seen_name f.rest) (seen_optionals h f.keys) later ≡ None → macro_values sy (seen_formals h f) os ≡ None
  unfolding macro_values
  macro_none h f os done left later e g k =
      rw e (ap (λ os. option_map (λ vs. done ++ (all_optional_values (optionals_at h f.optional) left ++ vs)) (last_taken sy (seen_name f.rest) (seen_optionals h f.keys) os)) (same_left h f.optional left later g)
      ∙ ap (λ t. option_map (λ vs. done ++ (all_optional_values (optionals_at h f.optional) left ++ vs)) t) k)

  pub macro_all : (h : Objects) (f : MacroFormals) (os done left later more made : List (Object ℕ))
      → required_taken (numbers f.required) os ≡ Some (done, left) → more ≡ done ++ all_optional_values (optionals_at h f.optional) left → later ≡ drop (length f.optional) left
      → option_map (λ vs. more ++ vs) (last_taken sy (seen_name f.rest) (seen_optionals h f.keys) later) ≡ Some made → macro_values sy (seen_formals h f) os ≡ Some made
  unfolding macro_values
  macro_all h f os done left later more made e m g k =
      rw e (ap (λ os. option_map (λ vs. done ++ (all_optional_values (optionals_at h f.optional) left ++ vs)) (last_taken sy (seen_name f.rest) (seen_optionals h f.keys) os)) (same_left h f.optional left later g)
      ∙ (assoc done (all_optional_values (optionals_at h f.optional) left) (last_taken sy (seen_name f.rest) (seen_optionals h f.keys) later)
      ∙ (ap (λ xs. option_map (λ vs. xs ++ vs) (last_taken sy (seen_name f.rest) (seen_optionals h f.keys) later)) (sym m) ∙ k)))

  pub rest_puts : (h : Objects) (x : ℕ) (fs : List worlds.OptionalFormal) (o : Object ℕ) (old mid new : List Word) (b : Bool) → is_true_list by_number o ≡ true
      → words_at h mid ≡ words_at h old ++ o ∷ [] → Puts h mid new b (keys_taken sy fs (items_along o)) → Puts h old new b (last_taken sy (Some x) (Some fs) (items_along o))
  rest_puts h x fs o old mid new true e g k = rest_and_keys x fs o (words_at h old) (words_at h mid) (words_at h new) e g k
  rest_puts h x fs o old mid new false e g k = rest_and_none x fs (items_along o) k
