-- A body behind declarations.
use Rattle.std.specs.Prelude.{◌≡◌, ℕ, List, [], ◌∷◌, ◌++◌, map, max, ℤ, Bool, true, false, Option, Some, None, option_map, refl, if◌then◌else◌}
use Rattle.std.proofs.Common.{sym, ap, ◌∙◌, append_assoc}
use Rattle.std.proofs.lemmas.List.{append-nil, map-append}
use Rattle.model_objects.specs.Object.{Object, Integer, Symbol, Text, Pair}
use Rattle.model_prims.specs.Kinds.{by_number, is_pair}
use Rattle.model_prims.specs.Lists.{is_true_list}
use Rattle.model_expansion.specs.Words.{declare_word}
use Rattle.model_expansion.specs.Forms.{is, elements}
use Rattle.model_events.specs.Declarations.{declared_items, with_items, items_and_body}
use Rattle.acl_base.specs.declared.Word.{Word}
use Rattle.acl_heap.specs.Objects.{Objects, object_of, reach}
use Rattle.acl_terms.specs.Forms.{most}
use Rattle.acl_layers.specs.Lists.{items_along}
use Rattle.acl_layers.proofs.ListLemmas.{elements_are}
use Rattle.acl_layers.proofs.BindingLemmas.{most_append}
use Rattle.acl_declare.specs.Said.{words_at, words_reach}
use Rattle.acl_declare.specs.Bodies.{with_found, after_items}

pub word_pushed : (h : Objects) (ws : List Word) (w : Word) → words_at h (ws ++ w ∷ []) ≡ words_at h ws ++ object_of h w ∷ []
word_pushed h ws w = map-append (object_of h) ws (w ∷ [])

pub reach_pushed : (ws : List Word) (w : Word) → words_reach (ws ++ w ∷ []) ≡ max (words_reach ws) (reach w)
reach_pushed ws w = ap most (map-append reach ws (w ∷ [])) ∙ most_append (map reach ws) (reach w)

pub along_more : (done : List (Object ℕ)) (o a d : Object ℕ) → o ≡ Pair a d → done ++ items_along o ≡ (done ++ a ∷ []) ++ items_along d
along_more done o a d e = rw e (sym (append_assoc done (a ∷ []) (items_along d)))

pub along_end : (done os : List (Object ℕ)) → os ≡ [] → done ++ os ≡ done
along_end done os e = rw e (append-nil done)

-- ---- one declaration

module _ (done : List (Object ℕ)) where
  pub no_declaration : (k d : Object ℕ) → is declare_word k ≡ false → with_found done (declared_items (Pair k d)) ≡ None
  no_declaration k d e = rw e refl

  pub no_true_list : (k d : Object ℕ) → is declare_word k ≡ true → is_true_list by_number d ≡ false → with_found done (declared_items (Pair k d)) ≡ None
  no_true_list k d e f = rw e (ap (with_found done) (elements_are d) ∙ rw f refl)

  pub declaration : (k d : Object ℕ) (os : List (Object ℕ)) → is declare_word k ≡ true → is_true_list by_number d ≡ true → os ≡ done ++ items_along d → with_found done (declared_items (Pair k d)) ≡ Some os
  declaration k d os e f g = rw e (ap (with_found done) (elements_are d) ∙ rw f (ap (λ xs. Some xs) (sym g)))

  pub of_pair : (o k d : Object ℕ) (r : Option (List (Object ℕ))) → o ≡ Pair k d → with_found done (declared_items (Pair k d)) ≡ r → with_found done (declared_items o) ≡ r
  of_pair o k d r e f = ap (λ x. with_found done (declared_items x)) e ∙ f

  pub of_text : (o : Object ℕ) (bytes : List ℕ) → o ≡ Text bytes → with_found done (declared_items o) ≡ Some done
  of_text o bytes e = rw e (ap (λ xs. Some xs) (append-nil done))

  pub of_symbol : (o : Object ℕ) (s : ℕ) → o ≡ Symbol s → with_found done (declared_items o) ≡ None
  of_symbol o s e = rw e refl

  pub of_integer : (o : Object ℕ) (n : ℤ) → o ≡ Integer n → with_found done (declared_items o) ≡ None
  of_integer o n e = rw e refl

  -- ---- all of them

  pub body_last : (o a d : Object ℕ) → o ≡ Pair a d → is_pair d ≡ false → after_items done (items_and_body (items_along o)) ≡ Some (done, a)
  body_last o a (Integer n) e f = rw e (ap (λ xs. Some (xs, a)) (append-nil done))
  body_last o a (Symbol s) e f = rw e (ap (λ xs. Some (xs, a)) (append-nil done))
  body_last o a (Text bytes) e f = rw e (ap (λ xs. Some (xs, a)) (append-nil done))
  body_last o a (Pair b d) e f = cc

  with_more : (more : List (Object ℕ)) (i : Option (List (Object ℕ))) (p : Option (List (Object ℕ) × Object ℕ)) → with_found done i ≡ Some more → after_items done (with_items i p) ≡ after_items more p
  with_more more None p e = cc
  with_more more (Some os) None e = refl
  with_more more (Some os) (Some p) e = let f : done ++ os ≡ more = cc in ap (λ xs. Some (xs, p.1)) (sym (append_assoc done os p.0) ∙ ap (λ xs. xs ++ p.0) f)

  with_none : (i : Option (List (Object ℕ))) (p : Option (List (Object ℕ) × Object ℕ)) → with_found done i ≡ None → after_items done (with_items i p) ≡ None
  with_none None p e = refl
  with_none (Some os) p e = cc

  opened : (a d : Object ℕ) → is_pair d ≡ true → items_and_body (a ∷ items_along d) ≡ with_items (declared_items a) (items_and_body (items_along d))
  opened a (Integer n) f = cc
  opened a (Symbol s) f = cc
  opened a (Text bytes) f = cc
  opened a (Pair b d) f = refl

  pub body_more : (more : List (Object ℕ)) (r : Bool) (o a d : Object ℕ) → o ≡ Pair a d → is_pair d ≡ true → with_found done (declared_items a) ≡ (if r then Some more else None) → r ≡ true
      → after_items done (items_and_body (items_along o)) ≡ after_items more (items_and_body (items_along d))
  body_more more r o a d e f i k =
      let is : with_found done (declared_items a) ≡ Some more = rw k at i in
      rw e (ap (after_items done) (opened a d f) ∙ with_more more (declared_items a) (items_and_body (items_along d)) is)

  pub body_wrong : (more : List (Object ℕ)) (r : Bool) (o a d : Object ℕ) → o ≡ Pair a d → is_pair d ≡ true → with_found done (declared_items a) ≡ (if r then Some more else None) → r ≡ false
      → after_items done (items_and_body (items_along o)) ≡ None
  body_wrong more r o a d e f i k =
      let is : with_found done (declared_items a) ≡ None = rw k at i in
      rw e (ap (after_items done) (opened a d f) ∙ with_none (declared_items a) (items_and_body (items_along d)) is)

  pub body_none : (os : List (Object ℕ)) → os ≡ [] → after_items done (items_and_body os) ≡ None
  body_none os e = rw e refl

pub start : (o : Option (List (Object ℕ) × Object ℕ)) → after_items [] o ≡ o
start None = refl
start (Some p) = refl
