-- Functions as they are written, by their shapes.
use Rattle.std.specs.Prelude.{◌≡◌, ◌≢◌, ℕ, ◌≤◌, List, [], ◌∷◌, ◌++◌, length, map, max, Bool, true, false, Option, Some, None, option_map, option_and_then, refl, if◌then◌else◌}
use Rattle.std.proofs.Common.{sym, ap, ◌∙◌}
use Rattle.std.proofs.lemmas.List.{map-append}
use Rattle.model_objects.specs.Object.{Object, Pair}
use Rattle.model_prims.specs.Kinds.{by_number}
use Rattle.model_prims.specs.Lists.{is_true_list}
use Rattle.model_expansion.specs.Forms.{elements, each_of}
use Rattle.model_events.specs.Declarations.{items_and_body}
use Rattle.model_events.specs.Functions as written
use Rattle.model_events.specs.Functions.{written_of, written_in, written_function, headed_function, at_least_one, written_clique, one_function}
use Rattle.acl_heap.specs.Objects.{Objects, object_of}
use Rattle.acl_terms.specs.Forms.{most}
use Rattle.acl_layers.specs.Lists.{items_along}
use Rattle.acl_layers.proofs.BindingLemmas.{most_append}
use Rattle.acl_layers.proofs.ListLemmas.{elements_are}
use Rattle.acl_drafts.specs.declared.written.WrittenFunction.{WrittenFunction}
use Rattle.acl_drafts.specs.Functions.{seen_function, seen_functions, function_reach, functions_reach}

module _ (b : Bool) where
  -- ---- a function whose name and formals are known

  abbrev from : Object ℕ → Option (List (Object ℕ)) → Option (List (Object ℕ) × Object ℕ) → Option written.WrittenFunction
  from name xs body = option_and_then (λ xs. option_map (written_of b name xs) body) xs

  pub no_formals : (name formals : Object ℕ) (os : List (Object ℕ)) → is_true_list by_number formals ≡ false → written_in b (name ∷ (formals ∷ os)) ≡ None
  no_formals name formals os e = ap (λ xs. from name xs (items_and_body os)) (elements_are formals) ∙ rw e refl

  listed : (name formals : Object ℕ) (os : List (Object ℕ)) → is_true_list by_number formals ≡ true → written_in b (name ∷ (formals ∷ os)) ≡ option_map (written_of b name (items_along formals)) (items_and_body os)
  listed name formals os e = ap (λ xs. from name xs (items_and_body os)) (elements_are formals) ∙ rw e refl

  pub no_body : (name formals : Object ℕ) (os : List (Object ℕ)) → is_true_list by_number formals ≡ true → items_and_body os ≡ None → written_in b (name ∷ (formals ∷ os)) ≡ None
  no_body name formals os e f = listed name formals os e ∙ rw f refl

  pub function_is : (name formals body : Object ℕ) (os items : List (Object ℕ)) → is_true_list by_number formals ≡ true → items_and_body os ≡ Some (items, body)
      → written_in b (name ∷ (formals ∷ os)) ≡ Some (record { name = name; formals = items_along formals; items = items; body = body; executable = b })
  function_is name formals body os items e f = listed name formals os e ∙ rw f refl

  pub named_more : (name o formals d : Object ℕ) (r : Option written.WrittenFunction) → o ≡ Pair formals d → written_in b (name ∷ (formals ∷ items_along d)) ≡ r → written_in b (name ∷ items_along o) ≡ r
  named_more name o formals d r e f = rw e f

  pub named_end : (name : Object ℕ) (os : List (Object ℕ)) → os ≡ [] → written_in b (name ∷ os) ≡ None
  named_end name os e = rw e refl

  -- ---- a function

  pub function_bad : (d : Object ℕ) → is_true_list by_number d ≡ false → written_function b d ≡ None
  function_bad d e = ap (option_and_then (written_in b)) (elements_are d) ∙ rw e refl

  whole : (d : Object ℕ) → is_true_list by_number d ≡ true → written_function b d ≡ written_in b (items_along d)
  whole d e = ap (option_and_then (written_in b)) (elements_are d) ∙ rw e refl

  pub function_more : (d name rest : Object ℕ) (r : Option written.WrittenFunction) → is_true_list by_number d ≡ true → d ≡ Pair name rest → written_in b (name ∷ items_along rest) ≡ r → written_function b d ≡ r
  function_more d name rest r e f g = whole d e ∙ rw f g

  pub function_end : (d : Object ℕ) → is_true_list by_number d ≡ true → items_along d ≡ [] → written_function b d ≡ None
  function_end d e f = whole d e ∙ rw f refl

  pub one_none : (d : Object ℕ) → written_function b d ≡ None → one_function b d ≡ None
  one_none d e = rw e refl

  pub one_is : (d : Object ℕ) (f : written.WrittenFunction) (fs : List written.WrittenFunction) → written_function b d ≡ Some f → fs ≡ f ∷ [] → one_function b d ≡ Some fs
  one_is d f fs e g = rw (e, g) refl

-- ---- cliques

pub function_pushed : (h : Objects) (fs : List WrittenFunction) (f : WrittenFunction) → seen_functions h (fs ++ f ∷ []) ≡ seen_functions h fs ++ seen_function h f ∷ []
function_pushed h fs f = map-append (seen_function h) fs (f ∷ [])

pub reach_pushed : (fs : List WrittenFunction) (f : WrittenFunction) → functions_reach (fs ++ f ∷ []) ≡ max (functions_reach fs) (function_reach f)
reach_pushed fs f = ap most (map-append function_reach fs (f ∷ [])) ∙ most_append (map function_reach fs) (function_reach f)

pub clique_none : (d : Object ℕ) → each_of headed_function d ≡ None → written_clique d ≡ None
clique_none d e = ap (option_and_then at_least_one) e

pub clique_empty : (h : Objects) (d : Object ℕ) (fs : List WrittenFunction) → each_of headed_function d ≡ Some (seen_functions h fs) → length fs ≡ 0 → written_clique d ≡ None
clique_empty h d [] e l = ap (option_and_then at_least_one) e
clique_empty h d (f ∷ fs) e l = cc

pub clique_is : (h : Objects) (d : Object ℕ) (fs : List WrittenFunction) → each_of headed_function d ≡ Some (seen_functions h fs) → length fs ≢ 0 → written_clique d ≡ Some (seen_functions h fs)
clique_is h d [] e l = elim (l refl) [ ]
clique_is h d (f ∷ fs) e l = ap (option_and_then at_least_one) e
