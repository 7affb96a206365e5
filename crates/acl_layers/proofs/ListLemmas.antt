-- True lists and what stands along them.
use Rattle.std.specs.Prelude.{◌≡◌, ℕ, List, [], ◌∷◌, ◌++◌, true, false, Bool, Some, None, option_map, if◌then◌else◌, refl}
use Rattle.std.proofs.Common.{sym, ap, ◌∙◌}
use Rattle.std.proofs.lemmas.List.{append-nil}
use Rattle.model_objects.specs.Object.{Object, Integer, Symbol, Text, Pair}
use Rattle.model_prims.specs.Kinds.{by_number}
use Rattle.model_prims.specs.Lists.{is_true_list}
use Rattle.model_expansion.specs.Forms.{elements}
use Rattle.acl_layers.specs.Lists.{items_along}

pub elements_are : (o : Object ℕ) → elements o ≡ (if is_true_list by_number o then Some (items_along o) else None)
elements_are (Integer n) = refl
elements_are (Symbol s) = refl
elements_are (Text bytes) = refl
elements_are (Pair a d) = ap (λ os. option_map (λ os. a ∷ os) os) (elements_are d) ∙ pushed (is_true_list by_number d)
  where
    pushed : (b : Bool) → option_map (λ (os : List (Object ℕ)). a ∷ os) (if b then Some (items_along d) else None) ≡ (if b then Some (a ∷ items_along d) else None)
    pushed true = refl
    pushed false = refl

pub true_list : (o : Object ℕ) → is_true_list by_number o ≡ true → elements o ≡ Some (items_along o ++ [])
true_list o e = elements_are o ∙ (rw e (ap (λ os. Some os) (sym (append-nil (items_along o)))))

pub no_list : (o : Object ℕ) → is_true_list by_number o ≡ false → elements o ≡ None
no_list o e = elements_are o ∙ rw e refl

pub items_are : (o : Object ℕ) (os : List (Object ℕ)) → elements o ≡ Some os → items_along o ≡ os
items_are o os e = go (is_true_list by_number o) refl
  where
    go : (b : Bool) → is_true_list by_number o ≡ b → items_along o ≡ os
    go true t = let f : Some (items_along o) ≡ Some os = sym (elements_are o ∙ rw t refl) ∙ e in cc
    go false t = let f : None ≡ Some os = sym (elements_are o ∙ rw t refl) ∙ e in cc
