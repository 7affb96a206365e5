-- A name with a form, behind which a string may stand.
use Rattle.std.specs.Prelude.{◌≡◌, ℕ, ℤ, List, [], ◌∷◌, Bool, true, false, not, Option, Some, None, option_and_then, refl}
use Rattle.std.proofs.Common.{sym, ap, ◌∙◌, subst}
use Rattle.model_objects.specs.Object.{Object, Integer, Symbol, Text, Pair}
use Rattle.model_prims.specs.Kinds.{by_number, is_pair}
use Rattle.model_prims.specs.Lists.{is_true_list}
use Rattle.model_expansion.specs.Forms.{elements}
use Rattle.model_events.specs.Constants.{ends_well, name_and_form}
use Rattle.acl_base.specs.declared.Word.{Word}
use Rattle.acl_heap.specs.Objects.{Objects}
use Rattle.acl_layers.specs.Lists.{items_along}
use Rattle.acl_layers.proofs.ListLemmas.{elements_are}
use Rattle.acl_packages.specs.Named.{SeenNamed}

-- ---- what is left

pub text_last : (o d : Object ℕ) (bytes : List ℕ) → o ≡ Text bytes → not (is_pair d) ≡ ends_well (o ∷ items_along d)
text_last o (Integer n) bytes e = rw e refl
text_last o (Symbol s) bytes e = rw e refl
text_last o (Text cs) bytes e = rw e refl
text_last o (Pair a d) bytes e = rw e refl

pub symbol_first : (o : Object ℕ) (os : List (Object ℕ)) (s : ℕ) → o ≡ Symbol s → false ≡ ends_well (o ∷ os)
symbol_first o os s e = rw e refl

pub integer_first : (o : Object ℕ) (os : List (Object ℕ)) (n : ℤ) → o ≡ Integer n → false ≡ ends_well (o ∷ os)
integer_first o os n e = rw e refl

pub pair_first : (o a d : Object ℕ) (os : List (Object ℕ)) → o ≡ Pair a d → false ≡ ends_well (o ∷ os)
pair_first o a d os e = rw e refl

pub left_more : (o a d : Object ℕ) (b : Bool) → o ≡ Pair a d → b ≡ ends_well (a ∷ items_along d) → b ≡ ends_well (items_along o)
left_more o a d b e f = f ∙ ap (λ x. ends_well (items_along x)) (sym e)

pub left_end : (os : List (Object ℕ)) → os ≡ [] → true ≡ ends_well os
left_end os e = rw e refl

-- ---- a form

pub form_more : (name o form d : Object ℕ) → o ≡ Pair form d → ends_well (items_along d) ≡ true → name_and_form (name ∷ items_along o) ≡ Some (name, form)
form_more name o form d e f = rw (e, f) refl

pub form_wrong : (name o form d : Object ℕ) → o ≡ Pair form d → ends_well (items_along d) ≡ false → name_and_form (name ∷ items_along o) ≡ None
form_wrong name o form d e f = rw (e, f) refl

pub form_end : (name : Object ℕ) (os : List (Object ℕ)) → os ≡ [] → name_and_form (name ∷ os) ≡ None
form_end name os e = rw e refl

-- ---- all of it

pub named_bad : (o : Object ℕ) → is_true_list by_number o ≡ false → option_and_then name_and_form (elements o) ≡ None
named_bad o e = ap (option_and_then name_and_form) (elements_are o) ∙ rw e refl

whole : (o : Object ℕ) → is_true_list by_number o ≡ true → option_and_then name_and_form (elements o) ≡ name_and_form (items_along o)
whole o e = ap (option_and_then name_and_form) (elements_are o) ∙ rw e refl

pub named_more : (h : Objects) (r : Option (Word × Word)) (o name d : Object ℕ) → is_true_list by_number o ≡ true → o ≡ Pair name d
    → SeenNamed h r (name_and_form (name ∷ items_along d)) → SeenNamed h r (option_and_then name_and_form (elements o))
named_more h r o name d e f s = subst (SeenNamed h r) (sym (whole o e ∙ ap (λ x. name_and_form (items_along x)) f)) s

pub named_end : (o : Object ℕ) → is_true_list by_number o ≡ true → items_along o ≡ [] → option_and_then name_and_form (elements o) ≡ None
named_end o e f = whole o e ∙ ap name_and_form f
