-- Formals that may be left out, as they are written.
use Rattle.std.specs.Prelude.{◌≡◌, ℕ, ℤ, List, [], ◌∷◌, Bool, true, false, Option, Some, None, option_map, option_and_then, refl, if◌then◌else◌}
use Rattle.std.proofs.Common.{sym, ap, ◌∙◌, subst}
use Rattle.model_objects.specs.Object.{Object, Integer, Symbol, Text, Pair}
use Rattle.model_symbols.specs.Opening.{quote}
use Rattle.model_prims.specs.Kinds.{by_number, is_pair}
use Rattle.model_prims.specs.Lists.{is_true_list}
use Rattle.model_expansion.specs.Forms.{is, elements}
use Rattle.model_events.specs.Macros as written
use Rattle.model_events.specs.Macros.{quoted_in, optional_of, optional_in, written_optional}
use Rattle.acl_base.specs.declared.Word.{Word}
use Rattle.acl_heap.specs.Objects.{Objects}
use Rattle.acl_layers.specs.Lists.{items_along, SeenWord}
use Rattle.acl_layers.proofs.ListLemmas.{elements_are}
use Rattle.acl_macros.specs.declared.written.WrittenOptional.{WrittenOptional}
use Rattle.acl_macros.specs.Written.{SeenOptional}

pub no_more : (d : Object ℕ) → is_pair d ≡ false → items_along d ≡ []
no_more (Integer n) e = refl
no_more (Symbol s) e = refl
no_more (Text bytes) e = refl
no_more (Pair a d) e = cc

-- ---- what is quoted

pub quoted_many : (q o x d : Object ℕ) → o ≡ Pair x d → is_pair d ≡ true → quoted_in (Some (q ∷ items_along o)) ≡ None
quoted_many q o x (Integer n) e f = cc
quoted_many q o x (Symbol s) e f = cc
quoted_many q o x (Text bytes) e f = cc
quoted_many q o x (Pair a d) e f = rw e refl

lone : (q o x d : Object ℕ) → o ≡ Pair x d → is_pair d ≡ false → quoted_in (Some (q ∷ items_along o)) ≡ (if is quote q then Some x else None)
lone q o x (Integer n) e f = rw e refl
lone q o x (Symbol s) e f = rw e refl
lone q o x (Text bytes) e f = rw e refl
lone q o x (Pair a d) e f = cc

pub quoted_other : (q o x d : Object ℕ) → o ≡ Pair x d → is_pair d ≡ false → is quote q ≡ false → quoted_in (Some (q ∷ items_along o)) ≡ None
quoted_other q o x d e f g = lone q o x d e f ∙ rw g refl

pub quoted_one : (q o x d : Object ℕ) → o ≡ Pair x d → is_pair d ≡ false → is quote q ≡ true → quoted_in (Some (q ∷ items_along o)) ≡ Some x
quoted_one q o x d e f g = lone q o x d e f ∙ rw g refl

pub quoted_none : (q : Object ℕ) (os : List (Object ℕ)) → os ≡ [] → quoted_in (Some (q ∷ os)) ≡ None
quoted_none q os e = rw e refl

pub quoted_bad : (d : Object ℕ) → is_true_list by_number d ≡ false → quoted_in (elements d) ≡ None
quoted_bad d e = ap quoted_in (elements_are d) ∙ rw e refl

whole : (d : Object ℕ) → is_true_list by_number d ≡ true → quoted_in (elements d) ≡ quoted_in (Some (items_along d))
whole d e = ap quoted_in (elements_are d) ∙ rw e refl

pub quoted_more : (h : Objects) (r : Option Word) (d q rest : Object ℕ) → is_true_list by_number d ≡ true → d ≡ Pair q rest → SeenWord h r (quoted_in (Some (q ∷ items_along rest))) → SeenWord h r (quoted_in (elements d))
quoted_more h r d q rest e f s = subst (SeenWord h r) (sym (whole d e ∙ ap (λ x. quoted_in (Some (items_along x))) f)) s

pub quoted_end : (d : Object ℕ) → is_true_list by_number d ≡ true → items_along d ≡ [] → quoted_in (elements d) ≡ None
quoted_end d e f = whole d e ∙ ap (λ os. quoted_in (Some os)) f

-- ---- a formal with its default

pub no_default : (v d : Object ℕ) (s : Option (Object ℕ)) → quoted_in (elements d) ≡ None → optional_of v s d ≡ None
no_default v d s e = ap (option_map (λ o. record { name = v; default = o; supplied = s })) e

pub a_default : (v d o : Object ℕ) (s : Option (Object ℕ)) → quoted_in (elements d) ≡ Some o → optional_of v s d ≡ Some (record { name = v; default = o; supplied = s })
a_default v d o s e = ap (option_map (λ o. record { name = v; default = o; supplied = s })) e

module _ (v d : Object ℕ) where
  pub many_parts : (o s e : Object ℕ) → o ≡ Pair s e → is_pair e ≡ true → optional_in (v ∷ (d ∷ items_along o)) ≡ None
  many_parts o s (Integer n) e f = cc
  many_parts o s (Symbol t) e f = cc
  many_parts o s (Text bytes) e f = cc
  many_parts o s (Pair a b) e f = rw e refl

  three : (o s e : Object ℕ) → o ≡ Pair s e → is_pair e ≡ false → optional_in (v ∷ (d ∷ items_along o)) ≡ optional_of v (Some s) d
  three o s (Integer n) e f = rw e refl
  three o s (Symbol t) e f = rw e refl
  three o s (Text bytes) e f = rw e refl
  three o s (Pair a b) e f = cc

  pub with_supplied : (h : Objects) (r : Option WrittenOptional) (o s e : Object ℕ) → o ≡ Pair s e → is_pair e ≡ false → SeenOptional h r (optional_of v (Some s) d) → SeenOptional h r (optional_in (v ∷ (d ∷ items_along o)))
  with_supplied h r o s e f g i = subst (SeenOptional h r) (sym (three o s e f g)) i

  pub with_default : (h : Objects) (r : Option WrittenOptional) (os : List (Object ℕ)) → os ≡ [] → SeenOptional h r (optional_of v None d) → SeenOptional h r (optional_in (v ∷ (d ∷ os)))
  with_default h r os e i = subst (λ xs. SeenOptional h r (optional_in (v ∷ (d ∷ xs)))) (sym e) i

pub default_more : (h : Objects) (r : Option WrittenOptional) (v o d more : Object ℕ) → o ≡ Pair d more → SeenOptional h r (optional_in (v ∷ (d ∷ items_along more))) → SeenOptional h r (optional_in (v ∷ items_along o))
default_more h r v o d more e i = subst (λ x. SeenOptional h r (optional_in (v ∷ items_along x))) (sym e) i

pub default_end : (v : Object ℕ) (os : List (Object ℕ)) → os ≡ [] → optional_in (v ∷ os) ≡ None
default_end v os e = rw e refl

-- ---- a formal

listed : (o v rest : Object ℕ) → o ≡ Pair v rest → written_optional o ≡ option_and_then optional_in (elements o)
listed o v rest e = rw e refl

pub listed_bad : (o v rest : Object ℕ) → o ≡ Pair v rest → is_true_list by_number o ≡ false → written_optional o ≡ None
listed_bad o v rest e f = listed o v rest e ∙ (ap (option_and_then optional_in) (elements_are o) ∙ rw f refl)

all_of : (o : Object ℕ) → is_true_list by_number o ≡ true → option_and_then optional_in (elements o) ≡ optional_in (items_along o)
all_of o f = ap (option_and_then optional_in) (elements_are o) ∙ rw f refl

pub listed_more : (h : Objects) (r : Option WrittenOptional) (o v rest : Object ℕ) → o ≡ Pair v rest → is_true_list by_number o ≡ true → SeenOptional h r (optional_in (v ∷ items_along rest)) → SeenOptional h r (written_optional o)
listed_more h r o v rest e f s = subst (SeenOptional h r) (sym (listed o v rest e ∙ (all_of o f ∙ ap (λ x. optional_in (items_along x)) e))) s

pub symbol_alone : (o : Object ℕ) (f : written.WrittenOptional) (s : ℕ) → o ≡ Symbol s → f ≡ record { name = o; default = Symbol 1; supplied = None } → written_optional o ≡ Some f
symbol_alone o f s e g = rw g (rw e refl)

pub integer_alone : (o : Object ℕ) (f : written.WrittenOptional) (n : ℤ) → o ≡ Integer n → f ≡ record { name = o; default = Symbol 1; supplied = None } → written_optional o ≡ Some f
integer_alone o f n e g = rw g (rw e refl)

pub text_alone : (o : Object ℕ) (f : written.WrittenOptional) (bytes : List ℕ) → o ≡ Text bytes → f ≡ record { name = o; default = Symbol 1; supplied = None } → written_optional o ≡ Some f
text_alone o f bytes e g = rw g (rw e refl)
