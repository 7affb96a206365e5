-- Formals of a macro, mark by mark.
use Rattle.std.specs.Prelude.{◌≡◌, ℕ, List, [], ◌∷◌, Bool, true, false, Option, Some, None, unwrap_or, option_and_then, refl}
use Rattle.std.proofs.Common.{sym, ap, ◌∙◌, subst}
use Rattle.model_objects.specs.Object.{Object, Integer, Symbol, Text, Pair}
use Rattle.model_prims.specs.Kinds.{is_pair}
use Rattle.model_expansion.specs.Words.{optional_word, key_word}
use Rattle.model_stobjs.specs.Descriptors.{before_first, from_first}
use Rattle.model_events.specs.Macros as written
use Rattle.model_events.specs.Macros.{is_mark, marked_section, rest_section, all_taken, written_formals}
use Rattle.acl_heap.specs.Objects.{Objects}
use Rattle.acl_layers.specs.Lists.{items_along}
use Rattle.acl_macros.specs.declared.written.WrittenFormals.{WrittenFormals}
use Rattle.acl_macros.specs.Written.{SeenFormals}
use Rattle.acl_macros.specs.Sections.{parts, after_rest, after_optional}

abbrev Optionals : Type 0
Optionals = List written.WrittenOptional

module _ (required : List (Object ℕ)) (optional : Option Optionals) (rest : Option (Object ℕ)) where
  abbrev taken : Option (Option Optionals × List (Object ℕ)) → Option written.WrittenFormals
  taken o = option_and_then (λ (ks : Option Optionals × List (Object ℕ)). all_taken (parts required optional rest ks.0) ks.1) o

  pub no_keys : (os : List (Object ℕ)) → marked_section key_word os ≡ None → after_rest required optional rest os ≡ None
  no_keys os e = ap taken e

  left_more : (f : written.WrittenFormals) (d : Object ℕ) → is_pair d ≡ true → all_taken f (items_along d) ≡ None
  left_more f (Integer n) e = cc
  left_more f (Symbol s) e = cc
  left_more f (Text bytes) e = cc
  left_more f (Pair a d) e = refl

  left_end : (f : written.WrittenFormals) (d : Object ℕ) → is_pair d ≡ false → all_taken f (items_along d) ≡ Some f
  left_end f (Integer n) e = refl
  left_end f (Symbol s) e = refl
  left_end f (Text bytes) e = refl
  left_end f (Pair a d) e = cc

  pub too_many : (os : List (Object ℕ)) (keys : Option Optionals) (d : Object ℕ) → marked_section key_word os ≡ Some (keys, items_along d) → is_pair d ≡ true → after_rest required optional rest os ≡ None
  too_many os keys d e f = ap taken e ∙ left_more (parts required optional rest keys) d f

  pub all_formals : (os : List (Object ℕ)) (keys : Option Optionals) (d : Object ℕ) (fs : Optionals) → marked_section key_word os ≡ Some (keys, items_along d) → is_pair d ≡ false → fs ≡ unwrap_or optional []
      → after_rest required optional rest os ≡ Some (record { required = required; optional = fs; rest = rest; keys = keys })
  all_formals os keys d fs e f g =
      ap taken e ∙ (left_end (parts required optional rest keys) d f ∙ ap (λ (xs : Optionals). Some (record { required = required; optional = xs; rest = rest; keys = keys })) (sym g))

module _ (required : List (Object ℕ)) (optional : Option Optionals) where
  abbrev rested : Option (Option (Object ℕ) × List (Object ℕ)) → Option written.WrittenFormals
  rested o = option_and_then (λ (r : Option (Object ℕ) × List (Object ℕ)). after_rest required optional r.0 r.1) o

  pub no_rest : (os : List (Object ℕ)) → rest_section os ≡ None → after_optional required optional os ≡ None
  no_rest os e = ap rested e

  pub with_rest : (h : Objects) (r : Option WrittenFormals) (os left : List (Object ℕ)) (rest : Option (Object ℕ)) → rest_section os ≡ Some (rest, left) → SeenFormals h r (after_rest required optional rest left)
      → SeenFormals h r (after_optional required optional os)
  with_rest h r os left rest e s = subst (SeenFormals h r) (sym (ap rested e)) s

module _ (os : List (Object ℕ)) where
  abbrev passed : List (Object ℕ) → Option (Option Optionals × List (Object ℕ)) → Option written.WrittenFormals
  passed required o = option_and_then (λ (opt : Option Optionals × List (Object ℕ)). after_optional required opt.0 opt.1) o

  opened : (required at : List (Object ℕ)) → before_first is_mark os ≡ required → from_first is_mark os ≡ at → written_formals os ≡ passed required (marked_section optional_word at)
  opened required at e f = ap (λ xs. passed xs (marked_section optional_word (from_first is_mark os))) e ∙ ap (λ xs. passed required (marked_section optional_word xs)) f

  pub no_optional : (required at : List (Object ℕ)) → before_first is_mark os ≡ required → from_first is_mark os ≡ at → marked_section optional_word at ≡ None → written_formals os ≡ None
  no_optional required at e f g = opened required at e f ∙ ap (passed required) g

  pub with_optional : (h : Objects) (r : Option WrittenFormals) (required at left : List (Object ℕ)) (optional : Option Optionals) → before_first is_mark os ≡ required → from_first is_mark os ≡ at
      → marked_section optional_word at ≡ Some (optional, left) → SeenFormals h r (after_optional required optional left) → SeenFormals h r (written_formals os)
  with_optional h r required at left optional e f g s = subst (SeenFormals h r) (sym (opened required at e f ∙ ap (passed required) g)) s
