-- Stobjs as they are written.
use Rattle.std.specs.Prelude.{◌≡◌, ℕ, List, [], ◌∷◌, Bool, true, false, Option, Some, None, is_some, option_map, option_and_then, codes, if◌then◌else◌, refl}
use Rattle.std.proofs.Common.{sym, ap, ◌∙◌}
use Rattle.model_objects.specs.Object.{Object, Pair}
use Rattle.model_symbols.specs.Symbols.{QualifiedName}
use Rattle.model_prims.specs.Kinds.{by_number}
use Rattle.model_prims.specs.Lists.{is_true_list}
use Rattle.model_terms.specs.Worlds.{World}
use Rattle.model_expansion.specs.Forms.{each, is_keyword_object}
use Rattle.model_stobjs.specs.Keys.{keys_in}
use Rattle.model_stobjs.specs.Descriptors as written
use Rattle.model_stobjs.specs.Descriptors.{renaming_of, is_executable_flag, stobj_keys, old_stobj, written_with, written_stobj, written_field, before_first, from_first}
use Rattle.acl_layers.specs.Lists.{items_along}
use Rattle.acl_layers.proofs.ListLemmas.{elements_are}
use Rattle.acl_stobj_read.specs.Keys.{value_along}
use Rattle.acl_stobj_read.proofs.KeyLemmas.{value_is}
use Rattle.acl_stobj_read.proofs.ShapeLemmas.{none_given}
use Rattle.acl_stobj_written.proofs.FieldLemmas.{keys_given}

-- ---- keys

module _ (w : World) (sy : List QualifiedName) (name : Object ℕ) (fields : List written.WrittenField) where
  abbrev read : List (Object ℕ) → Option written.WrittenStobj
  read os = option_and_then (written_with w name fields) (keys_in sy stobj_keys os)

  pub no_keys : (os : List (Object ℕ)) → is_some (keys_in sy stobj_keys os) ≡ false → read os ≡ None
  no_keys os e = rw (none_given (keys_in sy stobj_keys os) e) refl

  -- a stobj, by the values of its keys
  abbrev stobj_of : Option (Object ℕ) → Option (Object ℕ) → Option (Object ℕ) → Option written.WrittenStobj
  stobj_of x r c =
      if is_executable_flag x
      then option_and_then (λ renaming. option_map (λ old. record { name = name; fields = fields; renaming = renaming; congruent_to = old }) (old_stobj w c)) (renaming_of r)
      else None

  with_values : (os : List (Object ℕ)) → is_some (keys_in sy stobj_keys os) ≡ true
      → read os ≡ stobj_of (value_along sy (codes "NON-EXECUTABLE") os) (value_along sy (codes "RENAMING") os) (value_along sy (codes "CONGRUENT-TO") os)
  with_values os e =
      let k = keys_given (keys_in sy stobj_keys os) e in
      rw (k.1, value_is sy stobj_keys (codes "NON-EXECUTABLE") os k.0 k.1, value_is sy stobj_keys (codes "RENAMING") os k.0 k.1, value_is sy stobj_keys (codes "CONGRUENT-TO") os k.0 k.1) refl

  pub not_executable : (os : List (Object ℕ)) (x : Option (Object ℕ)) → is_some (keys_in sy stobj_keys os) ≡ true → value_along sy (codes "NON-EXECUTABLE") os ≡ x → is_executable_flag x ≡ false
      → read os ≡ None
  not_executable os x e f g = with_values os e ∙ rw (f, g) refl

  pub no_renaming : (os : List (Object ℕ)) (x r : Option (Object ℕ)) → is_some (keys_in sy stobj_keys os) ≡ true → value_along sy (codes "NON-EXECUTABLE") os ≡ x → is_executable_flag x ≡ true
      → value_along sy (codes "RENAMING") os ≡ r → renaming_of r ≡ None → read os ≡ None
  no_renaming os x r e f g k l = with_values os e ∙ rw (f, g, k, l) refl

  pub no_old : (os : List (Object ℕ)) (x r c : Option (Object ℕ)) (ps : List (ℕ × ℕ)) → is_some (keys_in sy stobj_keys os) ≡ true → value_along sy (codes "NON-EXECUTABLE") os ≡ x → is_executable_flag x ≡ true
      → value_along sy (codes "RENAMING") os ≡ r → renaming_of r ≡ Some ps → value_along sy (codes "CONGRUENT-TO") os ≡ c → old_stobj w c ≡ None → read os ≡ None
  no_old os x r c ps e f g k l m n = with_values os e ∙ rw (f, g, k, l, m, n) refl

  pub stobj_is : (os : List (Object ℕ)) (x r c : Option (Object ℕ)) (ps : List (ℕ × ℕ)) (old : Option ℕ) → is_some (keys_in sy stobj_keys os) ≡ true → value_along sy (codes "NON-EXECUTABLE") os ≡ x → is_executable_flag x ≡ true
      → value_along sy (codes "RENAMING") os ≡ r → renaming_of r ≡ Some ps → value_along sy (codes "CONGRUENT-TO") os ≡ c → old_stobj w c ≡ Some old
      → read os ≡ Some (record { name = name; fields = fields; renaming = ps; congruent_to = old })
  stobj_is os x r c ps old e f g k l m n = with_values os e ∙ rw (f, g, k, l, m, n) refl

-- ---- the whole

module _ (w : World) (sy : List QualifiedName) where
  pub no_list : (o : Object ℕ) → is_true_list by_number o ≡ false → written_stobj w sy o ≡ None
  unfolding written_stobj
  no_list o e = rw (elements_are o, e) refl

  pub nothing_there : (o : Object ℕ) → is_true_list by_number o ≡ true → items_along o ≡ [] → written_stobj w sy o ≡ None
  unfolding written_stobj
  nothing_there o e f = rw (elements_are o, e, f) refl

  pub bad_fields : (o a d : Object ℕ) → is_true_list by_number o ≡ true → o ≡ Pair a d → each (written_field sy) (before_first (is_keyword_object sy) (items_along d)) ≡ None → written_stobj w sy o ≡ None
  unfolding written_stobj
  bad_fields o a d e f g = rw (elements_are o, e, f, g) refl

  pub whole : (o a d : Object ℕ) (fs : List written.WrittenField) (os : List (Object ℕ)) → is_true_list by_number o ≡ true → o ≡ Pair a d
      → each (written_field sy) (before_first (is_keyword_object sy) (items_along d)) ≡ Some fs → os ≡ from_first (is_keyword_object sy) (items_along d)
      → written_stobj w sy o ≡ option_and_then (written_with w a fs) (keys_in sy stobj_keys os)
  unfolding written_stobj
  whole o a d fs os e f g k = rw (elements_are o, e, f, g, k) refl
