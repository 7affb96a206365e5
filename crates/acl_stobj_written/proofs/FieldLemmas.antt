-- Fields as they are written.
use Rattle.std.specs.Prelude.{◌≡◌, ℕ, suc, ◌≤◌, List, [], ◌∷◌, ◌++◌, length, map, max, drop, Bool, true, false, Option, Some, None, is_some, option_map, option_and_then, unwrap_or, codes, if◌then◌else◌, refl}
use Rattle.std.proofs.Common.{sym, ap, ◌∙◌, append_assoc}
use Rattle.std.proofs.lemmas.List.{append-nil, map-append}
use Rattle.model_objects.specs.Object.{Object, Integer, Symbol, Text, Pair}
use Rattle.model_symbols.specs.Symbols.{QualifiedName}
use Rattle.model_prims.specs.Kinds.{by_number}
use Rattle.model_prims.specs.Lists.{is_true_list}
use Rattle.model_expansion.specs.Forms.{each, is_keyword_object, elements, symbol}
use Rattle.model_stobjs.specs.Keys.{Keyed, keys_in, key_value}
use Rattle.model_stobjs.specs.Descriptors as written
use Rattle.model_stobjs.specs.Descriptors.{flag_or_false, field_keys, written_field_of, written_field_in, written_field, before_first, from_first}
use Rattle.acl_base.specs.declared.SymId.{SymId}
use Rattle.acl_base.specs.declared.Word.{Word}
use Rattle.acl_heap.specs.Objects.{Objects, object_of, reach}
use Rattle.acl_terms.specs.Forms.{most}
use Rattle.acl_layers.specs.Lists.{items_along}
use Rattle.acl_layers.proofs.ListLemmas.{elements_are}
use Rattle.acl_layers.proofs.BindingLemmas.{most_append}
use Rattle.acl_layers.proofs.EachLemmas.{after}
use Rattle.acl_stobj_read.specs.declared.written.WrittenField.{WrittenField}
use Rattle.acl_stobj_read.specs.Keys.{value_along}
use Rattle.acl_stobj_read.specs.Written.{seen_written, written_reach, seen_fields, fields_reach}
use Rattle.acl_stobj_read.proofs.KeyLemmas.{value_is}
use Rattle.acl_stobj_read.proofs.ShapeLemmas.{none_given}

-- a field of a name, by the values of its keys
abbrev pub field_of : ℕ → Option (Object ℕ) → Option (Object ℕ) → Option (Object ℕ) → Option written.WrittenField
field_of s t i r = option_map (λ resizable. record { name = s; type = unwrap_or t (Symbol 0); initial = i; resizable = resizable }) (flag_or_false r)

pub keys_given : {A : Type 0} (y : Option A) → is_some y ≡ true → (x : A) × (y ≡ Some x)
keys_given None e = cc
keys_given (Some x) e = (x, refl)

module _ (sy : List QualifiedName) where
  pub no_keys : (s : ℕ) (os : List (Object ℕ)) → is_some (keys_in sy field_keys os) ≡ false → option_and_then (written_field_of s) (keys_in sy field_keys os) ≡ None
  no_keys s os e = rw (none_given (keys_in sy field_keys os) e) refl

  with_values : (s : ℕ) (os : List (Object ℕ)) → is_some (keys_in sy field_keys os) ≡ true
      → option_and_then (written_field_of s) (keys_in sy field_keys os) ≡ field_of s (value_along sy (codes "TYPE") os) (value_along sy (codes "INITIALLY") os) (value_along sy (codes "RESIZABLE") os)
  with_values s os e =
      let k = keys_given (keys_in sy field_keys os) e in
      rw (k.1, value_is sy field_keys (codes "TYPE") os k.0 k.1, value_is sy field_keys (codes "INITIALLY") os k.0 k.1, value_is sy field_keys (codes "RESIZABLE") os k.0 k.1) refl

  pub no_flag : (s : ℕ) (os : List (Object ℕ)) (r : Option (Object ℕ)) → is_some (keys_in sy field_keys os) ≡ true → value_along sy (codes "RESIZABLE") os ≡ r → flag_or_false r ≡ None
      → option_and_then (written_field_of s) (keys_in sy field_keys os) ≡ None
  no_flag s os r e f g = with_values s os e ∙ rw (f, g) refl

  pub field_is : (s : ℕ) (os : List (Object ℕ)) (t : Object ℕ) (ts i r : Option (Object ℕ)) (b : Bool) → is_some (keys_in sy field_keys os) ≡ true
      → value_along sy (codes "TYPE") os ≡ ts → t ≡ unwrap_or ts (Symbol 0) → value_along sy (codes "INITIALLY") os ≡ i
      → value_along sy (codes "RESIZABLE") os ≡ r → flag_or_false r ≡ Some b
      → option_and_then (written_field_of s) (keys_in sy field_keys os) ≡ Some (record { name = s; type = t; initial = i; resizable = b })
  field_is s os t ts i r b e f u g k l = with_values s os e ∙ rw (f, u, g, k, l) refl

  -- ---- a symbol, or a list

  listed_is : (o a d : Object ℕ) → o ≡ Pair a d → is_true_list by_number d ≡ true → written_field sy o ≡ written_field_in sy (a ∷ items_along d)
  listed_is o a d e t = rw (e, elements_are d, t) refl

  named : (a : Object ℕ) (s : ℕ) (os : List (Object ℕ)) → symbol a ≡ Some s → written_field_in sy (a ∷ os) ≡ option_and_then (written_field_of s) (keys_in sy field_keys os)
  named (Integer n) s os e = cc
  named (Symbol t) s os e = let q : t ≡ s = cc in rw q refl
  named (Text bytes) s os e = cc
  named (Pair a d) s os e = cc

  pub listed : (o a d : Object ℕ) (s : ℕ) (r : Option written.WrittenField) → o ≡ Pair a d → is_true_list by_number d ≡ true → symbol a ≡ Some s
      → option_and_then (written_field_of s) (keys_in sy field_keys (items_along d)) ≡ r → written_field sy o ≡ r
  listed o a d s r e t f g = listed_is o a d e t ∙ (named a s (items_along d) f ∙ g)

  pub plain : (o : Object ℕ) (s : ℕ) → o ≡ Symbol s → written_field sy o ≡ Some (record { name = s; type = Symbol 0; initial = None; resizable = false })
  plain o s e = rw e refl

  no_name : (a : Object ℕ) (os : List (Object ℕ)) → symbol a ≡ None → written_field_in sy (a ∷ os) ≡ None
  no_name (Integer n) os e = refl
  no_name (Symbol s) os e = cc
  no_name (Text bytes) os e = refl
  no_name (Pair a d) os e = refl

  pub listed_other : (o a d : Object ℕ) → o ≡ Pair a d → is_true_list by_number d ≡ true → symbol a ≡ None → written_field sy o ≡ None
  listed_other o a d e t f = listed_is o a d e t ∙ no_name a (items_along d) f

  pub not_listed : (o a d : Object ℕ) → o ≡ Pair a d → is_true_list by_number d ≡ false → written_field sy o ≡ None
  not_listed o a d e t = rw (e, elements_are d, t) refl

  -- ---- all fields

  abbrev fields_in : Object ℕ → Option (List written.WrittenField)
  fields_in o = each (written_field sy) (before_first (is_keyword_object sy) (items_along o))

  pushed : (done : List written.WrittenField) (y : written.WrittenField) (more : Option (List written.WrittenField)) → after done (option_map (λ ys. y ∷ ys) more) ≡ after (done ++ y ∷ []) more
  pushed done y None = refl
  pushed done y (Some ys) = ap (λ xs. Some xs) (sym (append_assoc done (y ∷ []) ys))

  pub fields_more : (done : List written.WrittenField) (o a d : Object ℕ) (y : written.WrittenField) → o ≡ Pair a d → is_keyword_object sy a ≡ false → written_field sy a ≡ Some y
      → after done (fields_in o) ≡ after (done ++ y ∷ []) (fields_in d)
  fields_more done o a d y e k f = rw (e, k, f) (pushed done y (fields_in d))

  pub fields_bad : (done : List written.WrittenField) (o a d : Object ℕ) → o ≡ Pair a d → is_keyword_object sy a ≡ false → written_field sy a ≡ None
      → after done (fields_in o) ≡ None
  fields_bad done o a d e k f = rw (e, k, f) refl

  pub fields_key : (done : List written.WrittenField) (o a d : Object ℕ) → o ≡ Pair a d → is_keyword_object sy a ≡ true → after done (fields_in o) ≡ Some done
  fields_key done o a d e k = rw (e, k) (ap (λ xs. Some xs) (append-nil done))

  pub fields_end : (done : List written.WrittenField) (o : Object ℕ) → items_along o ≡ [] → after done (fields_in o) ≡ Some done
  fields_end done o e = rw e (ap (λ xs. Some xs) (append-nil done))

  abbrev behind : Object ℕ → List (Object ℕ)
  behind o = from_first (is_keyword_object sy) (items_along o)

  pub behind_more : (o a d : Object ℕ) → o ≡ Pair a d → is_keyword_object sy a ≡ false → behind o ≡ behind d
  behind_more o a d e k = rw (e, k) refl

  pub behind_key : (o a d : Object ℕ) → o ≡ Pair a d → is_keyword_object sy a ≡ true → behind o ≡ items_along o
  behind_key o a d e k = rw (e, k) refl

  pub behind_end : (o : Object ℕ) → items_along o ≡ [] → behind o ≡ items_along o
  behind_end o e = rw e refl

pub start : (o : Option (List written.WrittenField)) → after [] o ≡ o
start None = refl
start (Some xs) = refl

pub field_pushed : (h : Objects) (fs : List WrittenField) (f : WrittenField) → seen_fields h (fs ++ f ∷ []) ≡ seen_fields h fs ++ seen_written h f ∷ []
field_pushed h fs f = map-append (seen_written h) fs (f ∷ [])

pub reach_pushed : (fs : List WrittenField) (f : WrittenField) → fields_reach (fs ++ f ∷ []) ≡ max (fields_reach fs) (written_reach f)
reach_pushed fs f = ap most (map-append written_reach fs (f ∷ [])) ∙ most_append (map written_reach fs) (written_reach f)
