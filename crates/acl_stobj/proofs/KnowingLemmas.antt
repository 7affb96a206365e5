-- The names in a stobj as it is written are those of symbols of its form.
use Rattle.std.specs.Prelude.{◌≡◌, ℕ, zero, suc, ◌<◌, List, [], ◌∷◌, map, length, drop, Bool, true, false, Option, Some, None, option_map, option_and_then, unwrap_or, if◌then◌else◌, codes, nat_eq, refl}
use Rattle.std.proofs.Common.{sym, ap, ◌∙◌, subst}
use Rattle.model_objects.specs.Object.{Object, Integer, Symbol, Text, Pair}
use Rattle.model_objects.specs.Named.{Knows}
use Rattle.model_symbols.specs.Symbols.{QualifiedName}
use Rattle.model_terms.specs.Worlds as worlds
use Rattle.model_expansion.specs.Forms.{elements, each, symbol, is_keyword_object, is_key}
use Rattle.model_stobjs.specs.Keys.{Keyed, keys_in, key_value}
use Rattle.model_stobjs.specs.Descriptors as written
use Rattle.model_stobjs.specs.Descriptors.{flag_or_false, field_keys, stobj_keys, two_symbols, renaming_of, is_executable_flag, old_stobj, written_field_of, written_field_in, written_field, before_first, from_first, written_with, written_in, written_stobj, shape_of, shaped_fields}
use Rattle.acl_heap.specs.Objects.{Objects}
use Rattle.acl_stobj_read.specs.Keys.{value_along}
use Rattle.acl_stobj_read.proofs.KeyLemmas.{value_is}
use Rattle.acl_stobj_written.specs.declared.shaped.ShapedField.{ShapedField}
use Rattle.acl_stobj_written.specs.Fields.{seen_shaped}
use Rattle.acl_stobj.specs.Renames.{AreOld}
use Rattle.acl_stobj.specs.Fields.{AreNamed}
use Rattle.acl_stobj.specs.Knowing.{AllKnown, FieldsKnown, NamesKnown}

module _ (n : ℕ) where
  -- ---- lists

  pub elements_known : (o : Object ℕ) (os : List (Object ℕ)) → elements o ≡ Some os → Knows n o → AllKnown n os
  elements_known (Integer i) os e k = cc
  elements_known (Symbol s) os e k = by (nat_eq s 1) e
    where
      by : (b : Bool) → (if b then Some [] else None) ≡ Some os → AllKnown n os
      by true e = let q : [] ≡ os = cc in subst (AllKnown n) q tt
      by false e = cc
  elements_known (Text bytes) os e k = cc
  elements_known (Pair a d) os e k = by (elements d) refl e (elements_known d)
    where
      by : (x : Option (List (Object ℕ))) → elements d ≡ x → option_map (λ ys. a ∷ ys) x ≡ Some os → ((ys : List (Object ℕ)) → elements d ≡ Some ys → Knows n d → AllKnown n ys) → AllKnown n os
      by None f e later = cc
      by (Some ys) f e later = let q : a ∷ ys ≡ os = cc in subst (AllKnown n) q (k.0, later ys f k.1)

  before_known : (f : Object ℕ → Bool) (os : List (Object ℕ)) → AllKnown n os → AllKnown n (before_first f os)
  before_known f [] k = tt
  before_known f (o ∷ os) k = by (f o) (before_known f os k.1)
    where
      by : (b : Bool) → AllKnown n (before_first f os) → AllKnown n (if b then [] else o ∷ before_first f os)
      by true later = tt
      by false later = (k.0, later)

  drop_known : (m : ℕ) (os : List (Object ℕ)) → AllKnown n os → AllKnown n (drop m os)
  drop_known zero os k = k
  drop_known (suc m) [] k = tt
  drop_known (suc m) (o ∷ os) k = drop_known m os k.1

  value_known : (sy : List QualifiedName) (name : List ℕ) (os : List (Object ℕ)) (v : Object ℕ) → AllKnown n os → value_along sy name os ≡ Some v → Knows n v
  value_known sy name [] v k e = cc
  value_known sy name (a ∷ []) v k e = cc
  value_known sy name (a ∷ (x ∷ os)) v k e = by (is_key sy name a) e (value_known sy name os v k.1.1)
    where
      by : (b : Bool) → (if b then Some x else value_along sy name os) ≡ Some v → (value_along sy name os ≡ Some v → Knows n v) → Knows n v
      by true e later = let q : x ≡ v = cc in subst (Knows n) q k.1.0
      by false e later = later e

  -- ---- fields

  field_named : (s : ℕ) (ks : List Keyed) (f : written.WrittenField) → written_field_of s ks ≡ Some f → f.name ≡ s
  field_named s ks f e = by (flag_or_false (key_value (codes "RESIZABLE") ks)) e
    where
      by : (x : Option Bool) → option_map (λ resizable. record { name = s; type = unwrap_or (key_value (codes "TYPE") ks) (Symbol 0); initial = key_value (codes "INITIALLY") ks; resizable = resizable }) x ≡ Some f → f.name ≡ s
      by None e = cc
      by (Some b) e = let q : Some s ≡ Some f.name = ap (option_map (λ (g : written.WrittenField). g.name)) e in cc

  named_in : (sy : List QualifiedName) (os : List (Object ℕ)) (f : written.WrittenField) → AllKnown n os → written_field_in sy os ≡ Some f → f.name < n
  named_in sy [] f k e = cc
  named_in sy (Integer i ∷ os) f k e = cc
  named_in sy (Symbol s ∷ os) f k e = by (keys_in sy field_keys os) e
    where
      by : (x : Option (List Keyed)) → option_and_then (written_field_of s) x ≡ Some f → f.name < n
      by None e = cc
      by (Some ks) e = subst (λ m. m < n) (sym (field_named s ks f e)) k.0
  named_in sy (Text bytes ∷ os) f k e = cc
  named_in sy (Pair a d ∷ os) f k e = cc

  field_known : (sy : List QualifiedName) (o : Object ℕ) (f : written.WrittenField) → Knows n o → written_field sy o ≡ Some f → f.name < n
  field_known sy (Integer i) f k e = cc
  field_known sy (Symbol s) f k e = subst (λ m. m < n) (sym (field_named s [] f e)) k
  field_known sy (Text bytes) f k e = cc
  field_known sy (Pair a d) f k e = by (elements (Pair a d)) refl e
    where
      by : (x : Option (List (Object ℕ))) → elements (Pair a d) ≡ x → option_and_then (written_field_in sy) x ≡ Some f → f.name < n
      by None g e = cc
      by (Some os) g e = named_in sy os f (elements_known (Pair a d) os g k) e

  fields_known : (sy : List QualifiedName) (os : List (Object ℕ)) (fs : List written.WrittenField) → AllKnown n os → each (written_field sy) os ≡ Some fs → FieldsKnown n fs
  fields_known sy [] fs k e = let q : [] ≡ fs = cc in subst (FieldsKnown n) q tt
  fields_known sy (o ∷ os) fs k e = by (written_field sy o) (each (written_field sy) os) refl refl e (fields_known sy os)
    where
      by : (x : Option written.WrittenField) (y : Option (List written.WrittenField)) → written_field sy o ≡ x → each (written_field sy) os ≡ y → option_and_then (λ f. option_map (λ gs. f ∷ gs) y) x ≡ Some fs
          → ((gs : List written.WrittenField) → AllKnown n os → each (written_field sy) os ≡ Some gs → FieldsKnown n gs) → FieldsKnown n fs
      by None y g h e later = cc
      by (Some f) None g h e later = cc
      by (Some f) (Some gs) g h e later = let q : f ∷ gs ≡ fs = cc in subst (FieldsKnown n) q (field_known sy o f k.0 g, later gs k.1 h)

  -- ---- renamings

  pair_known : (os : List (Object ℕ)) (p : ℕ × ℕ) → AllKnown n os → two_symbols os ≡ Some p → p.0 < n
  pair_known [] p k e = cc
  pair_known (a ∷ []) p k e = cc
  pair_known (a ∷ (b ∷ (c ∷ os))) p k e = cc
  pair_known (a ∷ (b ∷ [])) p k e = by a (symbol b) k.0 e
    where
      by : (a : Object ℕ) (y : Option ℕ) → Knows n a → option_and_then (λ x. option_map (λ z. (x, z)) y) (symbol a) ≡ Some p → p.0 < n
      by (Integer i) y k e = cc
      by (Symbol s) None k e = cc
      by (Symbol s) (Some z) k e = let q : Some s ≡ Some p.0 = ap (option_map (λ (r : ℕ × ℕ). r.0)) e in let r : s ≡ p.0 = cc in subst (λ m. m < n) r k
      by (Text bytes) y k e = cc
      by (Pair c d) y k e = cc

  abbrev pair_of : Object ℕ → Option (ℕ × ℕ)
  pair_of o = option_and_then two_symbols (elements o)

  pair_of_known : (o : Object ℕ) (p : ℕ × ℕ) → Knows n o → pair_of o ≡ Some p → p.0 < n
  pair_of_known o p k e = by (elements o) refl e
    where
      by : (x : Option (List (Object ℕ))) → elements o ≡ x → option_and_then two_symbols x ≡ Some p → p.0 < n
      by None g e = cc
      by (Some os) g e = pair_known os p (elements_known o os g k) e

  pairs_known : (os : List (Object ℕ)) (ps : List (ℕ × ℕ)) → AllKnown n os → each pair_of os ≡ Some ps → AreOld n ps
  pairs_known [] ps k e = let q : [] ≡ ps = cc in subst (AreOld n) q tt
  pairs_known (o ∷ os) ps k e = by (pair_of o) (each pair_of os) refl refl e (pairs_known os)
    where
      by : (x : Option (ℕ × ℕ)) (y : Option (List (ℕ × ℕ))) → pair_of o ≡ x → each pair_of os ≡ y → option_and_then (λ p. option_map (λ qs. p ∷ qs) y) x ≡ Some ps
          → ((qs : List (ℕ × ℕ)) → AllKnown n os → each pair_of os ≡ Some qs → AreOld n qs) → AreOld n ps
      by None y g h e later = cc
      by (Some p) None g h e later = cc
      by (Some p) (Some qs) g h e later = let q : p ∷ qs ≡ ps = cc in subst (AreOld n) q (pair_of_known o p k.0 g, later qs k.1 h)

  renaming_known : (x : Option (Object ℕ)) (ps : List (ℕ × ℕ)) → ((o : Object ℕ) → x ≡ Some o → Knows n o) → renaming_of x ≡ Some ps → AreOld n ps
  renaming_known None ps k e = let q : [] ≡ ps = cc in subst (AreOld n) q tt
  renaming_known (Some o) ps k e = by (elements o) refl e
    where
      by : (x : Option (List (Object ℕ))) → elements o ≡ x → option_and_then (each pair_of) x ≡ Some ps → AreOld n ps
      by None g e = cc
      by (Some os) g e = pairs_known os ps (elements_known o os g (k o refl)) e

  -- ---- the whole

  module _ (w : worlds.World) (sy : List QualifiedName) where
    with_known : (name : Object ℕ) (fs : List written.WrittenField) (os : List (Object ℕ)) (ks : List Keyed) (o : written.WrittenStobj) → Knows n name → FieldsKnown n fs → AllKnown n os
        → keys_in sy stobj_keys os ≡ Some ks → written_with w name fs ks ≡ Some o → NamesKnown n o
    with_known name fs os ks o kn kf ko g e =
        by (is_executable_flag (key_value (codes "NON-EXECUTABLE") ks)) (renaming_of (key_value (codes "RENAMING") ks)) (old_stobj w (key_value (codes "CONGRUENT-TO") ks)) refl e
      where
        behind : (v : Object ℕ) → key_value (codes "RENAMING") ks ≡ Some v → Knows n v
        behind v f = value_known sy (codes "RENAMING") os v ko (value_is sy stobj_keys (codes "RENAMING") os ks g ∙ f)

        by : (b : Bool) (x : Option (List (ℕ × ℕ))) (y : Option (Option ℕ)) → renaming_of (key_value (codes "RENAMING") ks) ≡ x
            → (if b then option_and_then (λ renaming. option_map (λ old. record { name = name; fields = fs; renaming = renaming; congruent_to = old }) y) x else None) ≡ Some o → NamesKnown n o
        by false x y r e = cc
        by true None y r e = cc
        by true (Some ps) None r e = cc
        by true (Some ps) (Some old) r e =
            let q : record { name = name; fields = fs; renaming = ps; congruent_to = old } ≡ o = cc in
            subst (NamesKnown n) q (record { name = kn; fields = kf; renaming = renaming_known (key_value (codes "RENAMING") ks) ps behind r })

    in_known : (os : List (Object ℕ)) (o : written.WrittenStobj) → AllKnown n os → written_in w sy os ≡ Some o → NamesKnown n o
    in_known [] o k e = cc
    in_known (name ∷ os) o k e = by (each (written_field sy) (before_first (is_keyword_object sy) os)) (keys_in sy stobj_keys (from_first (is_keyword_object sy) os)) refl refl e
      where
        by : (x : Option (List written.WrittenField)) (y : Option (List Keyed)) → each (written_field sy) (before_first (is_keyword_object sy) os) ≡ x → keys_in sy stobj_keys (from_first (is_keyword_object sy) os) ≡ y
            → option_and_then (λ fields. option_and_then (written_with w name fields) y) x ≡ Some o → NamesKnown n o
        by None y f g e = cc
        by (Some fs) None f g e = cc
        by (Some fs) (Some ks) f g e =
            with_known name fs (from_first (is_keyword_object sy) os) ks o k.0 (fields_known sy (before_first (is_keyword_object sy) os) fs (before_known (is_keyword_object sy) os k.1) f)
            (drop_known (length (before_first (is_keyword_object sy) os)) os k.1) g e

    pub names_known : (form : Object ℕ) (o : written.WrittenStobj) → Knows n form → written_stobj w sy form ≡ Some o → NamesKnown n o
    unfolding written_stobj
    names_known form o k e = by (elements form) refl e
      where
        by : (x : Option (List (Object ℕ))) → elements form ≡ x → option_and_then (written_in w sy) x ≡ Some o → NamesKnown n o
        by None f e = cc
        by (Some os) f e = in_known os o (elements_known form os f k) e

    -- ---- fields with their shapes

    abbrev pub PairsKnown : List written.ShapedField → Type 0
    PairsKnown [] = Unit {0}
    PairsKnown (f ∷ fs) = (f.0 < n) × PairsKnown fs

    shaped_known : (fs : List written.WrittenField) → FieldsKnown n fs → PairsKnown (shaped_fields w fs)
    shaped_known [] k = tt
    shaped_known (f ∷ fs) k = by (shape_of w f) refl (shaped_known fs k.1)
      where
        by : (x : Option worlds.Shape) → shape_of w f ≡ x → PairsKnown (shaped_fields w fs) → PairsKnown (shaped_fields w (f ∷ fs))
        by None g later = subst PairsKnown (sym (there None g)) later
          where
            there : (x : Option worlds.Shape) → shape_of w f ≡ None → shaped_fields w (f ∷ fs) ≡ shaped_fields w fs
            there x g = rw g refl
        by (Some s) g later = subst PairsKnown (sym (here s g)) (k.0, later)
          where
            here : (s : worlds.Shape) → shape_of w f ≡ Some s → shaped_fields w (f ∷ fs) ≡ (f.name, s) ∷ shaped_fields w fs
            here s g = rw g refl

    named_by : (h : Objects) (fs : List ShapedField) → PairsKnown (seen_shaped h fs) → AreNamed n fs
    named_by h [] k = tt
    named_by h (f ∷ fs) k = (k.0, named_by h fs k.1)

    pub fields_named : (h : Objects) (gs : List written.WrittenField) (fs : List ShapedField) → FieldsKnown n gs → shaped_fields w gs ≡ seen_shaped h fs → AreNamed n fs
    fields_named h gs fs k e = named_by h fs (subst PairsKnown e (shaped_known gs k))
