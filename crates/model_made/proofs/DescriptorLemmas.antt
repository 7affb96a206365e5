-- What is known of a descriptor that is granted: its name is new, children are concrete and do not nest too deep, and it matches the stobj that it is congruent to.
use Rattle.std.proofs.Common.{◌≡◌, ℕ, ◌+◌, ◌<◌, List, [], ◌∷◌, drop, Bool, true, false, Option, Some, None, refl, sym, ap, subst, arith}
use Rattle.std.specs.Prelude.{◌&&◌, nat_le, nat_eq, is_some, option_map, option_and_then, if◌then◌else◌, codes}
use Rattle.std.specs.Option.{option_or, option_map_or}
use Rattle.std.specs.List.{flat_map}
use Rattle.std.proofs.lemmas.Bool.{eqb-true}
use Rattle.std.proofs.lemmas.Bool.Decides.{nat_tests}
use Rattle.acl_base.specs.declared.layout.Test.{Test}
use Rattle.acl_base.specs.declared.layout.Test.TheVariants.{Eq, Eql, Equal}
use Rattle.model_objects.specs.Object.{Object, Integer, Symbol, Text, Pair}
use Rattle.model_symbols.specs.Symbols.{QualifiedName, Package}
use Rattle.model_prims.specs.Kinds.{by_number, same_object}
use Rattle.model_prims.proofs.Same.{same_tells}
use Rattle.model_lists.specs.Types.{ValueType}
use Rattle.model_lists.specs.Layouts.{Layout}
use Rattle.model_terms.specs.Worlds.{World, Shape, Scalar, Array, Hash, Child, Children, Field, Descriptor, definition}
use Rattle.model_terms.specs.Accessors.{descriptor_of}
use Rattle.model_eval.specs.StobjLayouts.{fields_layout, most_nested}
use Rattle.model_accepted.proofs.AcceptLemmas.{both_true, false_true}
use Rattle.model_expansion.specs.Words.{array_word, hash_table_word}
use Rattle.model_expansion.specs.Forms.{elements, each, is, is_keyword_object, symbol_or_nil}
use Rattle.model_expansion.specs.TypeTerms.{accepted_type}
use Rattle.model_expansion.specs.Expansion.{Progress}
use Rattle.model_stobjs.specs.Answers.{Grants}
use Rattle.model_stobjs.specs.Heads.{name_in_use}
use Rattle.model_stobjs.specs.Keys.{Keyed, key_value, keys_in}
use Rattle.model_stobjs.specs.Descriptors.{WrittenField, WrittenStobj, before_first, from_first, renaming_of, is_executable_flag, written_field, stobj_keys, old_stobj, written_with, written_in, written_stobj, nesting_within, length_in, up_to, most_children, test_of_word, initial_value, unless_resizable, nested_stobj, array_shape, hash_shape, listed_shape, other_shape, scalar_or_other, shape_of, MadeNames, names_made, ShapedField, shaped_fields, stobj_makings, made_count, fields_with, descriptor_with, same_test, same_flag, same_shape, mismatch_from, mismatch, room_for, names_of_field, new_names, named_descriptor, descriptor_made, names_then, written_then, descriptor_read}
use Rattle.model_made.specs.Lawful.{IsConcreteStobj, IsConcreteIfAny}
use Rattle.model_made.proofs.EventLemmas.{IfGrants, grants_unless, grants_needing}
use Rattle.model_made.proofs.DraftLemmas.{none_or, first_free}
use Rattle.model_made.proofs.NestingLemmas.{see}
use Rattle.model_lists.specs.Effects.{most_elements}

module _ (w : World) where
  -- a child is a concrete stobj that nests fewer than so many
  pub record IsNested (x : ℕ) : Type 0 where
    pub concrete : IsConcreteStobj w x
    pub nests : nesting_within w most_nested x < most_nested

  abbrev pub IsGoodShape : Shape → Type 0
  IsGoodShape (Scalar written initial) = Unit {0}
  IsGoodShape (Array written initial length resizable) = Unit {0}
  IsGoodShape (Hash test) = Unit {0}
  IsGoodShape (Child x) = IsNested x
  IsGoodShape (Children x n) = IsNested x

  abbrev GoodIfAny : Option Shape → Type 0
  GoodIfAny None = Unit {0}
  GoodIfAny (Some s) = IsGoodShape s

  abbrev NestedIfAny : Option ℕ → Type 0
  NestedIfAny None = Unit {0}
  NestedIfAny (Some x) = IsNested x

  some_concrete : (x : ℕ) → is_some (descriptor_of w x) ≡ true → IsConcreteStobj w x
  some_concrete x e = go (descriptor_of w x) refl e
    where
      go : (d : Option Descriptor) → descriptor_of w x ≡ d → is_some d ≡ true → IsConcreteStobj w x
      go None f g = false_true g
      go (Some d) f g = (d, f)

  -- ---- shapes

  module _ (f : WrittenField) where
    unless_good : (s : Option Shape) → GoodIfAny s → GoodIfAny (unless_resizable w f s)
    unless_good s h = go f.resizable
      where
        go : (b : Bool) → GoodIfAny (if b then None else s)
        go true = tt
        go false = h

    nested_good : (o : Object ℕ) → NestedIfAny (nested_stobj w f o)
    nested_good (Integer n) = tt
    nested_good (Symbol s) = go (is_some (descriptor_of w s)) refl (nat_le (nesting_within w most_nested s + 1) most_nested) refl
      where
        go : (b : Bool) → is_some (descriptor_of w s) ≡ b → (c : Bool) → nat_le (nesting_within w most_nested s + 1) most_nested ≡ c → NestedIfAny (if b && c then Some s else None)
        go true e true g = record { concrete = some_concrete s e; nests = below (nesting_within w most_nested s) g }
          where
            below : (n : ℕ) → nat_le (n + 1) most_nested ≡ true → n < most_nested
            below n h = grind (arith, nat_tests)
        go true e false g = tt
        go false e c g = tt
    nested_good (Text bytes) = tt
    nested_good (Pair a d) = tt

    elements_good : (stobj : ℕ) → IsNested stobj → (n : Option ℕ) → GoodIfAny (option_map (λ n. Children stobj n) n)
    elements_good stobj h None = tt
    elements_good stobj h (Some n) = h

    array_good : (t : Object ℕ) (v : Option (ValueType ℕ)) (n : Option ℕ) → GoodIfAny (array_shape w f t v n)
    array_good t (Some accepted) n = go (option_and_then (up_to most_elements) n)
      where
        go : (n : Option ℕ) → GoodIfAny (option_map (λ n. Array t (initial_value w f) n f.resizable) n)
        go None = tt
        go (Some n) = tt
    array_good t None n =
        unless_good (option_and_then (λ stobj. option_map (λ n. Children stobj n) (option_and_then (up_to most_children) n)) (nested_stobj w f t)) (go (nested_stobj w f t) (nested_good t))
      where
        go : (v : Option ℕ) → NestedIfAny v → GoodIfAny (option_and_then (λ stobj. option_map (λ n. Children stobj n) (option_and_then (up_to most_children) n)) v)
        go None h = tt
        go (Some stobj) h = elements_good stobj h (option_and_then (up_to most_children) n)

    hash_good : (t : Object ℕ) → GoodIfAny (hash_shape w f t)
    hash_good t = unless_good (option_map (λ test. Hash test) (test_of_word t)) (go (test_of_word t))
      where
        go : (v : Option Test) → GoodIfAny (option_map (λ test. Hash test) v)
        go None = tt
        go (Some test) = tt

    good_if : (b : Bool) (s t : Option Shape) → GoodIfAny s → GoodIfAny t → GoodIfAny (if b then s else t)
    good_if true s t h k = h
    good_if false s t h k = k

    listed_good : (os : List (Object ℕ)) → GoodIfAny (listed_shape w f os)
    listed_good [] = tt
    listed_good (h ∷ []) = tt
    listed_good (h ∷ (t ∷ [])) = good_if (is hash_table_word h) (hash_shape w f t) None (hash_good t) tt
    listed_good (h ∷ (t ∷ (n ∷ []))) =
        good_if (is hash_table_word h) (hash_shape w f t) _ (hash_good t)
        (good_if (is array_word h) (array_shape w f t (accepted_type t) (option_and_then (length_in w) (elements n))) None (array_good t (accepted_type t) (option_and_then (length_in w) (elements n))) tt)
    listed_good (h ∷ (t ∷ (n ∷ (o ∷ os)))) = tt

    other_good : (o : Object ℕ) → GoodIfAny (other_shape w f o)
    other_good (Integer n) = tt
    other_good (Symbol s) = unless_good (option_map Child (nested_stobj w f (Symbol s))) (go (nested_stobj w f (Symbol s)) (nested_good (Symbol s)))
      where
        go : (v : Option ℕ) → NestedIfAny v → GoodIfAny (option_map Child v)
        go None h = tt
        go (Some x) h = h
    other_good (Text bytes) = tt
    other_good (Pair a d) = go (elements (Pair a d))
      where
        go : (os : Option (List (Object ℕ))) → GoodIfAny (option_and_then (listed_shape w f) os)
        go None = tt
        go (Some os) = listed_good os

    scalar_good : (v : Option (ValueType ℕ)) → GoodIfAny (scalar_or_other w f v)
    scalar_good (Some accepted) = unless_good (Some (Scalar f.type (initial_value w f))) tt
    scalar_good None = other_good f.type

    shape_good : GoodIfAny (shape_of w f)
    unfolding shape_of
    shape_good = scalar_good (accepted_type f.type)

  -- ---- fields

  abbrev AllGood : List ShapedField → Type 0
  AllGood [] = Unit {0}
  AllGood (f ∷ fs) = IsGoodShape f.1 × AllGood fs

  abbrev pub FieldsGood : List Field → Type 0
  FieldsGood [] = Unit {0}
  FieldsGood (f ∷ fs) = IsGoodShape f.shape × FieldsGood fs

  shaped_good : (fs : List WrittenField) → AllGood (shaped_fields w fs)
  shaped_good [] = tt
  shaped_good (f ∷ fs) = go (shape_of w f) (shape_good f) (shaped_good fs)
    where
      go : (v : Option Shape) → GoodIfAny v → AllGood (shaped_fields w fs) → AllGood (option_map_or (λ s. (f.name, s) ∷ shaped_fields w fs) v (shaped_fields w fs))
      go None h k = k
      go (Some s) h k = (h, k)

  with_good : (fs : List ShapedField) (numbers : List ℕ) → AllGood fs → FieldsGood (fields_with fs numbers)
  with_good [] numbers h = tt
  with_good (f ∷ fs) numbers h = (h.0, with_good fs (drop (made_count f.1) numbers) h.1)

  -- ---- congruence

  old_good : (o : Option (Object ℕ)) (v : Option ℕ) → old_stobj w o ≡ Some v → IsConcreteIfAny w v
  old_good None None e = tt
  old_good None (Some x) e = cc
  old_good (Some (Integer n)) v e = cc
  old_good (Some (Symbol s)) v e = go (is_some (descriptor_of w s)) refl e
    where
      inner : Some (Some s) ≡ Some v → Some s ≡ v
      inner f = cc

      go : (b : Bool) → is_some (descriptor_of w s) ≡ b → (if b then Some (Some s) else None) ≡ Some v → IsConcreteIfAny w v
      go true f g = subst (IsConcreteIfAny w) (inner g) (some_concrete s f)
      go false f g = cc
  old_good (Some (Text bytes)) v e = cc
  old_good (Some (Pair a d)) v e = cc

  abbrev WrittenIfAny : Option WrittenStobj → Type 0
  WrittenIfAny None = Unit {0}
  WrittenIfAny (Some o) = IsConcreteIfAny w o.congruent_to

  with_written : (name : Object ℕ) (fields : List WrittenField) (ks : List Keyed) → WrittenIfAny (written_with w name fields ks)
  with_written name fields ks = go (is_executable_flag (key_value (codes "NON-EXECUTABLE") ks)) (old_stobj w (key_value (codes "CONGRUENT-TO") ks)) refl (renaming_of (key_value (codes "RENAMING") ks))
    where
      go : (b : Bool) (v : Option (Option ℕ)) → old_stobj w (key_value (codes "CONGRUENT-TO") ks) ≡ v → (r : Option (List (ℕ × ℕ)))
          → WrittenIfAny (if b then option_and_then (λ renaming. option_map (λ old. record { name = name; fields = fields; renaming = renaming; congruent_to = old }) v) r else None)
      go false v e r = tt
      go true v e None = tt
      go true None e (Some r) = tt
      go true (Some old) e (Some r) = old_good (key_value (codes "CONGRUENT-TO") ks) old e

  in_written : (symbols : List QualifiedName) (os : List (Object ℕ)) → WrittenIfAny (written_in w symbols os)
  in_written symbols [] = tt
  in_written symbols (name ∷ os) =
      go (each (written_field symbols) (before_first (is_keyword_object symbols) os)) (keys_in symbols stobj_keys (from_first (is_keyword_object symbols) os))
    where
      go : (fs : Option (List WrittenField)) (ks : Option (List Keyed)) → WrittenIfAny (option_and_then (λ fields. option_and_then (written_with w name fields) ks) fs)
      go None ks = tt
      go (Some fs) None = tt
      go (Some fs) (Some ks) = with_written name fs ks

  written_good : (symbols : List QualifiedName) (d : Object ℕ) → WrittenIfAny (written_stobj w symbols d)
  unfolding written_stobj
  written_good symbols d = go (elements d)
    where
      go : (os : Option (List (Object ℕ))) → WrittenIfAny (option_and_then (written_in w symbols) os)
      go None = tt
      go (Some os) = in_written symbols os

  -- ---- what is granted

  pub record IsNew (d : Descriptor) : Type 0 where
    pub free : definition w d.name ≡ None
    pub fields : FieldsGood d.fields
    pub congruent : IsConcreteIfAny w d.congruent_to
    pub matches : mismatch w d ≡ None

  made_new : (o : WrittenStobj) (m : MadeNames) (p : Progress) → IsConcreteIfAny w o.congruent_to → IfGrants IsNew (descriptor_made w o (shaped_fields w o.fields) m p)
  made_new o m p h =
      let d : Descriptor = descriptor_with o (shaped_fields w o.fields) m.numbers in
      grants_unless IsNew (room_for m) (named_descriptor w d) (record p { symbols = m.symbols }) (λ room.
      grants_unless IsNew (option_or (name_in_use w (new_names d)) (mismatch w d)) (Grants d) (record p { symbols = m.symbols }) (λ e.
      let both = none_or (name_in_use w (new_names d)) (mismatch w d) e in
      record {
        free = (first_free w d.name (d.recognizer ∷ d.creator ∷ flat_map names_of_field d.fields) both.0).0.nothing;
        fields = with_good (shaped_fields w o.fields) (drop 2 m.numbers) (shaped_good o.fields);
        congruent = h;
        matches = both.1;
      }))

  pub descriptor_new : (packages : List Package) (d : Object ℕ) (p : Progress) → IfGrants IsNew (descriptor_read w packages d p)
  unfolding descriptor_read
  descriptor_new packages d p =
      grants_needing IsNew (written_stobj w p.symbols d) _ (written_then w packages) p (λ o same.
      grants_unless IsNew _ (names_then w packages o (shaped_fields w o.fields)) p (λ e.
      made_new o (names_made packages o.renaming (stobj_makings p.symbols (symbol_or_nil o.name) (shaped_fields w o.fields)) p.symbols) p (subst WrittenIfAny same (written_good p.symbols d))))

-- ---- stobjs that match have one layout

same_tests : (a b : Test) → same_test a b ≡ true → a ≡ b
same_tests Eq Eq e = refl
same_tests Eq Eql e = cc
same_tests Eq Equal e = cc
same_tests Eql Eq e = cc
same_tests Eql Eql e = refl
same_tests Eql Equal e = cc
same_tests Equal Eq e = cc
same_tests Equal Eql e = cc
same_tests Equal Equal e = refl

same_flags : (a b : Bool) → same_flag a b ≡ true → a ≡ b
same_flags true b e = sym e
same_flags false true e = cc
same_flags false false e = refl

same_shapes : (s t : Shape) → same_shape s t ≡ true → s ≡ t
same_shapes (Scalar t o) (Scalar u p) e =
    let both = both_true (same_object by_number t u) (same_object by_number o p) e in
    let first : t ≡ u = same_tells t u both.0 in
    let other : o ≡ p = same_tells o p both.1 in
    rw (first, other) refl
same_shapes (Array t o m r) (Array u p n s) e =
    let one = both_true (same_object by_number t u) _ e in
    let two = both_true (same_object by_number o p) _ one.1 in
    let three = both_true (nat_eq m n) (same_flag r s) two.1 in
    let first : t ≡ u = same_tells t u one.0 in
    let other : o ≡ p = same_tells o p two.0 in
    let long : m ≡ n = eqb-true m n three.0 in
    let flag : r ≡ s = same_flags r s three.1 in
    rw (first, other, long, flag) refl
same_shapes (Hash a) (Hash b) e = ap Hash (same_tests a b e)
same_shapes (Child x) (Child y) e = ap Child (eqb-true x y e)
same_shapes (Children x m) (Children y n) e =
    let both = both_true (nat_eq x y) (nat_eq m n) e in
    let first : x ≡ y = eqb-true x y both.0 in
    let long : m ≡ n = eqb-true m n both.1 in
    rw (first, long) refl
same_shapes (Scalar t o) (Array u p n s) e = cc
same_shapes (Scalar t o) (Hash b) e = cc
same_shapes (Scalar t o) (Child y) e = cc
same_shapes (Scalar t o) (Children y n) e = cc
same_shapes (Array t o m r) (Scalar u p) e = cc
same_shapes (Array t o m r) (Hash b) e = cc
same_shapes (Array t o m r) (Child y) e = cc
same_shapes (Array t o m r) (Children y n) e = cc
same_shapes (Hash a) (Scalar u p) e = cc
same_shapes (Hash a) (Array u p n s) e = cc
same_shapes (Hash a) (Child y) e = cc
same_shapes (Hash a) (Children y n) e = cc
same_shapes (Child x) (Scalar u p) e = cc
same_shapes (Child x) (Array u p n s) e = cc
same_shapes (Child x) (Hash b) e = cc
same_shapes (Child x) (Children y n) e = cc
same_shapes (Children x m) (Scalar u p) e = cc
same_shapes (Children x m) (Array u p n s) e = cc
same_shapes (Children x m) (Hash b) e = cc
same_shapes (Children x m) (Child y) e = cc

pub matching_layouts : (child : ℕ → Layout ℕ) (k : ℕ) (fs gs : List Field) → mismatch_from k fs gs ≡ None → fields_layout see child fs ≡ fields_layout see child gs
matching_layouts child k [] [] e = refl
matching_layouts child k [] (g ∷ gs) e = cc
matching_layouts child k (f ∷ fs) [] e = cc
matching_layouts child k (f ∷ fs) (g ∷ gs) e = go (same_shape f.shape g.shape) refl e (matching_layouts child (k + 1) fs gs)
  where
    go : (b : Bool) → same_shape f.shape g.shape ≡ b → (if b then mismatch_from (k + 1) fs gs else Some k) ≡ None → (mismatch_from (k + 1) fs gs ≡ None → fields_layout see child fs ≡ fields_layout see child gs)
        → fields_layout see child (f ∷ fs) ≡ fields_layout see child (g ∷ gs)
    go true h i later =
        let one : f.shape ≡ g.shape = same_shapes f.shape g.shape h in
        rw (one, later i) refl
    go false h i later = cc
