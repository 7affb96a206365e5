-- The fields of a descriptor that is granted have accepted types.
use Rattle.std.specs.Prelude.{◌≡◌, ℕ, List, [], ◌∷◌, drop, Bool, true, false, Option, Some, None, is_some, option_map, option_and_then, if◌then◌else◌, refl}
use Rattle.std.specs.Option.{option_or, option_map_or}
use Rattle.std.proofs.Common.{ap, subst}
use Rattle.acl_base.specs.declared.layout.Test.{Test}
use Rattle.model_objects.specs.Object.{Object, Integer, Symbol, Text, Pair}
use Rattle.model_symbols.specs.Symbols.{Package}
use Rattle.model_lists.specs.Types.{ValueType}
use Rattle.model_lists.specs.Effects.{most_elements}
use Rattle.model_terms.specs.Worlds.{World, Shape, Scalar, Array, Hash, Child, Children, Descriptor}
use Rattle.model_expansion.specs.Words.{array_word, hash_table_word}
use Rattle.model_expansion.specs.Forms.{elements, is, symbol_or_nil}
use Rattle.model_expansion.specs.TypeTerms.{accepted_type}
use Rattle.model_expansion.specs.Expansion.{Progress}
use Rattle.model_stobjs.specs.Answers.{EventResult, Grants}
use Rattle.model_stobjs.specs.Heads.{name_in_use}
use Rattle.model_stobjs.specs.Descriptors.{WrittenField, WrittenStobj, written_stobj, length_in, up_to, most_children, test_of_word, initial_value, unless_resizable, nested_stobj, array_shape, hash_shape, listed_shape, other_shape, scalar_or_other, shape_of, MadeNames, names_made, ShapedField, shaped_fields, stobj_makings, made_count, fields_with, descriptor_with, mismatch, room_for, new_names, named_descriptor, descriptor_made, names_then, written_then, descriptor_read}
use Rattle.model_made.proofs.EventLemmas.{IfGrants, grants_unless, grants_needing}
use Rattle.acl_layouts.specs.Typed.{IsTyped, AreTyped}
use Rattle.acl_fitting.specs.Laws.{DescriptorsAreTyped}

abbrev TypedIfAny : Option Shape → Type 0
TypedIfAny None = Unit {0}
TypedIfAny (Some s) = IsTyped s

module _ (w : World) (f : WrittenField) where
  unless_typed : (s : Option Shape) → TypedIfAny s → TypedIfAny (unless_resizable w f s)
  unless_typed s h = go f.resizable
    where
      go : (b : Bool) → TypedIfAny (if b then None else s)
      go true = tt
      go false = h

  children_typed : (v : Option ℕ) (n : Option ℕ) → TypedIfAny (option_and_then (λ stobj. option_map (λ n. Children stobj n) n) v)
  children_typed None n = tt
  children_typed (Some stobj) None = tt
  children_typed (Some stobj) (Some n) = tt

  array_typed : (t : Object ℕ) (v : Option (ValueType ℕ)) → accepted_type t ≡ v → (n : Option ℕ) → TypedIfAny (array_shape w f t v n)
  array_typed t (Some accepted) e n = go (option_and_then (up_to most_elements) n)
    where
      go : (n : Option ℕ) → TypedIfAny (option_map (λ n. Array t (initial_value w f) n f.resizable) n)
      go None = tt
      go (Some n) = ap (λ (v : Option (ValueType ℕ)). is_some v) e
  array_typed t None e n =
      unless_typed (option_and_then (λ stobj. option_map (λ n. Children stobj n) (option_and_then (up_to most_children) n)) (nested_stobj w f t)) (children_typed (nested_stobj w f t) (option_and_then (up_to most_children) n))

  hash_typed : (t : Object ℕ) → TypedIfAny (hash_shape w f t)
  hash_typed t = unless_typed (option_map (λ test. Hash test) (test_of_word t)) (go (test_of_word t))
    where
      go : (v : Option Test) → TypedIfAny (option_map (λ test. Hash test) v)
      go None = tt
      go (Some test) = tt

  typed_if : (b : Bool) (s t : Option Shape) → TypedIfAny s → TypedIfAny t → TypedIfAny (if b then s else t)
  typed_if true s t h k = h
  typed_if false s t h k = k

  listed_typed : (os : List (Object ℕ)) → TypedIfAny (listed_shape w f os)
  listed_typed [] = tt
  listed_typed (h ∷ []) = tt
  listed_typed (h ∷ (t ∷ [])) = typed_if (is hash_table_word h) (hash_shape w f t) None (hash_typed t) tt
  listed_typed (h ∷ (t ∷ (n ∷ []))) =
      typed_if (is hash_table_word h) (hash_shape w f t) _ (hash_typed t)
      (typed_if (is array_word h) (array_shape w f t (accepted_type t) (option_and_then (length_in w) (elements n))) None (array_typed t (accepted_type t) refl (option_and_then (length_in w) (elements n))) tt)
  listed_typed (h ∷ (t ∷ (n ∷ (o ∷ os)))) = tt

  other_typed : (o : Object ℕ) → TypedIfAny (other_shape w f o)
  other_typed (Integer n) = tt
  other_typed (Symbol s) = unless_typed (option_map Child (nested_stobj w f (Symbol s))) (go (nested_stobj w f (Symbol s)))
    where
      go : (v : Option ℕ) → TypedIfAny (option_map Child v)
      go None = tt
      go (Some x) = tt
  other_typed (Text bytes) = tt
  other_typed (Pair a d) = go (elements (Pair a d))
    where
      go : (os : Option (List (Object ℕ))) → TypedIfAny (option_and_then (listed_shape w f) os)
      go None = tt
      go (Some os) = listed_typed os

  scalar_typed : (v : Option (ValueType ℕ)) → accepted_type f.type ≡ v → TypedIfAny (scalar_or_other w f v)
  scalar_typed (Some accepted) e = unless_typed (Some (Scalar f.type (initial_value w f))) (ap (λ (v : Option (ValueType ℕ)). is_some v) e)
  scalar_typed None e = other_typed f.type

  shape_typed : TypedIfAny (shape_of w f)
  unfolding shape_of
  shape_typed = scalar_typed (accepted_type f.type) refl

-- ---- fields

abbrev AllTyped : List ShapedField → Type 0
AllTyped [] = Unit {0}
AllTyped (f ∷ fs) = IsTyped f.1 × AllTyped fs

with_typed : (fs : List ShapedField) (numbers : List ℕ) → AllTyped fs → AreTyped (fields_with fs numbers)
with_typed [] numbers h = tt
with_typed (f ∷ fs) numbers h = (h.0, with_typed fs (drop (made_count f.1) numbers) h.1)

module _ (w : World) where
  shaped_typed : (fs : List WrittenField) → AllTyped (shaped_fields w fs)
  shaped_typed [] = tt
  shaped_typed (f ∷ fs) = go (shape_of w f) (shape_typed w f) (shaped_typed fs)
    where
      go : (v : Option Shape) → TypedIfAny v → AllTyped (shaped_fields w fs) → AllTyped (option_map_or (λ s. (f.name, s) ∷ shaped_fields w fs) v (shaped_fields w fs))
      go None h k = k
      go (Some s) h k = (h, k)

  abbrev HasTypes : Descriptor → Type 0
  HasTypes d = AreTyped d.fields

  made_typed : (o : WrittenStobj) (m : MadeNames) (p : Progress) → IfGrants HasTypes (descriptor_made w o (shaped_fields w o.fields) m p)
  made_typed o m p =
      let d : Descriptor = descriptor_with o (shaped_fields w o.fields) m.numbers in
      grants_unless HasTypes (room_for m) (named_descriptor w d) (record p { symbols = m.symbols }) (λ room.
      grants_unless HasTypes (option_or (name_in_use w (new_names d)) (mismatch w d)) (Grants d) (record p { symbols = m.symbols }) (λ e.
      with_typed (shaped_fields w o.fields) (drop 2 m.numbers) (shaped_typed o.fields)))

  read_typed : (packages : List Package) (o : Object ℕ) (p : Progress) → IfGrants HasTypes (descriptor_read w packages o p)
  unfolding descriptor_read
  read_typed packages d p =
      grants_needing HasTypes (written_stobj w p.symbols d) _ (written_then w packages) p (λ o same.
      grants_unless HasTypes _ (names_then w packages o (shaped_fields w o.fields)) p (λ e.
      made_typed o (names_made packages o.renaming (stobj_makings p.symbols (symbol_or_nil o.name) (shaped_fields w o.fields)) p.symbols) p))

pub descriptors_are_typed : DescriptorsAreTyped
descriptors_are_typed = record { typed = λ w packages o p q d e. subst (λ (r : EventResult Descriptor). IfGrants (λ (x : Descriptor). AreTyped x.fields) r) e (read_typed w packages o p) }
