-- Definitions of stobjs as they are read: their fields have known symbols, and the names that they make leave a table.
use Rattle.std.proofs.Common.{◌≡◌, ℕ, ◌<◌, ◌≤◌, List, [], ◌∷◌, ◌++◌, length, map, drop, Bool, true, false, Option, Some, None, refl, arith}
use Rattle.std.specs.Prelude.{codes, option_and_then, unwrap_or, if◌then◌else◌}
use Rattle.std.specs.List.{flat_map}
use Rattle.std.specs.Option.{option_map_or}
use Rattle.model_objects.specs.Object.{Object, Integer, Symbol, Text, Pair}
use Rattle.model_objects.specs.Named.{Knows}
use Rattle.model_symbols.specs.Symbols.{QualifiedName, Package, interned, is_one_too_many}
use Rattle.model_symbols.specs.Opening.{truth, nil}
use Rattle.model_prims.specs.Applied.{number_then}
use Rattle.model_lists.specs.Types.{ValueType}
use Rattle.model_terms.specs.Cores.{Core, Cores, Var, Const, If, Let, Mv, MvLet, StobjLet, WithLocal, MustBeEqual, Call, none, more}
use Rattle.model_terms.specs.Worlds.{World, Shape, Scalar, Array, Hash, Child, Children, Descriptor, AbstractFunction, AbstractDescriptor, GeneratedFunction, Definition, Primitive, Defined, Macro, Constant, Concrete, Generated, Abstract, OfAbstract, Named, Signed, definition}
use Rattle.model_expansion.specs.Words.{array_word, hash_table_word}
use Rattle.model_expansion.specs.Forms.{elements, each, is, symbol_name, is_keyword_object, symbol_or_nil}
use Rattle.model_expansion.specs.TypeTerms.{accepted_type, true_core}
use Rattle.model_expansion_forms.specs.Nodes.{AllNodes, HasConstant, IsBelow}
use Rattle.model_stobjs.specs.Keys.{Keyed, key_value, keys_in}
use Rattle.model_stobjs.specs.Descriptors as objects
use Rattle.model_stobjs.specs.Descriptors.{WrittenField, WrittenStobj, flag_or_false, before_first, from_first, renaming_of, is_executable_flag, field_keys, stobj_keys, written_field_of, written_field_in, written_field, old_stobj, written_stobj, up_to, test_of_word, length_in, initial_value, unless_resizable, nested_stobj, array_shape, hash_shape, listed_shape, other_shape, scalar_or_other, shape_of, field_texts, Making, MadeNames, with_number, symbol_beside, new_name, name_made, names_made, ShapedField, shaped_fields, field_makings, stobj_makings, made_count, fields_with}
use Rattle.model_stobjs.specs.Entries.{stobj_entries, generated_functions}
use Rattle.model_stobjs.specs.Guards.{Renaming, renamed_core, renamed_cores, with_functions, all_with_functions, without_names}
use Rattle.model_stobjs.specs.Abstracts as abstracts
use Rattle.model_stobjs.specs.Abstracts.{WrittenFunction, WrittenAbstract, abstract_keys, function_keys, symbol_if_given, no_function, function_with, function_in, written_function, function_if_given, exports_if_given, foundation_given, written_abstract, name_number, Slot, export_slots, slots, makings, guard_in, export_entry, abstract_entries}
use Rattle.model_made.proofs.WorldLemmas.{EachDefinition}
use Rattle.model_made_logic.specs.Known.{KnowsForm, KnowsShape, KnowsFields, KnowsDefinition, KnowsDefinitions, Grows}
use Rattle.model_made_logic.proofs.KnownLemmas.{grows_same, grows_then}
use Rattle.model_made_logic.proofs.EffectLemmas.{beside_grows}
use Rattle.model_made_logic.proofs.ParseLemmas.{IfAny, EachOne, any_map, any_then, any_each, any_if, each_both, each_before, elements_known, number_known, keys_known, key_value_known}

-- ---- made names

abbrev IsFrom : ℕ → Making → Type 0
IsFrom n m = m.0 < n

from_more : (m n : ℕ) → m ≤ n → (ms : List Making) → EachOne (IsFrom m) ms → EachOne (IsFrom n) ms
from_more m n l [] h = tt
from_more m n l (a ∷ ms) h = let first : a.0 < m = h.0 in (omega (arith, l, first), from_more m n l ms h.1)

module _ (packages : List Package) (renaming : List (ℕ × ℕ)) where
  name_grows : (n : Option ℕ) (symbols : List QualifiedName) (m : Making) → m.0 < length symbols → (go : List QualifiedName → MadeNames) → ((known : List QualifiedName) → length symbols ≤ length known → Grows packages known (go known).symbols)
      → Grows packages symbols (name_made packages renaming n symbols (symbol_beside packages renaming symbols m) go).symbols
  name_grows (Some n) symbols m l go h = h symbols (omega arith)
  name_grows None symbols m l go h = by_test (is_one_too_many symbols q) refl
    where
      q : QualifiedName
      q = symbol_beside packages renaming symbols m

      by_test : (b : Bool) → is_one_too_many symbols q ≡ b → Grows packages symbols (if b then record { numbers = []; symbols = symbols; have_room = false } else with_number (number_then symbols q) (go (interned symbols q))).symbols
      by_test true e = grows_same packages symbols
      by_test false e =
          let first : Grows packages symbols (interned symbols q) = beside_grows (record { packages = packages; symbols = symbols }) m.1 m.0 l e in
          grows_then packages symbols (interned symbols q) (go (interned symbols q)).symbols first (h (interned symbols q) first.longer)

  pub names_grow : (ms : List Making) (symbols : List QualifiedName) → EachOne (IsFrom (length symbols)) ms → Grows packages symbols (names_made packages renaming ms symbols).symbols
  unfolding names_made
  names_grow [] symbols h = grows_same packages symbols
  names_grow (m ∷ ms) symbols h =
      name_grows (new_name packages renaming symbols (symbol_beside packages renaming symbols m)) symbols m h.0 (names_made packages renaming ms)
      (λ known l. names_grow ms known (from_more (length symbols) (length known) l ms h.1))

-- ---- fields as they are written

abbrev Trivial : {A : Type 0} → A → Type 0
Trivial a = Unit {0}

trivial_any : {A : Type 0} (v : Option A) → IfAny Trivial v
trivial_any None = tt
trivial_any (Some a) = tt

module _ (m : ℕ) (two : 2 ≤ m) where
  abbrev Is : Object ℕ → Type 0
  Is o = Knows m o

  abbrev FieldWritten : WrittenField → Type 0
  FieldWritten f = (f.name < m) × Is f.type × IfAny Is f.initial

  abbrev KeysKnown : List Keyed → Type 0
  KeysKnown ks = EachOne (λ (k : Keyed). Knows m k.1) ks

  type_or_true : (v : Option (Object ℕ)) → IfAny Is v → Is (unwrap_or v (Symbol truth))
  type_or_true None h = omega (arith, two)
  type_or_true (Some o) h = h

  field_of_keys : (s : ℕ) → s < m → (ks : List Keyed) → KeysKnown ks → IfAny FieldWritten (written_field_of s ks)
  field_of_keys s l ks h =
      any_map Trivial FieldWritten (λ resizable. record { name = s; type = unwrap_or (key_value (codes "TYPE") ks) (Symbol truth); initial = key_value (codes "INITIALLY") ks; resizable = resizable })
      (flag_or_false (key_value (codes "RESIZABLE") ks)) (trivial_any _) (λ resizable k. (l, type_or_true (key_value (codes "TYPE") ks) (key_value_known m two (codes "TYPE") ks h), key_value_known m two (codes "INITIALLY") ks h))

  field_in : (symbols : List QualifiedName) (os : List (Object ℕ)) → EachOne Is os → IfAny FieldWritten (written_field_in symbols os)
  field_in symbols [] h = tt
  field_in symbols (Integer n ∷ os) h = tt
  field_in symbols (Symbol s ∷ os) h = any_then KeysKnown FieldWritten (written_field_of s) (keys_in symbols field_keys os) (keys_known m two symbols field_keys os h.1) (field_of_keys s h.0)
  field_in symbols (Text bytes ∷ os) h = tt
  field_in symbols (Pair a d ∷ os) h = tt

  field_written : (symbols : List QualifiedName) (o : Object ℕ) → Is o → IfAny FieldWritten (written_field symbols o)
  field_written symbols (Integer n) h = tt
  field_written symbols (Symbol s) h = field_of_keys s h [] tt
  field_written symbols (Text bytes) h = tt
  field_written symbols (Pair a d) h = any_then (EachOne Is) FieldWritten (written_field_in symbols) (elements (Pair a d)) (elements_known m two (Pair a d) h) (field_in symbols)

  abbrev pub ObjectWritten : WrittenStobj → Type 0
  ObjectWritten o = Is o.name × EachOne FieldWritten o.fields

  object_with : (w : World) (name : Object ℕ) (fields : List WrittenField) (ks : List Keyed) → Is name → EachOne FieldWritten fields → IfAny ObjectWritten (objects.written_with w name fields ks)
  object_with w name fields ks h k =
      any_if ObjectWritten (is_executable_flag (key_value (codes "NON-EXECUTABLE") ks)) _ None
      (any_then Trivial ObjectWritten _ (renaming_of (key_value (codes "RENAMING") ks)) (trivial_any _) (λ renaming t.
      any_map Trivial ObjectWritten (λ old. record { name = name; fields = fields; renaming = renaming; congruent_to = old }) (old_stobj w (key_value (codes "CONGRUENT-TO") ks)) (trivial_any _) (λ old u. (h, k)))) tt

  stobj_in : (w : World) (symbols : List QualifiedName) (os : List (Object ℕ)) → EachOne Is os → IfAny ObjectWritten (objects.written_in w symbols os)
  stobj_in w symbols [] h = tt
  stobj_in w symbols (name ∷ os) h =
      any_then (EachOne FieldWritten) ObjectWritten _ (each (written_field symbols) (before_first (is_keyword_object symbols) os))
      (any_each Is FieldWritten (written_field symbols) (field_written symbols) (before_first (is_keyword_object symbols) os) (each_before Is (is_keyword_object symbols) os h.1)) (λ fields k.
      any_then Trivial ObjectWritten (objects.written_with w name fields) (keys_in symbols stobj_keys (from_first (is_keyword_object symbols) os)) (trivial_any _) (λ ks t. object_with w name fields ks h.0 k))

  pub object_written : (w : World) (symbols : List QualifiedName) (d : Object ℕ) → Is d → IfAny ObjectWritten (written_stobj w symbols d)
  unfolding written_stobj
  object_written w symbols d h = any_then (EachOne Is) ObjectWritten (objects.written_in w symbols) (elements d) (elements_known m two d h) (stobj_in w symbols)

  -- ---- their shapes

  module _ (w : World) (f : WrittenField) (h : FieldWritten f) where
    abbrev Shaped : Shape → Type 0
    Shaped s = KnowsShape m s

    first_value : (v : Option (Object ℕ)) → IfAny Is v → Is (unwrap_or v (Symbol nil))
    first_value None k = omega (arith, two)
    first_value (Some o) k = k

    initial_known : Is (initial_value w f)
    initial_known = first_value f.initial h.2

    not_resizable : (s : Option Shape) → IfAny Shaped s → IfAny Shaped (unless_resizable w f s)
    not_resizable s k = any_if Shaped f.resizable None s tt k

    array_known : (t : Object ℕ) → Is t → (a : Option (ValueType ℕ)) (n : Option ℕ) → IfAny Shaped (array_shape w f t a n)
    array_known t k (Some accepted) n = any_map Trivial Shaped (λ n. Array t (initial_value w f) n f.resizable) _ (trivial_any _) (λ n u. (k, initial_known))
    array_known t k None n =
        not_resizable _ (any_then Trivial Shaped _ (nested_stobj w f t) (trivial_any _) (λ stobj u. any_map Trivial Shaped (λ n. Children stobj n) _ (trivial_any _) (λ n v. tt)))

    hash_known : (t : Object ℕ) → IfAny Shaped (hash_shape w f t)
    hash_known t = not_resizable _ (any_map Trivial Shaped (λ test. Hash test) (test_of_word t) (trivial_any _) (λ test u. tt))

    listed_known : (os : List (Object ℕ)) → EachOne Is os → IfAny Shaped (listed_shape w f os)
    listed_known [] k = tt
    listed_known (x ∷ []) k = tt
    listed_known (x ∷ (t ∷ [])) k = any_if Shaped (is hash_table_word x) (hash_shape w f t) None (hash_known t) tt
    listed_known (x ∷ (t ∷ (n ∷ []))) k =
        any_if Shaped (is hash_table_word x) (hash_shape w f t) _ (hash_known t)
        (any_if Shaped (is array_word x) (array_shape w f t (accepted_type t) (option_and_then (length_in w) (elements n))) None (array_known t k.1.0 (accepted_type t) _) tt)
    listed_known (x ∷ (t ∷ (n ∷ (o ∷ os)))) k = tt

    other_known : (t : Object ℕ) → Is t → IfAny Shaped (other_shape w f t)
    other_known (Integer n) k = tt
    other_known (Symbol s) k = not_resizable _ (any_map Trivial Shaped Child (nested_stobj w f (Symbol s)) (trivial_any _) (λ x u. tt))
    other_known (Text bytes) k = tt
    other_known (Pair a d) k = any_then (EachOne Is) Shaped (listed_shape w f) (elements (Pair a d)) (elements_known m two (Pair a d) k) listed_known

    scalar_known : (t : Option (ValueType ℕ)) → IfAny Shaped (scalar_or_other w f t)
    scalar_known (Some accepted) = not_resizable (Some (Scalar f.type (initial_value w f))) (h.1, initial_known)
    scalar_known None = other_known f.type h.1

    shape_known : IfAny Shaped (shape_of w f)
    unfolding shape_of
    shape_known = scalar_known (accepted_type f.type)

  abbrev pub FieldShaped : ShapedField → Type 0
  FieldShaped f = (f.0 < m) × KnowsShape m f.1

  pub fields_shaped : (w : World) (fs : List WrittenField) → EachOne FieldWritten fs → EachOne FieldShaped (shaped_fields w fs)
  fields_shaped w [] h = tt
  fields_shaped w (f ∷ fs) h = go (shape_of w f) (shape_known w f h.0) (fields_shaped w fs h.1)
    where
      go : (s : Option Shape) → IfAny (KnowsShape m) s → EachOne FieldShaped (shaped_fields w fs) → EachOne FieldShaped (option_map_or (λ s. (f.name, s) ∷ shaped_fields w fs) s (shaped_fields w fs))
      go None k later = later
      go (Some s) k later = ((h.0.0, k), later)

  pub fields_known : (fs : List ShapedField) (numbers : List ℕ) → EachOne FieldShaped fs → KnowsFields m (fields_with fs numbers)
  fields_known [] numbers h = tt
  fields_known (f ∷ fs) numbers h = (h.0.1, fields_known fs (drop (made_count f.1) numbers) h.1)

  texts_from : (s : ℕ) → s < m → (texts : List (List ℕ)) → EachOne (IsFrom m) (map (λ text. (s, text)) texts)
  texts_from s l [] = tt
  texts_from s l (t ∷ ts) = (l, texts_from s l ts)

  fields_from : (symbols : List QualifiedName) (fs : List ShapedField) → EachOne FieldShaped fs → EachOne (IsFrom m) (field_makings symbols fs)
  fields_from symbols [] h = tt
  fields_from symbols (f ∷ fs) h = each_both (IsFrom m) _ (field_makings symbols fs) (texts_from f.0 h.0.0 (field_texts (symbol_name symbols f.0) f.1)) (fields_from symbols fs h.1)

  pub object_from : (symbols : List QualifiedName) (name : Object ℕ) (fs : List ShapedField) → Is name → EachOne FieldShaped fs → EachOne (IsFrom m) (stobj_makings symbols (symbol_or_nil name) fs)
  object_from symbols name fs k h = (number_known m two name k, (number_known m two name k, fields_from symbols fs h))

  -- ---- abstract stobjs

  abbrev FunctionWritten : WrittenFunction → Type 0
  FunctionWritten f = IfAny Is f.name

  abbrev pub AbstractWritten : WrittenAbstract → Type 0
  AbstractWritten a = Is a.name × EachOne FunctionWritten a.exports

  function_from : (name : Object ℕ) → Is name → (ks : List Keyed) → IfAny FunctionWritten (function_with name ks)
  function_from name h ks =
      any_then Trivial FunctionWritten _ (symbol_if_given (key_value (codes "LOGIC") ks)) (trivial_any _) (λ l t.
      any_map Trivial FunctionWritten (λ e. record { name = Some name; logic = l; exec = e }) (symbol_if_given (key_value (codes "EXEC") ks)) (trivial_any _) (λ e u. h))

  function_parts : (symbols : List QualifiedName) (os : List (Object ℕ)) → EachOne Is os → IfAny FunctionWritten (function_in symbols os)
  function_parts symbols [] h = tt
  function_parts symbols (name ∷ os) h = any_then Trivial FunctionWritten (function_with name) (keys_in symbols function_keys os) (trivial_any _) (λ ks t. function_from name h.0 ks)

  function_written : (symbols : List QualifiedName) (o : Object ℕ) → Is o → IfAny FunctionWritten (written_function symbols o)
  function_written symbols (Integer n) h = tt
  function_written symbols (Symbol s) h = h
  function_written symbols (Text bytes) h = tt
  function_written symbols (Pair a d) h = any_then (EachOne Is) FunctionWritten (function_in symbols) (elements (Pair a d)) (elements_known m two (Pair a d) h) (function_parts symbols)

  exports_written : (symbols : List QualifiedName) (v : Option (Object ℕ)) → IfAny Is v → IfAny (EachOne FunctionWritten) (exports_if_given symbols v)
  exports_written symbols None h = tt
  exports_written symbols (Some o) h =
      any_then (EachOne Is) (EachOne FunctionWritten) (each (written_function symbols)) (elements o) (elements_known m two o h) (any_each Is FunctionWritten (written_function symbols) (function_written symbols))

  abstract_with : (symbols : List QualifiedName) (name : Object ℕ) → Is name → (ks : List Keyed) → KeysKnown ks → IfAny AbstractWritten (abstracts.written_with symbols name ks)
  abstract_with symbols name h ks k =
      any_then Trivial AbstractWritten _ (foundation_given ks) (trivial_any _) (λ c t.
      any_then Trivial AbstractWritten _ (function_if_given symbols (key_value (codes "RECOGNIZER") ks)) (trivial_any _) (λ r u.
      any_then Trivial AbstractWritten _ (function_if_given symbols (key_value (codes "CREATOR") ks)) (trivial_any _) (λ q v.
      any_then Trivial AbstractWritten _ (symbol_if_given (key_value (codes "CORR-FN") ks)) (trivial_any _) (λ f z.
      any_map (EachOne FunctionWritten) AbstractWritten (λ xs. record { name = name; foundation = c; recognizer = r; creator = q; corr = f; exports = xs })
      (exports_if_given symbols (key_value (codes "EXPORTS") ks)) (exports_written symbols (key_value (codes "EXPORTS") ks) (key_value_known m two (codes "EXPORTS") ks k)) (λ xs l. (h, l))))))

  abstract_in : (symbols : List QualifiedName) (os : List (Object ℕ)) → EachOne Is os → IfAny AbstractWritten (abstracts.written_in symbols os)
  abstract_in symbols [] h = tt
  abstract_in symbols (name ∷ os) h = any_then KeysKnown AbstractWritten (abstracts.written_with symbols name) (keys_in symbols abstract_keys os) (keys_known m two symbols abstract_keys os h.1) (abstract_with symbols name h.0)

  pub abstract_written : (symbols : List QualifiedName) (d : Object ℕ) → Is d → IfAny AbstractWritten (written_abstract symbols d)
  unfolding written_abstract
  abstract_written symbols d h = any_then (EachOne Is) AbstractWritten (abstracts.written_in symbols) (elements d) (elements_known m two d h) (abstract_in symbols)

  abbrev SlotFrom : Slot → Type 0
  SlotFrom s = s.1.0 < m

  name_below : (f : WrittenFunction) → FunctionWritten f → name_number f < m
  name_below f h = go f.name h
    where
      go : (v : Option (Object ℕ)) → IfAny Is v → option_map_or symbol_or_nil v nil < m
      go None k = omega (arith, two)
      go (Some o) k = number_known m two o k

  export_from : (symbols : List QualifiedName) (fs : List WrittenFunction) → EachOne FunctionWritten fs → EachOne SlotFrom (flat_map (export_slots symbols) fs)
  export_from symbols [] h = tt
  export_from symbols (f ∷ fs) h = (name_below f h.0, (name_below f h.0, export_from symbols fs h.1))

  slots_from : (symbols : List QualifiedName) (a : WrittenAbstract) → AbstractWritten a → EachOne SlotFrom (slots symbols a)
  slots_from symbols a h =
      let st = number_known m two a.name h.0 in (st, (st, (st, (st, (st, (st, export_from symbols a.exports h.1))))))

  makings_from : (ss : List Slot) → EachOne SlotFrom ss → EachOne (IsFrom m) (makings ss)
  makings_from [] h = tt
  makings_from ((Some n, q) ∷ ss) h = makings_from ss h.1
  makings_from ((None, q) ∷ ss) h = (h.0, makings_from ss h.1)

  pub abstract_from : (symbols : List QualifiedName) (a : WrittenAbstract) → AbstractWritten a → EachOne (IsFrom m) (makings (slots symbols a))
  abstract_from symbols a h = makings_from (slots symbols a) (slots_from symbols a h)

-- ---- what a stobj brings

generated_known : (n : ℕ) (gs : List GeneratedFunction) → EachDefinition (KnowsDefinition n) (map Generated gs)
generated_known n [] = tt
generated_known n (g ∷ gs) = (tt, generated_known n gs)

pub entries_known : (n : ℕ) (w : World) (d : Descriptor) → KnowsFields n d.fields → EachDefinition (KnowsDefinition n) (stobj_entries w d)
entries_known n w d h = (h, generated_known n (generated_functions d))

module _ (n : ℕ) where
  mutual
    unfolding renamed_core renamed_cores

    renamed_known : (f : Core) (r : Renaming) → KnowsForm n f → KnowsForm n (renamed_core f r)
    renamed_known (Var x) r h = tt
    renamed_known (Const o) r h = h
    renamed_known (If a b c) r h = (tt, renamed_known a r h.1, renamed_known b r h.2, renamed_known c r h.3)
    renamed_known (Let names bound body) r h = (tt, all_renamed bound r h.1, renamed_known body (without_names names r) h.2)
    renamed_known (Mv parts) r h = (tt, all_renamed parts r h.1)
    renamed_known (MvLet names bound body) r h = (tt, renamed_known bound r h.1, renamed_known body (without_names names r) h.2)
    renamed_known (StobjLet names bound vars producer consumer) r h =
        (tt, all_renamed bound r h.1, renamed_known producer (without_names names r) h.2, renamed_known consumer (without_names (names ++ vars) r) h.3)
    renamed_known (WithLocal stobj names producer body) r h =
        (tt, renamed_known producer (without_names (stobj ∷ []) r) h.1, renamed_known body (without_names (stobj ∷ names) r) h.2)
    renamed_known (MustBeEqual logic exec) r h = (tt, renamed_known logic r h.1, renamed_known exec r h.2)
    renamed_known (Call f actuals) r h = (tt, all_renamed actuals r h.1)

    all_renamed : (fs : Cores) (r : Renaming) → AllNodes (HasConstant (IsBelow n)) fs → AllNodes (HasConstant (IsBelow n)) (renamed_cores fs r)
    all_renamed none r h = tt
    all_renamed (more f fs) r h = (renamed_known f r h.0, all_renamed fs r h.1)

  mutual
    unfolding with_functions all_with_functions

    elsewhere_known : (f : Core) (r : Renaming) → KnowsForm n f → KnowsForm n (with_functions f r)
    elsewhere_known (Var x) r h = tt
    elsewhere_known (Const o) r h = h
    elsewhere_known (If a b c) r h = (tt, elsewhere_known a r h.1, elsewhere_known b r h.2, elsewhere_known c r h.3)
    elsewhere_known (Let names bound body) r h = (tt, all_other bound r h.1, elsewhere_known body r h.2)
    elsewhere_known (Mv parts) r h = (tt, all_other parts r h.1)
    elsewhere_known (MvLet names bound body) r h = (tt, elsewhere_known bound r h.1, elsewhere_known body r h.2)
    elsewhere_known (StobjLet names bound vars producer consumer) r h = (tt, all_other bound r h.1, elsewhere_known producer r h.2, elsewhere_known consumer r h.3)
    elsewhere_known (WithLocal stobj names producer body) r h = (tt, elsewhere_known producer r h.1, elsewhere_known body r h.2)
    elsewhere_known (MustBeEqual logic exec) r h = (tt, elsewhere_known logic r h.1, elsewhere_known exec r h.2)
    elsewhere_known (Call f actuals) r h = (tt, all_other actuals r h.1)

    all_other : (fs : Cores) (r : Renaming) → AllNodes (HasConstant (IsBelow n)) fs → AllNodes (HasConstant (IsBelow n)) (all_with_functions fs r)
    all_other none r h = tt
    all_other (more f fs) r h = (elsewhere_known f r h.0, all_other fs r h.1)

  module _ (two : 2 ≤ n) (w : World) (known : KnowsDefinitions w n) where
    true_known : KnowsForm n true_core
    true_known = omega (arith, two)

    guard_known : (x : ℕ) (d : Option Definition) → definition w x ≡ d → KnowsForm n (guard_in w d)
    guard_known x None e = true_known
    guard_known x (Some (Primitive name row)) e = true_known
    guard_known x (Some (Defined f)) e = (known.each x (Defined f) e).0
    guard_known x (Some (Macro name formals body)) e = true_known
    guard_known x (Some (Constant name value)) e = true_known
    guard_known x (Some (Concrete d class)) e = true_known
    guard_known x (Some (Generated g)) e = true_known
    guard_known x (Some (Abstract d)) e = true_known
    guard_known x (Some (OfAbstract f)) e = true_known
    guard_known x (Some (Named name formals)) e = true_known
    guard_known x (Some (Signed name formals signature executable)) e = true_known

    exports_known : (d : AbstractDescriptor) (fs : List AbstractFunction) → EachDefinition (KnowsDefinition n) (map (export_entry w d) fs)
    exports_known d [] = tt
    exports_known d (f ∷ fs) = (elsewhere_known _ _ (renamed_known (guard_in w (definition w f.logic)) _ (guard_known f.logic (definition w f.logic) refl)), exports_known d fs)

    pub abstract_known : (d : AbstractDescriptor) → EachDefinition (KnowsDefinition n) (abstract_entries w d)
    abstract_known d = (tt, (true_known, (true_known, exports_known d d.exports)))
