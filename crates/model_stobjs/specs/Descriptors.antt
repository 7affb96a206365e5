-- Reading the definition of a concrete stobj (ACL2's manual, topic DEFSTOBJ).
use Rattle.std.specs.Prelude.{ℕ, zero, suc, ◌+◌, ◌-◌, List, [], ◌∷◌, ◌++◌, map, length, take, drop, max, pos, Bool, true, false, not, ◌&&◌, ◌||◌, nat_eq, nat_le, Option, Some, None, option_map, option_and_then, is_some, unwrap_or, codes, if◌then◌else◌}
use Rattle.std.specs.Option.{option_or, option_map_or}
use Rattle.std.specs.List.{find, flat_map}
use Rattle.acl_base.specs.declared.layout.Test.{Test}
use Rattle.acl_base.specs.declared.layout.Test.TheVariants.{Eq, Eql, Equal}
use Rattle.model_objects.specs.Object.{Object, Integer, Symbol, Text, Pair}
use Rattle.model_symbols.specs.Symbols.{QualifiedName, Package, symbol_at, symbol_in, same_name, interned, is_one_too_many}
use Rattle.model_symbols.specs.Opening.{truth, nil}
use Rattle.model_prims.specs.Kinds.{by_number, same_object}
use Rattle.model_prims.specs.Applied.{package_called, number_then}
use Rattle.model_lists.specs.Types.{ValueType, meets}
use Rattle.model_terms.specs.Worlds.{World, Shape, Scalar, Array, Hash, Child, Children, Field, Descriptor, Definition, Constant, definition}
use Rattle.model_terms.specs.Accessors.{descriptor_of}
use Rattle.model_expansion.specs.Words.{array_word, hash_table_word, eq_word, eql_word, equal_word, defstobj_word}
use Rattle.model_expansion.specs.Forms.{elements, each, each_of, is, symbol, symbol_name, home_of, is_keyword_object, symbol_or_nil}
use Rattle.model_expansion.specs.TypeTerms.{accepted_type}
use Rattle.model_expansion.specs.Faults.{Refusal, BadShape, Expand, BadType, BadInitial, SymbolLimit, CongruenceMismatch}
use Rattle.model_expansion.specs.Expansion.{Progress}
use Rattle.model_stobjs.specs.Answers.{EventResult, Grants, Refuses, unless, needing, then_grant, first_given}
use Rattle.model_stobjs.specs.Heads.{name_in_use, bad_name}
use Rattle.model_stobjs.specs.Keys.{Keyed, key_value, keys_in}
use Rattle.model_lists.specs.Effects.{most_elements}
use Rattle.model_eval.specs.StobjLayouts.{most_nested}

-- ---- as it is written

pub record WrittenField : Type 0 where
  pub name : ℕ
  pub type : Object ℕ
  pub initial : Option (Object ℕ)
  pub resizable : Bool

pub record WrittenStobj : Type 0 where
  pub name : Object ℕ
  pub fields : List WrittenField
  pub renaming : List (ℕ × ℕ)  -- a made name, and the one that stands for it
  pub congruent_to : Option ℕ

-- `T` or `NIL`
abbrev pub flag : Object ℕ → Option Bool
flag o = if is truth o then Some true else (if is nil o then Some false else None)

abbrev pub flag_or_false : Option (Object ℕ) → Option Bool
flag_or_false None = Some false
flag_or_false (Some o) = flag o

-- the elements before the first that a test finds, and that with the others
abbrev pub before_first : {A : Type 0} → (A → Bool) → List A → List A
before_first f [] = []
before_first f (x ∷ xs) = if f x then [] else x ∷ before_first f xs

abbrev pub from_first : {A : Type 0} → (A → Bool) → List A → List A
from_first f xs = drop (length (before_first f xs)) xs

abbrev pub two_symbols : List (Object ℕ) → Option (ℕ × ℕ)
two_symbols (a ∷ (b ∷ [])) = option_and_then (λ x. option_map (λ y. (x, y)) (symbol b)) (symbol a)
two_symbols os = None

abbrev pub renaming_of : Option (Object ℕ) → Option (List (ℕ × ℕ))
renaming_of None = Some []
renaming_of (Some o) = each_of (λ p. option_and_then two_symbols (elements p)) o

-- what `:non-executable` may be
abbrev pub is_executable_flag : Option (Object ℕ) → Bool
is_executable_flag None = true
is_executable_flag (Some o) = is nil o

abbrev pub field_keys : List (List ℕ)
field_keys = codes "TYPE" ∷ codes "INITIALLY" ∷ codes "RESIZABLE" ∷ []

abbrev pub stobj_keys : List (List ℕ)
stobj_keys = codes "RENAMING" ∷ codes "INLINE" ∷ codes "NON-MEMOIZABLE" ∷ codes "NON-EXECUTABLE" ∷ codes "CONGRUENT-TO" ∷ []

abbrev pub written_field_of : ℕ → List Keyed → Option WrittenField
written_field_of s ks =
    option_map (λ resizable. record {
      name = s;
      type = unwrap_or (key_value (codes "TYPE") ks) (Symbol truth);
      initial = key_value (codes "INITIALLY") ks;
      resizable = resizable;
    }) (flag_or_false (key_value (codes "RESIZABLE") ks))

abbrev pub written_field_in : List QualifiedName → List (Object ℕ) → Option WrittenField
written_field_in symbols (Symbol s ∷ os) = option_and_then (written_field_of s) (keys_in symbols field_keys os)
written_field_in symbols os = None

-- a symbol, or a list of a symbol and options
abbrev pub written_field : List QualifiedName → Object ℕ → Option WrittenField
written_field symbols (Integer n) = None
written_field symbols (Symbol s) = written_field_of s []
written_field symbols (Text bytes) = None
written_field symbols (Pair a d) = option_and_then (written_field_in symbols) (elements (Pair a d))

-- the stobj that `:congruent-to` names, which is a concrete one
abbrev pub old_stobj : World → Option (Object ℕ) → Option (Option ℕ)
old_stobj w None = Some None
old_stobj w (Some (Symbol s)) = if is_some (descriptor_of w s) then Some (Some s) else None
old_stobj w (Some o) = None

abbrev pub written_with : World → Object ℕ → List WrittenField → List Keyed → Option WrittenStobj
written_with w name fields ks =
    if is_executable_flag (key_value (codes "NON-EXECUTABLE") ks)
    then option_and_then (λ renaming. option_map (λ old. record { name = name; fields = fields; renaming = renaming; congruent_to = old })
    (old_stobj w (key_value (codes "CONGRUENT-TO") ks))) (renaming_of (key_value (codes "RENAMING") ks))
    else None

-- a name, fields, and from the first keyword on options
abbrev pub written_in : World → List QualifiedName → List (Object ℕ) → Option WrittenStobj
written_in w symbols [] = None
written_in w symbols (name ∷ os) =
    option_and_then (λ fields. option_and_then (written_with w name fields) (keys_in symbols stobj_keys (from_first (is_keyword_object symbols) os)))
    (each (written_field symbols) (before_first (is_keyword_object symbols) os))

-- what stands behind the head
unfoldable pub written_stobj : World → List QualifiedName → Object ℕ → Option WrittenStobj
written_stobj w symbols d = option_and_then (written_in w symbols) (elements d)

-- ---- names

abbrev pub names_tested : WrittenStobj → List (Object ℕ)
names_tested o = o.name ∷ (map (λ (f : WrittenField). Symbol f.name) o.fields ++ map (λ (p : ℕ × ℕ). Symbol p.1) o.renaming)

-- ---- types and initial values

abbrev pub most_children : ℕ
most_children = 65536

abbrev pub most_of : List ℕ → ℕ
most_of [] = 0
most_of (n ∷ ns) = max n (most_of ns)

abbrev pub held_stobj : Shape → Option ℕ
held_stobj (Scalar written initial) = None
held_stobj (Array written initial length resizable) = None
held_stobj (Hash test) = None
held_stobj (Child stobj) = Some stobj
held_stobj (Children stobj length) = Some stobj

abbrev pub field_nesting : (ℕ → ℕ) → Field → ℕ
field_nesting nesting f = option_map_or nesting (held_stobj f.shape) 0

abbrev pub nesting_by : (ℕ → ℕ) → Option Descriptor → ℕ
nesting_by nesting None = 0
nesting_by nesting (Some d) = most_of (map (field_nesting nesting) d.fields) + 1

-- how deep a stobj nests others, itself counted
unfoldable pub nesting_within : World → ℕ → ℕ → ℕ
nesting_within w zero x = 0
nesting_within w (suc n) x = nesting_by (nesting_within w n) (descriptor_of w x)

-- the length of an array: a natural number, or the name of a constant that is one
abbrev pub natural_in : Object ℕ → Option ℕ
natural_in (Integer (pos n)) = Some n
natural_in o = None

abbrev pub constant_in : Option Definition → Option (Object ℕ)
constant_in (Some (Constant name value)) = Some value
constant_in d = None

abbrev pub length_of : World → Object ℕ → Option ℕ
length_of w (Symbol s) = option_and_then natural_in (constant_in (definition w s))
length_of w o = natural_in o

abbrev pub length_in : World → List (Object ℕ) → Option ℕ
length_in w (n ∷ []) = length_of w n
length_in w os = None

abbrev pub up_to : ℕ → ℕ → Option ℕ
up_to most n = if nat_le n most then Some n else None

abbrev pub test_of_word : Object ℕ → Option Test
test_of_word o = if is eq_word o then Some Eq else (if is eql_word o then Some Eql else (if is equal_word o then Some Equal else None))

module _ (w : World) (f : WrittenField) where
  abbrev pub initial_value : Object ℕ
  initial_value = unwrap_or f.initial (Symbol nil)

  abbrev pub unless_resizable : Option Shape → Option Shape
  unless_resizable s = if f.resizable then None else s

  -- a stobj that may be nested one deeper
  abbrev pub nested_stobj : Object ℕ → Option ℕ
  nested_stobj (Symbol s) = if is_some (descriptor_of w s) && nat_le (nesting_within w most_nested s + 1) most_nested then Some s else None
  nested_stobj o = None

  abbrev pub array_shape : Object ℕ → Option (ValueType ℕ) → Option ℕ → Option Shape
  array_shape t (Some accepted) n = option_map (λ n. Array t initial_value n f.resizable) (option_and_then (up_to most_elements) n)
  array_shape t None n =
      unless_resizable (option_and_then (λ stobj. option_map (λ n. Children stobj n) (option_and_then (up_to most_children) n)) (nested_stobj t))

  abbrev pub hash_shape : Object ℕ → Option Shape
  hash_shape t = unless_resizable (option_map (λ test. Hash test) (test_of_word t))

  abbrev pub listed_shape : List (Object ℕ) → Option Shape
  listed_shape (h ∷ (t ∷ [])) = if is hash_table_word h then hash_shape t else None
  listed_shape (h ∷ (t ∷ (n ∷ []))) =
      if is hash_table_word h then hash_shape t
      else (if is array_word h then array_shape t (accepted_type t) (option_and_then (length_in w) (elements n)) else None)
  listed_shape os = None

  abbrev pub other_shape : Object ℕ → Option Shape
  other_shape (Integer n) = None
  other_shape (Symbol s) = unless_resizable (option_map Child (nested_stobj (Symbol s)))
  other_shape (Text bytes) = None
  other_shape (Pair a d) = option_and_then listed_shape (elements (Pair a d))

  abbrev pub scalar_or_other : Option (ValueType ℕ) → Option Shape
  scalar_or_other (Some accepted) = unless_resizable (Some (Scalar f.type initial_value))
  scalar_or_other None = other_shape f.type

  -- the shape of a field; None where its type is not accepted
  unfoldable pub shape_of : Option Shape
  shape_of = scalar_or_other (accepted_type f.type)

  abbrev pub bad_type : Option Refusal
  bad_type = if is_some shape_of then None else Some (BadType f.name)

  abbrev pub meets_written : Object ℕ → Object ℕ → Bool
  meets_written t o = option_map_or (λ (v : ValueType ℕ). meets by_number v o) (accepted_type t) false

  -- whether the initial value meets the type; a hash field and children have none
  abbrev pub has_good_initial : Shape → Bool
  has_good_initial (Scalar t o) = meets_written t o
  has_good_initial (Array t o n resizable) = meets_written t o
  has_good_initial (Hash test) = not (is_some f.initial)
  has_good_initial (Child stobj) = not (is_some f.initial)
  has_good_initial (Children stobj n) = not (is_some f.initial)

  abbrev pub bad_initial : Option Refusal
  bad_initial = if option_map_or has_good_initial shape_of true then None else Some (BadInitial f.name)

-- ---- made names

-- the names of the functions of a field, the recognizer first
abbrev pub field_texts : List ℕ → Shape → List (List ℕ)
field_texts f (Scalar t o) = (f ++ codes "P") ∷ f ∷ (codes "UPDATE-" ++ f) ∷ []
field_texts f (Array t o n resizable) = (f ++ codes "P") ∷ (f ++ codes "-LENGTH") ∷ (codes "RESIZE-" ++ f) ∷ (f ++ codes "I") ∷ (codes "UPDATE-" ++ (f ++ codes "I")) ∷ []
field_texts f (Hash test) =
    (f ++ codes "P") ∷ (f ++ codes "-GET") ∷ (f ++ codes "-BOUNDP") ∷ (f ++ codes "-GET?") ∷ (f ++ codes "-PUT") ∷ (f ++ codes "-REM")
    ∷ (f ++ codes "-COUNT") ∷ (f ++ codes "-CLEAR") ∷ []
field_texts f (Child stobj) = (f ++ codes "P") ∷ f ∷ (codes "UPDATE-" ++ f) ∷ []
field_texts f (Children stobj n) = (f ++ codes "P") ∷ (f ++ codes "-LENGTH") ∷ (codes "RESIZE-" ++ f) ∷ (f ++ codes "I") ∷ (codes "UPDATE-" ++ (f ++ codes "I")) ∷ []

-- a text, and the symbol in whose package a name of it is made
abbrev pub Making : Type 0
Making = ℕ × List ℕ

-- the names that were made, the symbols that are then known, and whether there was room for all
pub record MadeNames : Type 0 where
  pub numbers : List ℕ
  pub symbols : List QualifiedName
  pub have_room : Bool

abbrev pub with_number : ℕ → MadeNames → MadeNames
with_number n m = record { numbers = n ∷ m.numbers; symbols = m.symbols; have_room = m.have_room }

module _ (packages : List Package) (renaming : List (ℕ × ℕ)) where
  -- the symbol that a name of this text would be
  abbrev pub symbol_beside : List QualifiedName → Making → QualifiedName
  symbol_beside symbols m = symbol_in (package_called packages (home_of symbols m.0)) m.1

  abbrev pub new_name : List QualifiedName → QualifiedName → Option ℕ
  new_name symbols q = option_map (λ (p : ℕ × ℕ). p.1) (find (λ (p : ℕ × ℕ). same_name (symbol_at symbols p.0) q) renaming)

  abbrev pub name_made : Option ℕ → List QualifiedName → QualifiedName → (List QualifiedName → MadeNames) → MadeNames
  name_made (Some n) symbols q go = with_number n (go symbols)
  name_made None symbols q go =
      if is_one_too_many symbols q then record { numbers = []; symbols = symbols; have_room = false }
      else with_number (number_then symbols q) (go (interned symbols q))

  -- names made one after another; one that is renamed is not made
  unfoldable pub names_made : List Making → List QualifiedName → MadeNames
  names_made [] symbols = record { numbers = []; symbols = symbols; have_room = true }
  names_made (m ∷ ms) symbols = let q = symbol_beside symbols m in name_made (new_name symbols q) symbols q (names_made ms)

-- ---- descriptors

abbrev pub ShapedField : Type 0
ShapedField = ℕ × Shape

abbrev pub shaped_fields : World → List WrittenField → List ShapedField
shaped_fields w [] = []
shaped_fields w (f ∷ fs) = option_map_or (λ s. (f.name, s) ∷ shaped_fields w fs) (shape_of w f) (shaped_fields w fs)

abbrev pub field_makings : List QualifiedName → List ShapedField → List Making
field_makings symbols fs = flat_map (λ (f : ShapedField). map (λ text. (f.0, text)) (field_texts (symbol_name symbols f.0) f.1)) fs

abbrev pub stobj_makings : List QualifiedName → ℕ → List ShapedField → List Making
stobj_makings symbols s fs = (s, symbol_name symbols s ++ codes "P") ∷ (s, codes "CREATE-" ++ symbol_name symbols s) ∷ field_makings symbols fs

-- how many functions a field has
abbrev pub made_count : Shape → ℕ
made_count s = length (field_texts [] s)

abbrev pub fields_with : List ShapedField → List ℕ → List Field
fields_with [] numbers = []
fields_with (f ∷ fs) numbers =
    record { name = f.0; shape = f.1; made = take (made_count f.1) numbers } ∷ fields_with fs (drop (made_count f.1) numbers)

abbrev pub number_at : List ℕ → ℕ → ℕ
number_at [] i = nil
number_at (n ∷ ns) zero = n
number_at (n ∷ ns) (suc i) = number_at ns i

abbrev pub descriptor_with : WrittenStobj → List ShapedField → List ℕ → Descriptor
descriptor_with o fs numbers = record {
  name = symbol_or_nil o.name;
  recognizer = number_at numbers 0;
  creator = number_at numbers 1;
  fields = fields_with fs (drop 2 numbers);
  congruent_to = o.congruent_to;
}

-- ---- congruence

abbrev pub same_test : Test → Test → Bool
same_test Eq Eq = true
same_test Eql Eql = true
same_test Equal Equal = true
same_test a b = false

abbrev pub same_flag : Bool → Bool → Bool
same_flag true b = b
same_flag false b = not b

-- equal types as they were written, equal initial values and flags; of children the same stobj
abbrev pub same_shape : Shape → Shape → Bool
same_shape (Scalar t o) (Scalar u p) = same_object by_number t u && same_object by_number o p
same_shape (Array t o m r) (Array u p n s) = same_object by_number t u && (same_object by_number o p && (nat_eq m n && same_flag r s))
same_shape (Hash a) (Hash b) = same_test a b
same_shape (Child x) (Child y) = nat_eq x y
same_shape (Children x m) (Children y n) = nat_eq x y && nat_eq m n
same_shape s t = false

-- the first place at which the fields differ, counted from this one
abbrev pub mismatch_from : ℕ → List Field → List Field → Option ℕ
mismatch_from i [] [] = None
mismatch_from i [] (g ∷ gs) = Some i
mismatch_from i (f ∷ fs) [] = Some i
mismatch_from i (f ∷ fs) (g ∷ gs) = if same_shape f.shape g.shape then mismatch_from (i + 1) fs gs else Some i

abbrev pub mismatch : World → Descriptor → Option Refusal
mismatch w d =
    option_map CongruenceMismatch (option_and_then (λ old. option_and_then (λ (e : Descriptor). mismatch_from 0 e.fields d.fields) (descriptor_of w old)) d.congruent_to)

-- ---- all in order

abbrev pub room_for : MadeNames → Option Refusal
room_for m = if m.have_room then None else Some SymbolLimit

abbrev pub names_of_field : Field → List ℕ
names_of_field f = f.made

-- the names that a stobj brings
abbrev pub new_names : Descriptor → List ℕ
new_names d = d.name ∷ d.recognizer ∷ d.creator ∷ flat_map names_of_field d.fields

abbrev pub named_descriptor : World → Descriptor → Progress → EventResult Descriptor
named_descriptor w d p = unless (option_or (name_in_use w (new_names d)) (mismatch w d)) (Grants d) p

abbrev pub descriptor_made : World → WrittenStobj → List ShapedField → MadeNames → Progress → EventResult Descriptor
descriptor_made w o fs m p = unless (room_for m) (named_descriptor w (descriptor_with o fs m.numbers)) (record p { symbols = m.symbols })

abbrev pub names_then : World → List Package → WrittenStobj → List ShapedField → Progress → EventResult Descriptor
names_then w packages o fs p =
    descriptor_made w o fs (names_made packages o.renaming (stobj_makings p.symbols (symbol_or_nil o.name) fs) p.symbols) p

abbrev pub written_then : World → List Package → WrittenStobj → Progress → EventResult Descriptor
written_then w packages o p =
    unless (option_or (bad_name p.symbols (names_tested o)) (option_or (first_given (bad_type w) o.fields) (first_given (bad_initial w) o.fields)))
    (names_then w packages o (shaped_fields w o.fields)) p

-- the descriptor of what stands behind the head `DEFSTOBJ`
unfoldable pub descriptor_read : World → List Package → Object ℕ → Progress → EventResult Descriptor
descriptor_read w packages d p = needing (written_stobj w p.symbols d) (Expand (BadShape defstobj_word)) (written_then w packages) p
