-- What is said of lists, types and layouts, as laws.
use Rattle.std.specs.Prelude.{◌≡◌, ℕ, ◌<◌, List, [], ◌∷◌, map, codes, true, unwrap_or}
use Rattle.model_objects.specs.Object.{Object, Pair}
use Rattle.model_symbols.specs.Symbols.{QualifiedName, symbol_at}
use Rattle.model_symbols.specs.Opening.{opening, common_lisp, truth}
use Rattle.model_prims.specs.Kinds.{SymbolKind, by_name, by_number, nil_of, is_pair}
use Rattle.model_prims.specs.Lists.{len, cdr, element, updated}
use Rattle.model_lists.specs.Lists.{StobjList, Value, Pairs, End, Item, size, item, with_item, resized, value_at, has_key, without_key, key_count, as_object}
use Rattle.model_lists.specs.Types.{meets, atom_word, null_word, cons_word, not_word, star_word, member_word, and_word, or_word, integer_word, signed_byte_word, unsigned_byte_word, bit_word, symbol_word, string_word, boolean_word}
use Rattle.model_lists.specs.Layouts.{Layout, Scalar, Array, Hash, Children, NoField, Field, initial, recognizes}
use Rattle.model_lists.specs.Normal.{name_cmp, number_cmp, normal, normal_pairs}
use Rattle.model_lists.specs.Listed.{listed, printed}
use Rattle.model_lists.specs.Logical.{with_length, pair_with, without_pairs, keys_in}

-- the normal list of a normal list is itself, and a key has its value there
pub record IsNormal : Type 0 where
  pub named : (l : StobjList QualifiedName) → normal name_cmp (normal name_cmp l) ≡ normal name_cmp l
  pub numbered : (symbols : List QualifiedName) (l : StobjList ℕ) → normal (number_cmp symbols) (normal (number_cmp symbols) l) ≡ normal (number_cmp symbols) l
  pub values : (key : Object QualifiedName) (ps : List (Object QualifiedName × Object QualifiedName)) → value_at by_name key (normal_pairs name_cmp ps) ≡ value_at by_name key ps

-- items before an end
abbrev pub AreItems : {S : Type 0} → StobjList S → Type 0
AreItems (Value o) = ⊥
AreItems (Pairs ps) = ⊥
AreItems End = Unit {0}
AreItems (Item first rest) = AreItems rest

-- what is done to a list is done to the ordinary object that it is in the logic
pub record IsLogical {S : Type 0} (k : SymbolKind S) : Type 0 where
  pub access : (n : ℕ) (l : StobjList S) → AreItems l → as_object k (item n l) ≡ element k n (as_object k l)
  pub update : (n : ℕ) (x l : StobjList S) → n < size l → as_object k (with_item n x l) ≡ updated k n (as_object k x) (as_object k l)
  pub length : (l : StobjList S) → AreItems l → len (as_object k l) ≡ size l
  pub resize : (n : ℕ) (x l : StobjList S) → AreItems l → as_object k (resized n x l) ≡ with_length k n (as_object k x) (as_object k l)
  pub value : (key : Object S) (ps : List (Object S × Object S)) → cdr k (pair_with k key (as_object k (Pairs ps))) ≡ unwrap_or (value_at k key ps) (nil_of k)
  pub bound : (key : Object S) (ps : List (Object S × Object S)) → is_pair (pair_with k key (as_object k (Pairs ps))) ≡ has_key k key ps
  pub put : (key value : Object S) (ps : List (Object S × Object S)) → as_object k (Pairs ((key, value) ∷ ps)) ≡ Pair (Pair key value) (as_object k (Pairs ps))
  pub remove : (key : Object S) (ps : List (Object S × Object S)) → as_object k (Pairs (without_key k key ps)) ≡ without_pairs k key (as_object k (Pairs ps))
  pub count : (ps : List (Object S × Object S)) → keys_in k (as_object k (Pairs ps)) ≡ key_count k ps

-- what is printed of the shape of a list is the ordinary object that the list is
pub record IsListed {S : Type 0} (k : SymbolKind S) : Type 0 where
  pub object : (l : StobjList S) → printed k (listed l) ≡ as_object k l

-- each initial value meets its type
abbrev pub HasInitials : {S : Type 0} → SymbolKind S → Layout S → Type 0
HasInitials k (Scalar t o) = meets k t o ≡ true
HasInitials k (Array t o n resizable) = meets k t o ≡ true
HasInitials k (Hash test) = Unit {0}
HasInitials k (Children n child) = HasInitials k child
HasInitials k NoField = Unit {0}
HasInitials k (Field first others) = HasInitials k first × HasInitials k others

-- a new stobj meets its recognizer
pub record IsRecognized : Type 0 where
  pub named : (l : Layout QualifiedName) → HasInitials by_name l → recognizes by_name l (as_object by_name (initial l)) ≡ true
  pub numbered : (l : Layout ℕ) → HasInitials by_number l → recognizes by_number l (as_object by_number (initial l)) ≡ true

-- a symbol of `COMMON-LISP`
abbrev pub lisp_symbol : List ℕ → QualifiedName
lisp_symbol name = record { home = common_lisp; name = name }

-- the words that types are written with have the numbers that they are taken to have
pub record AreTypeWords : Type 0 where
  pub words : map (symbol_at opening.symbols)
      (truth ∷ cons_word ∷ atom_word ∷ null_word ∷ not_word ∷ star_word ∷ member_word ∷ and_word ∷ or_word ∷ integer_word ∷ signed_byte_word ∷ unsigned_byte_word ∷ bit_word ∷ symbol_word ∷ string_word ∷ boolean_word ∷ [])
      ≡ map lisp_symbol
      (codes "T" ∷ codes "CONS" ∷ codes "ATOM" ∷ codes "NULL" ∷ codes "NOT" ∷ codes "*" ∷ codes "MEMBER" ∷ codes "AND" ∷ codes "OR" ∷ codes "INTEGER" ∷ codes "SIGNED-BYTE" ∷ codes "UNSIGNED-BYTE" ∷ codes "BIT" ∷ codes "SYMBOL" ∷ codes "STRING" ∷ codes "BOOLEAN" ∷ [])
