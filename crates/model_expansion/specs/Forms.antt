-- Parts of forms (ACL2's manual, topic TERM).
use Rattle.std.specs.Prelude.{unwrap_or, ℕ, List, [], ◌∷◌, length, Bool, true, false, ◌&&◌, ◌||◌, not, ◌==◌, Option, Some, None, nat_eq, nat_le, slice_index, option_map, option_and_then, if◌then◌else◌}
use Rattle.std.specs.List.{last_or, list_any}
use Rattle.std.specs.Str.{bytes_eq}
use Rattle.model_objects.specs.Object.{Object, Integer, Symbol, Text, Pair, list_onto}
use Rattle.model_symbols.specs.Symbols.{QualifiedName, symbol_at}
use Rattle.model_symbols.specs.Opening.{nil, truth, keyword, hidden, common_lisp}
use Rattle.model_expansion.specs.Words.{hidden_variable_word}
use Rattle.model_terms.specs.Classes.{has}

-- ---- lists

-- the elements of a true list
abbrev pub elements : Object ℕ → Option (List (Object ℕ))
elements (Integer n) = None
elements (Symbol s) = if nat_eq s nil then Some [] else None
elements (Text bytes) = None
elements (Pair a d) = option_map (λ os. a ∷ os) (elements d)

abbrev pub list : List (Object ℕ) → Object ℕ
list os = list_onto os (Symbol nil)

-- what a function gives for each, where it gives something for all
abbrev pub each : {A B : Type 0} → (A → Option B) → List A → Option (List B)
each f [] = Some []
each f (x ∷ xs) = option_and_then (λ y. option_map (λ ys. y ∷ ys) (each f xs)) (f x)

-- what a function gives for each element of a true list
abbrev pub each_of : {B : Type 0} → (Object ℕ → Option B) → Object ℕ → Option (List B)
each_of f o = option_and_then (each f) (elements o)

-- ---- symbols

abbrev pub symbol : Object ℕ → Option ℕ
symbol (Integer n) = None
symbol (Symbol s) = Some s
symbol (Text bytes) = None
symbol (Pair a d) = None

-- the symbol that the object is, NIL where it is none
abbrev pub symbol_or_nil : Object ℕ → ℕ
symbol_or_nil o = unwrap_or (symbol o) nil

-- the object is this symbol
abbrev pub is : ℕ → Object ℕ → Bool
is s (Integer n) = false
is s (Symbol t) = nat_eq s t
is s (Text bytes) = false
is s (Pair a d) = false

abbrev pub text : Object ℕ → Option (List ℕ)
text (Integer n) = None
text (Symbol s) = None
text (Text bytes) = Some bytes
text (Pair a d) = None

-- the car of a pair is this symbol
abbrev pub has_head : ℕ → Object ℕ → Bool
has_head s (Integer n) = false
has_head s (Symbol t) = false
has_head s (Text bytes) = false
has_head s (Pair a d) = is s a

-- no symbol stands twice
abbrev pub are_different : List ℕ → Bool
are_different [] = true
are_different (x ∷ xs) = not (has xs x) && are_different xs

-- ---- names, given the symbols that are known

module _ (symbols : List QualifiedName) where
  abbrev pub symbol_name : ℕ → List ℕ
  symbol_name s = (symbol_at symbols s).name

  abbrev pub home_of : ℕ → List ℕ
  home_of s = (symbol_at symbols s).home

  abbrev pub is_keyword : ℕ → Bool
  is_keyword s = bytes_eq (home_of s) keyword

  abbrev pub is_keyword_object : Object ℕ → Bool
  is_keyword_object (Integer n) = false
  is_keyword_object (Symbol s) = is_keyword s
  is_keyword_object (Text bytes) = false
  is_keyword_object (Pair a d) = false

  -- the object is the keyword of this name
  abbrev pub is_key : List ℕ → Object ℕ → Bool
  is_key name (Integer n) = false
  is_key name (Symbol s) = is_keyword s && bytes_eq (symbol_name s) name
  is_key name (Text bytes) = false
  is_key name (Pair a d) = false

  -- at least three bytes, a star first and last
  abbrev pub has_stars : ℕ → Bool
  has_stars s = let name = symbol_name s in nat_le 3 (length name) && ((slice_index name 0 == 42) && (last_byte name == 42)) where
    last_byte : List ℕ → ℕ
    last_byte [] = 0
    last_byte (b ∷ []) = b
    last_byte (b ∷ (c ∷ bs)) = last_byte (c ∷ bs)

  -- the hidden package has one symbol that may be bound
  abbrev pub is_out_of_sight : ℕ → Bool
  is_out_of_sight s = bytes_eq (home_of s) hidden && not (nat_eq s hidden_variable_word)

  -- a symbol that a form may bind as a variable
  abbrev pub may_be_variable : ℕ → Bool
  may_be_variable s =
      not (is_keyword s)
      && (not (nat_eq s truth || nat_eq s nil) && (not (is_out_of_sight s) && (not (slice_index (symbol_name s) 0 == 38) && not (has_stars s))))

  abbrev pub variable_name : Object ℕ → Option ℕ
  variable_name (Integer n) = None
  variable_name (Symbol s) = if may_be_variable s then Some s else None
  variable_name (Text bytes) = None
  variable_name (Pair a d) = None

  -- a symbol that may name a function, a macro or an object
  abbrev pub may_be_defined : ℕ → Bool
  may_be_defined s = not (bytes_eq (home_of s) common_lisp || (is_keyword s || (bytes_eq (home_of s) hidden || has_stars s)))

  -- `T`, `NIL` or a keyword
  abbrev pub is_self_evaluating : ℕ → Bool
  is_self_evaluating s = nat_eq s truth || (nat_eq s nil || is_keyword s)
