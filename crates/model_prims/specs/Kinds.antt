-- What the primitives need to know of symbols, and what is said of objects over them (ACL2's manual, topic EQUAL).
use Rattle.std.specs.Prelude.{ℕ, pos, negsuc, Bool, true, false, nat_eq, not, ◌&&◌, ◌||◌, if◌then◌else◌}
use Rattle.std.specs.Ordering.{int_eq}
use Rattle.std.specs.Str.{bytes_eq}
use Rattle.model_objects.specs.Object.{Object, Integer, Symbol, Text, Pair}
use Rattle.model_symbols.specs.Symbols.{QualifiedName, same_name}
use Rattle.model_symbols.specs.Opening.{truth, nil, truth_name, nil_name}

-- a kind of symbols: when two are the same, and which are `T` and `NIL`
pub record SymbolKind (S : Type 0) : Type 0 where
  pub same : S → S → Bool
  pub truth : S
  pub nil : S

-- symbols by their numbers
abbrev pub by_number : SymbolKind ℕ
by_number = record { same = nat_eq; truth = truth; nil = nil }

-- symbols by their names
abbrev pub by_name : SymbolKind QualifiedName
by_name = record { same = same_name; truth = truth_name; nil = nil_name }

-- ---- kinds of objects

abbrev pub is_integer : {S : Type 0} → Object S → Bool
is_integer (Integer n) = true
is_integer (Symbol s) = false
is_integer (Text bytes) = false
is_integer (Pair a d) = false

abbrev pub is_symbol : {S : Type 0} → Object S → Bool
is_symbol (Integer n) = false
is_symbol (Symbol s) = true
is_symbol (Text bytes) = false
is_symbol (Pair a d) = false

abbrev pub is_string : {S : Type 0} → Object S → Bool
is_string (Integer n) = false
is_string (Symbol s) = false
is_string (Text bytes) = true
is_string (Pair a d) = false

abbrev pub is_pair : {S : Type 0} → Object S → Bool
is_pair (Integer n) = false
is_pair (Symbol s) = false
is_pair (Text bytes) = false
is_pair (Pair a d) = true

-- an integer that is not below 0
abbrev pub is_natural : {S : Type 0} → Object S → Bool
is_natural (Integer (pos n)) = true
is_natural (Integer (negsuc n)) = false
is_natural (Symbol s) = false
is_natural (Text bytes) = false
is_natural (Pair a d) = false

-- an integer above 0
abbrev pub is_positive : {S : Type 0} → Object S → Bool
is_positive (Integer (pos n)) = not (nat_eq n 0)
is_positive (Integer (negsuc n)) = false
is_positive (Symbol s) = false
is_positive (Text bytes) = false
is_positive (Pair a d) = false

-- ---- objects over a kind of symbols

module _ {S : Type 0} (k : SymbolKind S) where
  abbrev pub nil_of : Object S
  nil_of = Symbol k.nil

  -- a truth value
  abbrev pub truth_of : Bool → Object S
  truth_of b = Symbol (if b then k.truth else k.nil)

  -- whether the object is this symbol
  abbrev pub is_the_symbol : S → Object S → Bool
  is_the_symbol t (Integer n) = false
  is_the_symbol t (Symbol s) = k.same s t
  is_the_symbol t (Text bytes) = false
  is_the_symbol t (Pair a d) = false

  abbrev pub is_nil : Object S → Bool
  is_nil o = is_the_symbol k.nil o

  -- `T` or `NIL`
  abbrev pub is_boolean : Object S → Bool
  is_boolean o = is_the_symbol k.truth o || is_nil o

  -- equality
  abbrev pub same_object : Object S → Object S → Bool
  same_object (Integer m) (Integer n) = int_eq m n
  same_object (Integer m) (Symbol t) = false
  same_object (Integer m) (Text b) = false
  same_object (Integer m) (Pair b e) = false
  same_object (Symbol s) (Integer n) = false
  same_object (Symbol s) (Symbol t) = k.same s t
  same_object (Symbol s) (Text b) = false
  same_object (Symbol s) (Pair b e) = false
  same_object (Text a) (Integer n) = false
  same_object (Text a) (Symbol t) = false
  same_object (Text a) (Text b) = bytes_eq a b
  same_object (Text a) (Pair b e) = false
  same_object (Pair a d) (Integer n) = false
  same_object (Pair a d) (Symbol t) = false
  same_object (Pair a d) (Text b) = false
  same_object (Pair a d) (Pair b e) = same_object a b && same_object d e
