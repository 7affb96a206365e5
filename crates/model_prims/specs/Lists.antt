-- What the primitives find in lists, and make of them (ACL2's manual, topics NTH, MEMBER, ASSOC, APPEND).
use Rattle.std.specs.Prelude.{ℕ, ◌+◌, ◌-◌, length, replicate, Bool, false, ◌&&◌, nat_eq, if◌then◌else◌}
use Rattle.model_objects.specs.Object.{Object, Integer, Symbol, Text, Pair, list_onto}
use Rattle.model_prims.specs.Kinds.{SymbolKind, nil_of, is_pair, same_object}

-- the pairs along the list
abbrev pub len : {S : Type 0} → Object S → ℕ
len (Integer n) = 0
len (Symbol s) = 0
len (Text bytes) = 0
len (Pair a d) = len d + 1

-- the bytes of a string, else the pairs along the list
abbrev pub size_of : {S : Type 0} → Object S → ℕ
size_of (Integer n) = 0
size_of (Symbol s) = 0
size_of (Text bytes) = length bytes
size_of (Pair a d) = len (Pair a d)

-- elements of the first in front of the second
abbrev pub appended : {S : Type 0} → Object S → Object S → Object S
appended (Integer n) y = y
appended (Symbol s) y = y
appended (Text bytes) y = y
appended (Pair a d) y = Pair a (appended d y)

-- elements of the first, the last of them first, in front of the second
abbrev pub revappended : {S : Type 0} → Object S → Object S → Object S
revappended (Integer n) y = y
revappended (Symbol s) y = y
revappended (Text bytes) y = y
revappended (Pair a d) y = revappended d (Pair a y)

module _ {S : Type 0} (k : SymbolKind S) where
  abbrev pub car : Object S → Object S
  car (Integer n) = nil_of k
  car (Symbol s) = nil_of k
  car (Text bytes) = nil_of k
  car (Pair a d) = a

  abbrev pub cdr : Object S → Object S
  cdr (Integer n) = nil_of k
  cdr (Symbol s) = nil_of k
  cdr (Text bytes) = nil_of k
  cdr (Pair a d) = d

  -- a list that ends in `NIL`
  abbrev pub is_true_list : Object S → Bool
  is_true_list (Integer n) = false
  is_true_list (Symbol s) = k.same s k.nil
  is_true_list (Text bytes) = false
  is_true_list (Pair a d) = is_true_list d

  -- a true list of pairs
  abbrev pub is_alist : Object S → Bool
  is_alist (Integer n) = false
  is_alist (Symbol s) = k.same s k.nil
  is_alist (Text bytes) = false
  is_alist (Pair a d) = is_pair a && is_alist d

  -- the element of this number; `NIL` past the end
  abbrev pub element : ℕ → Object S → Object S
  element n (Integer m) = nil_of k
  element n (Symbol s) = nil_of k
  element n (Text bytes) = nil_of k
  element n (Pair a d) = if nat_eq n 0 then a else element (n - 1) d

  -- this many times `NIL`, and then the object
  abbrev pub padded : ℕ → Object S → Object S
  padded n o = list_onto (replicate n (nil_of k)) (Pair o (nil_of k))

  -- the list with another element of this number, and with `NIL` for what there is not
  abbrev pub updated : ℕ → Object S → Object S → Object S
  updated n o (Integer m) = padded n o
  updated n o (Symbol s) = padded n o
  updated n o (Text bytes) = padded n o
  updated n o (Pair a d) = if nat_eq n 0 then Pair o d else Pair a (updated (n - 1) o d)

  -- the first tail that begins with the object, else `NIL`
  abbrev pub member : Object S → Object S → Object S
  member x (Integer n) = nil_of k
  member x (Symbol s) = nil_of k
  member x (Text bytes) = nil_of k
  member x (Pair a d) = if same_object k x a then Pair a d else member x d

  abbrev pub is_member : Object S → Object S → Bool
  is_member x l = is_pair (member x l)

  -- the first element whose car is the object, else `NIL`
  abbrev pub assoc : Object S → Object S → Object S
  assoc x (Integer n) = nil_of k
  assoc x (Symbol s) = nil_of k
  assoc x (Text bytes) = nil_of k
  assoc x (Pair a d) = if same_object k x (car a) then a else assoc x d

  -- elements of the first that are not in the second, in front of it
  abbrev pub union : Object S → Object S → Object S
  union (Integer n) y = y
  union (Symbol s) y = y
  union (Text bytes) y = y
  union (Pair a d) y = if is_member a y then union d y else Pair a (union d y)
