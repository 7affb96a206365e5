-- Objects, over any kind of symbols: in a heap a symbol is its number, in a text and in the logic it is two names (ACL2's
-- manual, topics LEXORDER, SYMBOLP, STRINGP, CONSP).
use Rattle.std.specs.Prelude.{ℕ, ◌+◌, ◌/◌, ◌^◌, List, [], ◌∷◌, length, ℤ, pos, negsuc, Bool, true, nat_lt, nat_le, ◌&&◌, if◌then◌else◌}
use Rattle.std.specs.Ordering.{int_cmp, nat_cmp, ordering_then}
use Rattle.std.specs.Cmp.Lexicographic.{slice_cmp}
use Rattle.std.specs.declared.cmp.Ordering.{Ordering}
use Rattle.std.specs.declared.cmp.Ordering.TheVariants.{Less, Greater}

-- an integer of any size, a symbol, a string of bytes or a pair
pub data Object (S : Type 0) : Type 0 where
  Integer : ℤ → Object S
  Symbol : S → Object S
  Text : List ℕ → Object S
  Pair : Object S → Object S → Object S

-- the weight of an object
abbrev pub weight : {S : Type 0} → Object S → ℕ
weight (Integer n) = 1
weight (Symbol s) = 1
weight (Text bytes) = 1 + length bytes
weight (Pair a d) = 1 + (weight a + weight d)

-- the largest weight of a value
abbrev pub max_weight : ℕ
max_weight = 1048576

-- an integer of 64 bits
abbrev pub fits_64 : ℤ → Bool
fits_64 (pos n) = nat_lt n (2 ^ 63)
fits_64 (negsuc n) = nat_lt n (2 ^ 63)

-- an integer of 128 bits
abbrev pub fits_128 : ℤ → Bool
fits_128 (pos n) = nat_lt n (2 ^ 127)
fits_128 (negsuc n) = nat_lt n (2 ^ 127)

-- every integer in the object has 128 bits
abbrev pub has_narrow_integers : {S : Type 0} → Object S → Bool
has_narrow_integers (Integer n) = fits_128 n
has_narrow_integers (Symbol s) = true
has_narrow_integers (Text bytes) = true
has_narrow_integers (Pair a d) = has_narrow_integers a && has_narrow_integers d

-- a value: an object whose integers are narrow and whose weight is not above the limit
abbrev pub is_value : {S : Type 0} → Object S → Bool
is_value o = has_narrow_integers o && nat_le (weight o) max_weight

-- the cells that an object takes in a pool
abbrev pub cells : {S : Type 0} → Object S → ℕ
cells (Integer n) = if fits_64 n then 0 else 1
cells (Symbol s) = 0
cells (Text bytes) = 1 + (length bytes + 7) / 8
cells (Pair a d) = 1 + (cells a + cells d)

-- the total order: integers, then symbols, then strings, then pairs
abbrev pub object_cmp : {S : Type 0} → (S → S → Ordering) → Object S → Object S → Ordering
object_cmp names (Integer m) (Integer n) = int_cmp m n
object_cmp names (Integer m) y = Less
object_cmp names (Symbol s) (Integer n) = Greater
object_cmp names (Symbol s) (Symbol t) = names s t
object_cmp names (Symbol s) y = Less
object_cmp names (Text a) (Integer n) = Greater
object_cmp names (Text a) (Symbol s) = Greater
object_cmp names (Text a) (Text b) = slice_cmp nat_cmp a b
object_cmp names (Text a) (Pair c d) = Less
object_cmp names (Pair a d) (Pair b e) = ordering_then (object_cmp names a b) (object_cmp names d e)
object_cmp names (Pair a d) y = Greater

-- an object with each symbol seen another way
abbrev pub named : {S N : Type 0} → (S → N) → Object S → Object N
named name (Integer n) = Integer n
named name (Symbol s) = Symbol (name s)
named name (Text bytes) = Text bytes
named name (Pair a d) = Pair (named name a) (named name d)

-- a list, before an end
abbrev pub list_onto : {S : Type 0} → List (Object S) → Object S → Object S
list_onto [] end = end
list_onto (o ∷ os) end = Pair o (list_onto os end)
