-- The kind of a type: the smallest cells in which each object that meets it can be kept. The types are those of ACL2's manual,
-- topics TYPE-SPEC and DEFSTOBJ; it is asked of so many objects that each other object meets the type as one of them does.
use Rattle.std.specs.Prelude.{ℕ, ◌+◌, ◌^◌, List, [], ◌∷◌, ◌++◌, map, length, replicate, Bool, true, not, ◌&&◌, ◌||◌, Option, Some, None, ℤ, pos, negsuc, neg_ℤ, ◌+ℤ◌, int_lt, if◌then◌else◌}
use Rattle.std.specs.List.{list_all}
use Rattle.acl_base.specs.declared.layout.Kind.{Kind}
use Rattle.acl_base.specs.declared.layout.Kind.TheVariants.{Byte, I32, I64, General}
use Rattle.model_objects.specs.Object.{Object, Integer, Symbol, Text, Pair}
use Rattle.model_symbols.specs.Opening.{truth, nil}
use Rattle.model_prims.specs.Kinds.{by_number, is_integer}
use Rattle.model_prims.specs.Numbers.{fix}
use Rattle.model_lists.specs.Types.{ValueType, Anything, Nothing, Integers, Recognized, OneOf, Either, Both, Other, meets}

-- ---- what a kind keeps

-- the least integers of 32 and of 64 bits
abbrev pub least_32 : ℤ
least_32 = neg_ℤ (pos (2 ^ 31))

abbrev pub least_64 : ℤ
least_64 = neg_ℤ (pos (2 ^ 63))

-- an integer from the first and below the second
abbrev pub is_between : {S : Type 0} → ℤ → ℤ → Object S → Bool
is_between low high x = is_integer x && (not (int_lt (fix x) low) && int_lt (fix x) high)

abbrev pub is_kept : {S : Type 0} → Kind → Object S → Bool
is_kept Byte x = is_between (pos 0) (pos 256) x
is_kept I32 x = is_between least_32 (pos (2 ^ 31)) x
is_kept I64 x = is_between least_64 (pos (2 ^ 63)) x
is_kept General x = true

-- ---- integers

-- an integer is an edge where it may meet a type that the one before it does not, or the other way

abbrev pub before : ℤ → ℤ
before n = n +ℤ negsuc 0

abbrev pub after : ℤ → ℤ
after n = n +ℤ pos 1

abbrev pub low_edges : Option ℤ → List ℤ
low_edges None = []
low_edges (Some low) = low ∷ []

abbrev pub high_edges : Option ℤ → List ℤ
high_edges None = []
high_edges (Some high) = after high ∷ []

-- the elements of a list
abbrev pub members_of : Object ℕ → List (Object ℕ)
members_of (Integer n) = []
members_of (Symbol s) = []
members_of (Text bytes) = []
members_of (Pair a d) = a ∷ members_of d

abbrev pub member_edges : List (Object ℕ) → List ℤ
member_edges [] = []
member_edges (Integer n ∷ os) = n ∷ after n ∷ member_edges os
member_edges (Symbol s ∷ os) = member_edges os
member_edges (Text bytes ∷ os) = member_edges os
member_edges (Pair a d ∷ os) = member_edges os

abbrev pub edges : ValueType ℕ → List ℤ
edges Anything = []
edges Nothing = []
edges (Integers low high) = low_edges low ++ high_edges high
edges (Recognized r) = pos 0 ∷ pos 1 ∷ []
edges (OneOf l) = member_edges (members_of l)
edges (Either a b) = edges a ++ edges b
edges (Both a b) = edges a ++ edges b
edges (Other a) = edges a

-- the edges of the kinds
abbrev pub kind_edges : List ℤ
kind_edges = pos 0 ∷ pos 256 ∷ least_32 ∷ pos (2 ^ 31) ∷ least_64 ∷ pos (2 ^ 63) ∷ []

-- an integer below all of these
abbrev pub below : List ℤ → ℤ
below [] = pos 0
below (n ∷ ns) = if int_lt (below ns) n then below ns else before n

-- ---- other objects

-- the objects that a type lists
abbrev pub members : ValueType ℕ → List (Object ℕ)
members Anything = []
members Nothing = []
members (Integers low high) = []
members (Recognized r) = []
members (OneOf l) = members_of l
members (Either a b) = members a ++ members b
members (Both a b) = members a ++ members b
members (Other a) = members a

-- a number by which an object differs from all that have less
abbrev pub extent : Object ℕ → ℕ
extent (Integer n) = 0
extent (Symbol s) = s
extent (Text bytes) = length bytes
extent (Pair a d) = extent a

abbrev pub total_extent : List (Object ℕ) → ℕ
total_extent [] = 0
total_extent (o ∷ os) = extent o + total_extent os

-- `T`, `NIL`, and objects of this extent: a symbol, a string, a pair that is no list, a list, and an association list
abbrev pub others : ℕ → List (Object ℕ)
others n =
    Symbol truth ∷ Symbol nil ∷ Symbol n ∷ Text (replicate n 0)
    ∷ Pair (Symbol n) (Symbol n) ∷ Pair (Symbol n) (Symbol nil) ∷ Pair (Pair (Symbol n) (Symbol nil)) (Symbol nil) ∷ []

-- ---- the kind of a type

-- objects among which each object has one that meets the type as it does, and that each kind keeps as it does
abbrev pub integer_representatives : List ℤ → List (Object ℕ)
integer_representatives ns = map Integer (below ns ∷ ns)

abbrev pub representatives : ValueType ℕ → List (Object ℕ)
representatives t = integer_representatives (edges t ++ kind_edges) ++ (members t ++ others (total_extent (members t) + 2))

-- the kind keeps each object that meets the type
abbrev pub keeps_all : Kind → ValueType ℕ → Bool
keeps_all kind t = list_all (λ x. not (meets by_number t x) || is_kept kind x) (representatives t)

-- the first kind that does
abbrev pub kind_of : ValueType ℕ → Kind
kind_of t = if keeps_all Byte t then Byte else if keeps_all I32 t then I32 else if keeps_all I64 t then I64 else General
