-- What the fields of an object are that have no node, and which lists they show.
use Rattle.std.specs.Prelude.{◌≡◌, ℕ, ℤ, ◌<◌, ◌-◌, ◌≤ℤ◌, ◌<ℤ◌, ◌^◌, List, ◌++◌, map, length, take, replicate, slice_set, get_or, pos, negsuc, Option, Some, None}
use Rattle.acl_base.specs.declared.layout.Kind.{Kind}
use Rattle.acl_base.specs.declared.layout.Kind.TheVariants.{Byte, I32, I64, General}
use Rattle.acl_base.specs.declared.Word.{Word}
use Rattle.acl_base.specs.declared.Word.TheVariants.{Small, Big, Sym, Str, Cons}
use Rattle.acl_heap.specs.Objects.{Objects, object_of, nothing, Lies}
use Rattle.model_objects.specs.Object.{Object, Integer}
use Rattle.model_prims.specs.Kinds.{by_number}
use Rattle.model_lists.specs.Lists.{StobjList, Value, Pairs, End, value_at}
use Rattle.acl_nodes.specs.Kept.{items_of}
use Rattle.acl_nodes.specs.Nodes.{Part, Own, Child, Children}
use Rattle.acl_maps.specs.Cells.{Cells, pairs_in, found_in}

-- one integer, or an array of them: their kind, what new ones begin as, and the elements; or one object of any kind, or an array
-- of them: the word of what new ones begin as, and the elements; or a hash field: the cells of its keys
pub data Field : Type 0 where
  One : ℤ → Field
  Many : Kind → ℤ → List ℤ → Field
  Any : Object ℕ → Field
  Anys : Word → List (Object ℕ) → Field
  Table : List (Object ℕ × Object ℕ) → Field

abbrev pub integer : ℤ → StobjList ℕ
integer v = Value (Integer v)

abbrev pub plain : Object ℕ → StobjList ℕ
plain o = Value o

-- ---- hash fields

-- a list of a hash field: each key finds there what it finds in the cells
pub record IsTable (cs : Cells) (l : StobjList ℕ) : Type 0 where
  pub pairs : List (Object ℕ × Object ℕ)
  pub is : l ≡ Pairs pairs
  pub finds : (k : Object ℕ) → value_at by_number k pairs ≡ found_in k cs

-- the cells of a hash field
abbrev pub table_in : Part Field → Option Cells
table_in (Own (One v)) = None
table_in (Own (Many kind initial vs)) = None
table_in (Own (Any o)) = None
table_in (Own (Anys initial os)) = None
table_in (Own (Table cs)) = Some cs
table_in (Child c) = None
table_in (Children cs) = None

-- ---- lists

-- a list of a field
abbrev pub list_of : Field → StobjList ℕ
list_of (One v) = integer v
list_of (Many kind initial vs) = items_of (map integer vs)
list_of (Any o) = plain o
list_of (Anys initial os) = items_of (map plain os)
list_of (Table cs) = Pairs (pairs_in cs)

-- the field shows the list
abbrev pub shown : Field → StobjList ℕ → Type 0
shown (One v) l = l ≡ integer v
shown (Many kind initial vs) l = l ≡ items_of (map integer vs)
shown (Any o) l = l ≡ plain o
shown (Anys initial os) l = l ≡ items_of (map plain os)
shown (Table cs) l = IsTable cs l

-- ---- words

abbrev pub IsSmall : Word → Type 0
IsSmall (Small v) = Unit {0}
IsSmall (Big n) = ⊥
IsSmall (Sym s) = ⊥
IsSmall (Str n) = ⊥
IsSmall (Cons n) = ⊥

abbrev pub number_of : Word → ℤ
number_of (Small v) = v
number_of (Big n) = pos 0
number_of (Sym s) = pos 0
number_of (Str n) = pos 0
number_of (Cons n) = pos 0

-- the integer is one of the kind; a word's integers have 64 bits
abbrev pub InRange : Kind → ℤ → Type 0
InRange Byte v = (pos 0 ≤ℤ v) × (v <ℤ pos 256)
InRange I32 v = (negsuc 2147483647 ≤ℤ v) × (v <ℤ pos 2147483648)
InRange I64 v = Unit {0}
InRange General v = ⊥

-- ---- elements

-- there is an integer of this index
abbrev pub IsElement : Part Field → ℕ → Type 0
IsElement (Own (One v)) i = i ≡ 0
IsElement (Own (Many kind initial vs)) i = i < length vs
IsElement (Own (Any o)) i = ⊥
IsElement (Own (Anys initial os)) i = ⊥
IsElement (Own (Table cs)) i = ⊥
IsElement (Child c) i = ⊥
IsElement (Children cs) i = ⊥

abbrev pub element : Part Field → ℕ → ℤ
element (Own (One v)) i = v
element (Own (Many kind initial vs)) i = get_or vs i (pos 0)
element (Own (Any o)) i = pos 0
element (Own (Anys initial os)) i = pos 0
element (Own (Table cs)) i = pos 0
element (Child c) i = pos 0
element (Children cs) i = pos 0

-- the integer is one that may stand there
abbrev pub IsKept : Part Field → ℤ → Type 0
IsKept (Own (One v)) new = Unit {0}
IsKept (Own (Many kind initial vs)) new = InRange kind new
IsKept (Own (Any o)) new = ⊥
IsKept (Own (Anys initial os)) new = ⊥
IsKept (Own (Table cs)) new = ⊥
IsKept (Child c) new = ⊥
IsKept (Children cs) new = ⊥

abbrev pub with_element : Part Field → ℕ → ℤ → Part Field
with_element (Own (One v)) i new = Own (One new)
with_element (Own (Many kind initial vs)) i new = Own (Many kind initial (slice_set vs i new))
with_element (Own (Any o)) i new = Own (Any o)
with_element (Own (Anys initial os)) i new = Own (Anys initial os)
with_element (Own (Table cs)) i new = Own (Table cs)
with_element (Child c) i new = Child c
with_element (Children cs) i new = Children cs

-- ---- objects

-- there is an object of this index, of any kind
abbrev pub IsHeld : Part Field → ℕ → Type 0
IsHeld (Own (One v)) i = ⊥
IsHeld (Own (Many kind initial vs)) i = ⊥
IsHeld (Own (Any o)) i = i ≡ 0
IsHeld (Own (Anys initial os)) i = i < length os
IsHeld (Own (Table cs)) i = ⊥
IsHeld (Child c) i = ⊥
IsHeld (Children cs) i = ⊥

abbrev pub held : Part Field → ℕ → Object ℕ
held (Own (One v)) i = nothing
held (Own (Many kind initial vs)) i = nothing
held (Own (Any o)) i = o
held (Own (Anys initial os)) i = get_or os i nothing
held (Own (Table cs)) i = nothing
held (Child c) i = nothing
held (Children cs) i = nothing

abbrev pub with_held : Part Field → ℕ → Object ℕ → Part Field
with_held (Own (One v)) i new = Own (One v)
with_held (Own (Many kind initial vs)) i new = Own (Many kind initial vs)
with_held (Own (Any o)) i new = Own (Any new)
with_held (Own (Anys initial os)) i new = Own (Anys initial (slice_set os i new))
with_held (Own (Table cs)) i new = Own (Table cs)
with_held (Child c) i new = Child c
with_held (Children cs) i new = Children cs

-- the list of what is there at an index, an integer or another object
abbrev pub value_in : Part Field → ℕ → StobjList ℕ
value_in (Own (One v)) i = integer v
value_in (Own (Many kind initial vs)) i = integer (get_or vs i (pos 0))
value_in (Own (Any o)) i = plain o
value_in (Own (Anys initial os)) i = plain (get_or os i nothing)
value_in (Own (Table cs)) i = End
value_in (Child c) i = End
value_in (Children cs) i = End

abbrev pub HasValue : Part Field → ℕ → Type 0
HasValue (Own (One v)) i = i ≡ 0
HasValue (Own (Many kind initial vs)) i = i < length vs
HasValue (Own (Any o)) i = i ≡ 0
HasValue (Own (Anys initial os)) i = i < length os
HasValue (Own (Table cs)) i = ⊥
HasValue (Child c) i = ⊥
HasValue (Children cs) i = ⊥

-- ---- arrays

abbrev pub IsSized : Part Field → Type 0
IsSized (Own (One v)) = ⊥
IsSized (Own (Many kind initial vs)) = Unit {0}
IsSized (Own (Any o)) = ⊥
IsSized (Own (Anys initial os)) = Unit {0}
IsSized (Own (Table cs)) = ⊥
IsSized (Child c) = ⊥
IsSized (Children cs) = ⊥

-- the word of what new elements begin as lies in the heap
abbrev pub IsFilled : Objects → Part Field → Type 0
IsFilled h (Own (One v)) = Unit {0}
IsFilled h (Own (Many kind initial vs)) = Unit {0}
IsFilled h (Own (Any o)) = Unit {0}
IsFilled h (Own (Anys initial os)) = Lies h initial
IsFilled h (Own (Table cs)) = Unit {0}
IsFilled h (Child c) = Unit {0}
IsFilled h (Children cs) = Unit {0}

-- an array cut or lengthened, with a heap that has what new elements begin as
abbrev pub sized : Objects → Part Field → ℕ → Part Field
sized h (Own (One v)) n = Own (One v)
sized h (Own (Many kind initial vs)) n = Own (Many kind initial (take n vs ++ replicate (n - length vs) initial))
sized h (Own (Any o)) n = Own (Any o)
sized h (Own (Anys initial os)) n = Own (Anys initial (take n os ++ replicate (n - length os) (object_of h initial)))
sized h (Own (Table cs)) n = Own (Table cs)
sized h (Child c) n = Child c
sized h (Children cs) n = Children cs

-- what new elements begin as
abbrev pub filling : Objects → Part Field → StobjList ℕ
filling h (Own (One v)) = integer v
filling h (Own (Many kind initial vs)) = integer initial
filling h (Own (Any o)) = plain o
filling h (Own (Anys initial os)) = plain (object_of h initial)
filling h (Own (Table cs)) = integer (pos 0)
filling h (Child c) = integer (pos 0)
filling h (Children cs) = integer (pos 0)

-- an array or an array of children, of less than 2^32
abbrev pub HasLength : Part Field → Type 0
HasLength (Own (One v)) = ⊥
HasLength (Own (Many kind initial vs)) = length vs < 2 ^ 32
HasLength (Own (Any o)) = ⊥
HasLength (Own (Anys initial os)) = length os < 2 ^ 32
HasLength (Own (Table cs)) = ⊥
HasLength (Child c) = ⊥
HasLength (Children cs) = length cs < 2 ^ 32

abbrev pub length_of : Part Field → ℕ
length_of (Own (One v)) = 0
length_of (Own (Many kind initial vs)) = length vs
length_of (Own (Any o)) = 0
length_of (Own (Anys initial os)) = length os
length_of (Own (Table cs)) = 0
length_of (Child c) = 0
length_of (Children cs) = length cs
