-- What a tree of cells stands for, and the tree of an object.
use Rattle.std.specs.Prelude.{◌≡◌, FitsSigned, true, ℕ, ◌+◌, ◌/◌, ◌*◌, ◌%◌, ◌^◌, ◌<◌, List, [], ◌∷◌, ◌++◌, length, take, drop, zero, suc, nat_lt, if◌then◌else◌}
use Rattle.std.specs.Int.{w64, w128, cast_signed, cast_unsigned, from_le_bytes, to_le_bytes}
use Rattle.std.proofs.Common.{get_or}
use Rattle.model_objects.specs.Object.{Object, Integer, Symbol, Text, Pair, fits_64}
use Rattle.acl_base.specs.declared.Word.{Word}
use Rattle.acl_base.specs.declared.Word.TheVariants as word
use Rattle.acl_heap.specs.Objects.{nothing, object_of}
use Rattle.acl_pool.specs.declared.cell.Kind.{Kind}
use Rattle.acl_pool.specs.declared.cell.Kind.TheVariants.{Small, Sym, Bits, Big, Str, Cons, Heap}
use Rattle.acl_pool.specs.declared.cell.Part.{Part}

-- a word of no cells, bare bits, or a cell of a kind with its two parts
pub data Tree : Type 0 where
  Atom : Word → Tree
  Bare : ℕ → Tree
  Node : Kind → Tree → Tree → Tree

-- the cells of a tree
abbrev pub size : Tree → ℕ
size (Atom w) = 0
size (Bare n) = 0
size (Node k l r) = 1 + (size l + size r)

-- the part for a word of a pool
abbrev pub part_of : Word → Part
part_of (word.Small n) = record { kind = Small; bits = cast_unsigned w64 n }
part_of (word.Big n) = record { kind = Big; bits = n }
part_of (word.Sym s) = record { kind = Sym; bits = s.0 }
part_of (word.Str n) = record { kind = Str; bits = n }
part_of (word.Cons n) = record { kind = Cons; bits = n }

-- the word for a part of a kind
abbrev pub word_with : Kind → ℕ → Word
word_with Small n = word.Small (cast_signed w64 n)
word_with Sym n = word.Sym (record { 0 = if nat_lt n (2 ^ 32) then n else 0 })
word_with Bits n = word.Small (cast_signed w64 n)
word_with Big n = word.Big n
word_with Str n = word.Str n
word_with Cons n = word.Cons n
word_with Heap n = word.Cons n

abbrev pub word_of : Part → Word
word_of p = word_with p.kind p.bits

abbrev pub bits_of : Tree → ℕ
bits_of (Atom w) = 0
bits_of (Bare n) = n
bits_of (Node k l r) = 0

-- the bytes of a chain of cells, eight in each
abbrev pub bytes_of : Tree → List ℕ
bytes_of (Atom w) = []
bytes_of (Bare n) = []
bytes_of (Node k l r) = to_le_bytes w64 (bits_of l) ++ bytes_of r

-- the object of a node, by its parts and their objects
abbrev pub seen_node : Kind → Tree → Tree → Object ℕ → Object ℕ → Object ℕ
seen_node Small l r a d = nothing
seen_node Sym l r a d = nothing
seen_node Bits l r a d = nothing
seen_node Big l r a d = Integer (cast_signed w128 (bits_of r * 2 ^ 64 + bits_of l))
seen_node Str l r a d = Text (take (bits_of l) (bytes_of r))
seen_node Cons l r a d = Pair a d
seen_node Heap l r a d = nothing

-- the object of a tree
abbrev pub seen : Tree → Object ℕ
seen (Atom w) = object_of [] w
seen (Bare n) = nothing
seen (Node k l r) = seen_node k l r (seen l) (seen r)

-- eight bytes as a number, with zeros behind the last
abbrev pub number : List ℕ → ℕ
number bs = from_le_bytes w64 (get_or bs 0 0 ∷ get_or bs 1 0 ∷ get_or bs 2 0 ∷ get_or bs 3 0 ∷ get_or bs 4 0 ∷ get_or bs 5 0 ∷ get_or bs 6 0 ∷ get_or bs 7 0 ∷ [])

-- the first bytes as so many numbers
abbrev pub numbers : ℕ → List ℕ → List ℕ
numbers zero bs = []
numbers (suc n) bs = number bs ∷ numbers n (drop 8 bs)

-- a cell for each number
abbrev pub chain : List ℕ → Tree
chain [] = Bare 0
chain (n ∷ ns) = Node Str (Bare n) (chain ns)

-- the tree of an object
abbrev pub tree_of : Object ℕ → Tree
tree_of (Integer n) = if fits_64 n then Atom (word.Small n) else Node Big (Bare (cast_unsigned w128 n % 2 ^ 64)) (Bare (cast_unsigned w128 n / 2 ^ 64))
tree_of (Symbol s) = Atom (word.Sym (record { 0 = s }))
tree_of (Text bytes) = Node Str (Bare (length bytes)) (chain (numbers ((length bytes + 7) / 8) bytes))
tree_of (Pair a d) = Node Cons (tree_of a) (tree_of d)

-- all are bytes
abbrev pub AreBytes : List ℕ → Type 0
AreBytes bs = (i : ℕ) → get_or bs i 0 < 256

-- the integers of an object have 128 bits, and its strings are bytes
abbrev pub IsNarrow : Object ℕ → Type 0
IsNarrow (Integer n) = FitsSigned w128 n
IsNarrow (Symbol s) = Unit {0}
IsNarrow (Text bytes) = AreBytes bytes
IsNarrow (Pair a d) = IsNarrow a × IsNarrow d

-- the integer of a word has 64 bits
abbrev pub IsFitting : Word → Type 0
IsFitting (word.Small n) = (fits_64 n ≡ true) × FitsSigned w128 n
IsFitting (word.Big n) = Unit {0}
IsFitting (word.Sym s) = Unit {0}
IsFitting (word.Str n) = Unit {0}
IsFitting (word.Cons n) = Unit {0}
