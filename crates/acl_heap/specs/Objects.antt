-- A heap is seen as the objects of its cells, the oldest first; a symbol in them is its number.
use Rattle.std.specs.Prelude.{◌≡◌, ℕ, ◌+◌, ◌<◌, ◌≤◌, List, length, pos, true, false}
use Rattle.std.proofs.Common.{get_or}
use Rattle.model_objects.specs.Object.{Object, Integer, Symbol, Text, Pair, weight, max_weight, fits_64, fits_128}
use Rattle.acl_base.specs.declared.Word.{Word}
use Rattle.acl_base.specs.declared.Word.TheVariants.{Small, Big, Sym, Str, Cons}

abbrev pub Objects : Type 0
Objects = List (Object ℕ)

-- what is read past the top
abbrev pub nothing : Object ℕ
nothing = Integer (pos 0)

-- the object of a word
abbrev pub object_of : Objects → Word → Object ℕ
object_of h (Small n) = Integer n
object_of h (Big n) = get_or h n nothing
object_of h (Sym s) = Symbol s.0
object_of h (Str n) = get_or h n nothing
object_of h (Cons n) = get_or h n nothing

abbrev pub IsInteger : Object ℕ → Type 0
IsInteger (Integer n) = Unit {0}
IsInteger (Symbol s) = ⊥
IsInteger (Text bytes) = ⊥
IsInteger (Pair a d) = ⊥

abbrev pub IsText : Object ℕ → Type 0
IsText (Integer n) = ⊥
IsText (Symbol s) = ⊥
IsText (Text bytes) = Unit {0}
IsText (Pair a d) = ⊥

abbrev pub IsPair : Object ℕ → Type 0
IsPair (Integer n) = ⊥
IsPair (Symbol s) = ⊥
IsPair (Text bytes) = ⊥
IsPair (Pair a d) = Unit {0}

-- the parts of a pair
abbrev pub car_of : Object ℕ → Object ℕ
car_of (Integer n) = nothing
car_of (Symbol s) = nothing
car_of (Text bytes) = nothing
car_of (Pair a d) = a

abbrev pub cdr_of : Object ℕ → Object ℕ
cdr_of (Integer n) = nothing
cdr_of (Symbol s) = nothing
cdr_of (Text bytes) = nothing
cdr_of (Pair a d) = d

-- how many cells a heap has at least in which the word lies
abbrev pub reach : Word → ℕ
reach (Small n) = 0
reach (Big n) = n + 1
reach (Sym s) = 0
reach (Str n) = n + 1
reach (Cons n) = n + 1

-- the word lies below the top of the heap
abbrev pub Lies : Objects → Word → Type 0
Lies h w = reach w ≤ length h

-- the word lies in the heap, and stands for the object
pub record Denotes (h : Objects) (w : Word) (o : Object ℕ) : Type 0 where
  pub lies : Lies h w
  pub is : object_of h w ≡ o

-- the heap has grown: what a word stood for, it stands for
pub record Extends (old new : Objects) : Type 0 where
  pub longer : length old ≤ length new
  pub same : (w : Word) → Lies old w → object_of new w ≡ object_of old w

-- what a cell may hold: a wide integer, a string or a pair, none above the largest weight
abbrev pub IsCellObject : Object ℕ → Type 0
IsCellObject (Integer n) = (fits_64 n ≡ false) × (fits_128 n ≡ true)
IsCellObject (Symbol s) = ⊥
IsCellObject (Text bytes) = 1 + length bytes ≤ max_weight
IsCellObject (Pair a d) = weight (Pair a d) ≤ max_weight

-- each cell of the heap holds what a cell may hold
pub record IsHeap (h : Objects) : Type 0 where
  pub cell : (n : ℕ) → n < length h → IsCellObject (get_or h n nothing)
