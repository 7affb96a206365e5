-- What becomes of an object that a heap is to hold, and of the elements that it is made of.
use Rattle.std.specs.Prelude.{◌≡◌, ℕ, ◌≤◌, ◌<◌, List, [], ◌∷◌, map, Result, Ok, Err, if◌then◌else◌}
use Rattle.model_objects.specs.Object.{Object, Integer, Symbol, Text, Pair, weight, max_weight}
use Rattle.model_prims.specs.Kinds.{by_number}
use Rattle.model_prims.specs.Lists.{is_member}
use Rattle.acl_base.specs.declared.Word.{Word}
use Rattle.acl_heap.specs.Objects.{Objects, object_of, Lies, Denotes}
use Rattle.acl_heap.specs.declared.HeapFault.{HeapFault}
use Rattle.acl_heap.specs.declared.HeapFault.TheVariants.{TooLarge, Memory}

-- the heap holds the object, unless it is too heavy or memory was refused
abbrev pub Holds : Objects → Object ℕ → Result Word HeapFault → Type 0
Holds h o (Ok w) = Denotes h w o × (weight o ≤ max_weight)
Holds h o (Err (TooLarge n)) = max_weight < weight o
Holds h o (Err Memory) = Unit {0}

-- the words lie in the heap
abbrev pub AllLie : Objects → List Word → Type 0
AllLie h [] = Unit {0}
AllLie h (w ∷ ws) = Lies h w × AllLie h ws

-- the objects of words
abbrev pub objects_of : Objects → List Word → List (Object ℕ)
objects_of h words = map (object_of h) words

-- the words lie in the heap and stand for the objects
pub record AreObjects (h : Objects) (words : List Word) (os : List (Object ℕ)) : Type 0 where
  pub lie : AllLie h words
  pub are : objects_of h words ≡ os

-- the elements of a list
abbrev pub elements_of : Object ℕ → List (Object ℕ)
elements_of (Integer n) = []
elements_of (Symbol s) = []
elements_of (Text bytes) = []
elements_of (Pair a d) = a ∷ elements_of d

-- the elements of the first list that the second lacks
abbrev pub lacking : Object ℕ → Object ℕ → List (Object ℕ)
lacking (Integer n) y = []
lacking (Symbol s) y = []
lacking (Text bytes) y = []
lacking (Pair a d) y = if is_member by_number a y then lacking d y else a ∷ lacking d y
