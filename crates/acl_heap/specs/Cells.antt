-- How the cells of a heap make its objects.
use Rattle.std.specs.Prelude.{◌≡◌, ℕ, ◌+◌, ◌≤◌, List, [], ◌∷◌, ◌++◌, length, true, false}
use Rattle.std.proofs.Common.{get_or}
use Rattle.model_objects.specs.Object.{Object, Integer, Text, Pair, weight, cells, max_weight, fits_64, fits_128}
use Rattle.acl_heap.specs.Objects.{Objects, object_of, Lies, nothing}
use Rattle.acl_heap.specs.declared.Cell.{Cell}
use Rattle.acl_heap.specs.declared.Cell.TheVariants.{PairCell, TextCell, WideCell}
use Rattle.acl_heap.specs.declared.Size.{Size}

abbrev pub object_at : Objects → Cell → Object ℕ
object_at h (PairCell a d size) = Pair (object_of h a) (object_of h d)
object_at h (TextCell v) = Text v.items
object_at h (WideCell n) = Integer n

-- the objects of cells that lie above these
abbrev pub objects_from : Objects → List Cell → Objects
objects_from h [] = h
objects_from h (c ∷ cs) = objects_from (h ++ object_at h c ∷ []) cs

-- the size is that of the object, which is not too heavy
pub record IsSize (o : Object ℕ) (size : Size) : Type 0 where
  pub weighs : size.weight ≡ weight o
  pub takes : size.cells ≡ cells o
  pub most : weight o ≤ max_weight

-- the parts of a cell lie below it, its size is kept beside it, and its integer is a wide one
abbrev pub IsCell : Objects → Cell → Type 0
IsCell h (PairCell a d size) = Lies h a × Lies h d × IsSize (Pair (object_of h a) (object_of h d)) size
IsCell h (TextCell v) = 1 + length v.items ≤ max_weight
IsCell h (WideCell n) = (fits_64 n ≡ false) × (fits_128 n ≡ true)

abbrev pub AreCells : Objects → List Cell → Type 0
AreCells h [] = Unit {0}
AreCells h (c ∷ cs) = IsCell h c × AreCells (h ++ object_at h c ∷ []) cs

-- the cell at a place, and the object that it makes
pub record Reads (h : Objects) (n : ℕ) (c : Cell) : Type 0 where
  pub is : get_or h n nothing ≡ object_at h c
  pub cell : IsCell h c
