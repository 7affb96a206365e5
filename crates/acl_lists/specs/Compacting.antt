-- What is kept of a table, and what is moved.
use Rattle.std.specs.Prelude.{◌≡◌, ℕ, ◌-◌, ◌<◌, ◌≤◌, ◌⊎◌, List, length, slice_index, Some, slice_get}
use Rattle.std.specs.List.{AllByRecursion}
use Rattle.acl_lists.specs.declared.cell.ListId.{ListId}
use Rattle.acl_lists.specs.declared.cell.Cell.{Cell}
use Rattle.acl_lists.specs.declared.cell.Cell.TheVariants as cell
use Rattle.acl_lists.specs.Tables.{IsTable, list_at}

-- the mark of a cell that is kept is not 0; once the cell is moved, it is the new number and one
abbrev pub IsMarked : List ℕ → ℕ → Type 0
IsMarked marks i = 0 < slice_index marks i

abbrev pub AllMarked : List ℕ → List ListId → Type 0
AllMarked marks ns = AllByRecursion (λ (n : ListId). IsMarked marks n.0) ns

abbrev pub PartsMarked : List ℕ → Cell → Type 0
PartsMarked marks (cell.Value o) = Unit {0}
PartsMarked marks cell.NoPairs = Unit {0}
PartsMarked marks (cell.Pair key value older) = IsMarked marks key.0 × IsMarked marks value.0 × IsMarked marks older.0
PartsMarked marks cell.End = Unit {0}
PartsMarked marks (cell.Item first rest) = IsMarked marks first.0 × IsMarked marks rest.0

-- the number is that of a part
abbrev pub IsPart : ℕ → Cell → Type 0
IsPart i (cell.Value o) = ⊥
IsPart i cell.NoPairs = ⊥
IsPart i (cell.Pair key value older) = (i ≡ key.0) ⊎ ((i ≡ value.0) ⊎ (i ≡ older.0))
IsPart i cell.End = ⊥
IsPart i (cell.Item first rest) = (i ≡ first.0) ⊎ (i ≡ rest.0)

-- marks are not taken away
pub record MoreMarks (old new : List ℕ) : Type 0 where
  pub long : length new ≡ length old
  pub stays : (i : ℕ) → IsMarked old i → IsMarked new i

-- the parts of what is marked are marked
pub record IsClosed (cs : List Cell) (marks : List ℕ) : Type 0 where
  pub parts : (i : ℕ) (c : Cell) → slice_get cs i ≡ Some c → IsMarked marks i → PartsMarked marks c

abbrev pub new_number : List ℕ → ListId → ListId
new_number marks n = record { 0 = slice_index marks n.0 - 1 }

-- one of the roots has the number
pub record IsRoot (roots : List ListId) (i : ℕ) : Type 0 where
  pub at : ℕ
  pub root : ListId
  pub there : slice_get roots at ≡ Some root
  pub is : i ≡ root.0

-- a cell of the table has the number as a part
pub record IsPartOfOne (cs : List Cell) (i : ℕ) : Type 0 where
  pub at : ℕ
  pub whole : Cell
  pub there : slice_get cs at ≡ Some whole
  pub part : IsPart i whole

-- each cell is a root's or a part of another: so each is reached from a root, since parts stand before what they are parts of
abbrev pub AllUsed : List Cell → List ListId → Type 0
AllUsed cs roots = (i : ℕ) → i < length cs → IsRoot roots i ⊎ IsPartOfOne cs i

-- a marked cell has the number as a part
pub record IsPartOfMarked (cs : List Cell) (marks : List ℕ) (i : ℕ) : Type 0 where
  pub at : ℕ
  pub whole : Cell
  pub there : slice_get cs at ≡ Some whole
  pub marked : IsMarked marks at
  pub part : IsPart i whole

-- a cell over the new numbers of its parts
abbrev pub renumbered : List ℕ → Cell → Cell
renumbered marks (cell.Value o) = cell.Value o
renumbered marks cell.NoPairs = cell.NoPairs
renumbered marks (cell.Pair key value older) = cell.Pair (new_number marks key) (new_number marks value) (new_number marks older)
renumbered marks cell.End = cell.End
renumbered marks (cell.Item first rest) = cell.Item (new_number marks first) (new_number marks rest)

-- what a number stood for in the old table, its new one stands for in the new table
pub record IsMoved (old new : List Cell) (numbers : List ℕ) (n : ListId) : Type 0 where
  pub numbered : IsMarked numbers n.0
  pub below : slice_index numbers n.0 ≤ length new
  pub same : list_at new (new_number numbers n) ≡ list_at old n
  pub cell : (c : Cell) → slice_get old n.0 ≡ Some c → slice_get new (new_number numbers n).0 ≡ Some (renumbered numbers c)

-- a cell of the new table was moved to its number
pub record CameFrom (old : List Cell) (marks numbers : List ℕ) (k : ℕ) : Type 0 where
  pub from : ListId
  pub within : from.0 < length old
  pub marked : IsMarked marks from.0
  pub is : k ≡ (new_number numbers from).0

-- all that was marked is moved
pub record IsSwept (old : List Cell) (marks : List ℕ) (new : List Cell) (numbers : List ℕ) : Type 0 where
  pub table : IsTable new
  pub moved : (n : ListId) → n.0 < length old → IsMarked marks n.0 → IsMoved old new numbers n
  pub came : (k : ℕ) → k < length new → CameFrom old marks numbers k
