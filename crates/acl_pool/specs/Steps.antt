-- What each step does to a region.
use Rattle.std.specs.Prelude.{◌≡◌, ℕ, ◌+◌, ◌-◌, ◌<◌, ◌≤◌, length, slice_set}
use Rattle.acl_pool.specs.declared.cell.Kind.{Kind}
use Rattle.acl_pool.specs.declared.cell.Kind.TheVariants.{Small, Sym, Bits, Big, Str, Cons, Heap}
use Rattle.acl_pool.specs.declared.cell.Role.{Role}
use Rattle.acl_pool.specs.declared.cell.Role.TheVariants as role
use Rattle.acl_pool.specs.declared.cell.Cell.{Cell}
use Rattle.acl_pool.specs.declared.region.Region.{Region}
use Rattle.acl_pool.specs.Cells.{cell_at, most_cells}

abbrev pub with_cell : Region → ℕ → Cell → Region
with_cell r n c = record r { cells = slice_set r.cells n c }

-- a cell in the list of those that were given back
abbrev pub given_cell : Cell → ℕ → Cell
given_cell c next = record c { link = next; role = role.Inside }

abbrev pub give_at : Region → ℕ → Region
give_at r n = record r { cells = slice_set r.cells n (given_cell (cell_at r.cells n) r.given); given = n }

abbrev pub give_with : Region → Kind → ℕ → Region
give_with r Small n = r
give_with r Sym n = r
give_with r Bits n = r
give_with r Big n = give_at r n
give_with r Str n = give_at r n
give_with r Cons n = give_at r n
give_with r Heap n = r

-- a cell of the kind, if any, lies in the region
abbrev pub IsWithin : Region → Kind → ℕ → Type 0
IsWithin r Small n = Unit {0}
IsWithin r Sym n = Unit {0}
IsWithin r Bits n = Unit {0}
IsWithin r Big n = n < length r.cells
IsWithin r Str n = n < length r.cells
IsWithin r Cons n = n < length r.cells
IsWithin r Heap n = Unit {0}

-- a cell that is a root
abbrev pub root_cell : Cell → ℕ → Role → Cell
root_cell c count role = record c { link = count; role = role }

abbrev pub name_with : Region → Kind → ℕ → ℕ → Region
name_with r Small n count = r
name_with r Sym n count = r
name_with r Bits n count = r
name_with r Big n count = with_cell r n (root_cell (cell_at r.cells n) count role.Wide)
name_with r Str n count = with_cell r n (root_cell (cell_at r.cells n) count role.Text)
name_with r Cons n count = with_cell r n (root_cell (cell_at r.cells n) count role.Pair)
name_with r Heap n count = r

-- the cell of the tree that was given back last is written
abbrev pub taken : Region → Cell → Region
taken r c = record { cells = slice_set r.cells r.given c; top = r.top; given = (cell_at r.cells r.given).link; spare = r.spare - 1 }

-- .. and the trees of its parts are given back
unfoldable pub placed_again : Region → Cell → Region
placed_again r c =
    let old = cell_at r.cells r.given in
    give_with (give_with (taken r c) old.left_kind old.left) old.right_kind old.right

-- the first cell that was never taken is written
unfoldable pub placed_new : Region → Cell → Region
placed_new r c = record { cells = slice_set r.cells r.top c; top = r.top + 1; given = r.given; spare = r.spare }

-- a cell may be taken
pub record HasPlace (r : Region) : Type 0 where
  pub given : 0 < r.spare → r.given < length r.cells
  pub left : 0 < r.spare → IsWithin r (cell_at r.cells r.given).left_kind (cell_at r.cells r.given).left
  pub right : 0 < r.spare → IsWithin r (cell_at r.cells r.given).right_kind (cell_at r.cells r.given).right
  pub new : r.spare ≡ 0 → r.top < length r.cells
  pub bounded : length r.cells ≤ most_cells

-- a cell was written at a place
pub record Places (old new : Region) (c : Cell) (n : ℕ) : Type 0 where
  pub again : 0 < old.spare → (new ≡ placed_again old c) × (n ≡ old.given)
  pub first : old.spare ≡ 0 → (new ≡ placed_new old c) × (n ≡ old.top)
