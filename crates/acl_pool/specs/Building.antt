-- A region in which objects are being built, and what a new cell may hold.
use Rattle.std.specs.Prelude.{◌≡◌, ◌≢◌, ℕ, ◌+◌, ◌-◌, ◌<◌, ◌≤◌, length, Bool, true, false, Some, ◌⊎◌}
use Rattle.std.specs.List.{sum_by}
use Rattle.std.proofs.Common.{get_or}
use Rattle.acl_heap.specs.Objects.{Objects, nothing, IsPair}
use Rattle.acl_pool.specs.declared.cell.Kind.TheVariants.{Heap}
use Rattle.acl_pool.specs.declared.cell.Role.TheVariants as role
use Rattle.acl_pool.specs.declared.cell.Cell.{Cell}
use Rattle.acl_pool.specs.declared.region.Region.{Region}
use Rattle.acl_pool.specs.declared.cell.Part.{Part}
use Rattle.acl_pool.specs.Trees.{Tree}
use Rattle.acl_pool.specs.Cells.{tree_with, target, Marks, Fits, Alone, Under, size_of, halves, cell_at, target_at, most_cells}

pub record Building (h : Objects) (r : Region) (m : Marks) : Type 0 where
  pub fits : Fits h r.cells r.top r.given m
  pub spares : r.spare ≡ sum_by (λ k. size_of (m.shown k)) m.given
  pub bounded : length r.cells ≤ most_cells

-- the cells that may be taken
abbrev pub room : Region → ℕ
room r = r.spare + (length r.cells - r.top)

-- the cell points to trees that no other points to
pub record IsNewCell (h : Objects) (r : Region) (m : Marks) (c : Cell) : Type 0 where
  pub alone : (s : Bool) (n : ℕ) → target_at s c ≡ Some n → (n < r.top) × (m.owner n ≡ Alone) × ((cell_at r.cells n).role ≡ role.Inside)
  pub apart : (n : ℕ) → target_at true c ≡ Some n → target_at false c ≡ Some n → ⊥
  pub inside : c.role ≡ role.Inside
  pub waits : c.left_kind ≡ Heap → (c.left < length h) × IsPair (get_or h c.left nothing)

-- the cells that no step takes: roots, and those that were taken since a copy was begun
abbrev pub IsKept : Marks → ℕ → Type 0
IsKept m j = (m.owner j ≡ Alone) ⊎ (m.fresh j ≡ true)

-- a cell was taken and written
pub record Placed (h : Objects) (r later : Region) (m after : Marks) (c : Cell) (n : ℕ) : Type 0 where
  pub built : Building h later after
  pub cell : cell_at later.cells n ≡ c
  pub shown : after.shown n ≡ halves h m.shown c
  pub owner : after.owner n ≡ Alone
  pub fresh : after.fresh n ≡ true
  pub below : n < later.top
  pub older : (j : ℕ) → j < later.top → (j ≡ n) ⊎ (j < r.top)
  pub kept : (j : ℕ) → j < r.top → IsKept m j → (j ≢ n) × (cell_at later.cells j ≡ cell_at r.cells j) × (after.shown j ≡ m.shown j)
  pub owners : (j : ℕ) → j < r.top → IsKept m j → ((s : Bool) → target_at s c ≡ Some j → ⊥) → after.owner j ≡ m.owner j
  pub targets : (s : Bool) (j : ℕ) → target_at s c ≡ Some j → after.owner j ≡ Under n s
  pub fresh_more : (j : ℕ) → m.fresh j ≡ true → after.fresh j ≡ true
  pub fresh_less : (j : ℕ) → after.fresh j ≡ true → (j ≡ n) ⊎ (m.fresh j ≡ true)
  pub roots : (j : ℕ) → j < later.top → (cell_at later.cells j).role ≢ role.Inside → (j < r.top) × ((cell_at r.cells j).role ≢ role.Inside)
  pub spare : later.spare ≡ r.spare - 1
  pub top : later.top ≡ r.top + (1 - r.spare)
  pub same_length : length later.cells ≡ length r.cells

-- the tree of a part was built from so many cells that were taken; all that is kept stays
pub record Builds (h : Objects) (r later : Region) (m after : Marks) (part : Part) (tree : Tree) (taken : ℕ) : Type 0 where
  pub built : Building h later after
  pub shows : tree_with after.shown part.kind part.bits ≡ tree
  pub free : (n : ℕ) → target part.kind part.bits ≡ Some n → (n < later.top) × (after.owner n ≡ Alone) × ((cell_at later.cells n).role ≡ role.Inside) × (after.fresh n ≡ true)
  pub new : (n : ℕ) → target part.kind part.bits ≡ Some n → (j : ℕ) → j < r.top → IsKept m j → j ≢ n
  pub plain : part.kind ≢ Heap
  pub kept : (j : ℕ) → j < r.top → IsKept m j → (cell_at later.cells j ≡ cell_at r.cells j) × (after.shown j ≡ m.shown j) × (after.owner j ≡ m.owner j)
  pub fresh_more : (j : ℕ) → m.fresh j ≡ true → after.fresh j ≡ true
  pub roots : (j : ℕ) → j < later.top → (cell_at later.cells j).role ≢ role.Inside → (j < r.top) × ((cell_at r.cells j).role ≢ role.Inside)
  pub heaps : (j : ℕ) → j < later.top → (cell_at later.cells j).left_kind ≡ Heap → (j < r.top) × (m.fresh j ≡ true)
  pub spare : later.spare ≡ r.spare - taken
  pub top : later.top ≡ r.top + (taken - r.spare)
  pub same_length : length later.cells ≡ length r.cells

-- whatever is known of the region before, the tree of the part was built
unfoldable pub Gives : Region → Region → Part → Tree → ℕ → Type 0
Gives r later part tree taken = (h : Objects) (m : Marks) → Building h r m → (after : Marks) × Builds h r later m after part tree taken

-- there is room for so many cells
pub record IsRoomy (r : Region) (n : ℕ) : Type 0 where
  pub heap : Objects
  pub marks : Marks
  pub built : Building heap r marks
  pub enough : n ≤ room r
