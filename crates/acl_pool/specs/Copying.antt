-- A tree that is copied in part: the pairs that wait, and what is still to be taken for them.
use Rattle.std.specs.Prelude.{◌≡◌, ◌≢◌, ℕ, ◌+◌, ◌-◌, ◌<◌, ◌≤◌, List, [], ◌∷◌, ◌++◌, length, true, false, Some, ◌⊎◌}
use Rattle.std.proofs.Common.{get_or}
use Rattle.model_objects.specs.Object.{Object, max_weight}
use Rattle.acl_heap.specs.Objects.{Objects, nothing}
use Rattle.acl_pool.specs.declared.cell.Kind.TheVariants.{Heap}
use Rattle.acl_pool.specs.declared.cell.Role.TheVariants as role
use Rattle.acl_pool.specs.declared.cell.Part.{Part}
use Rattle.acl_pool.specs.declared.copying.Waiting.{Waiting}
use Rattle.acl_pool.specs.declared.region.Region.{Region}
use Rattle.acl_pool.specs.Trees.{IsNarrow, size, tree_of}
use Rattle.acl_pool.specs.Cells.{Halves, tree_with, target, Marks, Alone, cell_at, In, IsChain}
use Rattle.acl_pool.specs.Building.{Building, room, IsKept}

-- the cells that are still to be taken for the pairs that wait
abbrev pub needs : (ℕ → Halves) → List ℕ → ℕ
needs shown [] = 0
needs shown (n ∷ ns) = (size (shown n).0 + size (shown n).1) + needs shown ns

-- the object of a pair that waits in a cell
abbrev pub waiting_at : Objects → Region → ℕ → Object ℕ
waiting_at h r n = get_or h (cell_at r.cells n).left nothing

-- cells that may wait: they were taken since the copy was begun
abbrev pub AreFresh : Region → Marks → List ℕ → Type 0
AreFresh r m work = (j : ℕ) → In j work → (j < r.top) × (m.fresh j ≡ true)

-- the tree of an object was begun: what was taken is built, and more pairs wait; all that is kept stays
pub record Begins (h : Objects) (r later : Region) (m after : Marks) (before behind : Waiting) (part : Part) (o : Object ℕ) (more : List ℕ) (taken : ℕ) : Type 0 where
  pub built : Building h later after
  pub shows : tree_with after.shown part.kind part.bits ≡ tree_of o
  pub free : (n : ℕ) → target part.kind part.bits ≡ Some n → (n < later.top) × (after.owner n ≡ Alone) × ((cell_at later.cells n).role ≡ role.Inside) × (after.fresh n ≡ true)
  pub new : (n : ℕ) → target part.kind part.bits ≡ Some n → (j : ℕ) → j < r.top → IsKept m j → j ≢ n
  pub plain : part.kind ≢ Heap
  pub kept : (j : ℕ) → j < r.top → IsKept m j → (cell_at later.cells j ≡ cell_at r.cells j) × (after.shown j ≡ m.shown j) × (after.owner j ≡ m.owner j)
  pub fresh_more : (j : ℕ) → m.fresh j ≡ true → after.fresh j ≡ true
  pub roots : (j : ℕ) → j < later.top → (cell_at later.cells j).role ≢ role.Inside → (j < r.top) × ((cell_at r.cells j).role ≢ role.Inside)
  pub heaps : (j : ℕ) → j < later.top → (cell_at later.cells j).left_kind ≡ Heap → In j more ⊎ ((j < r.top) × (m.fresh j ≡ true))
  pub spare : later.spare ≡ r.spare - taken
  pub top : later.top ≡ r.top + (taken - r.spare)
  pub same_length : length later.cells ≡ length r.cells
  pub sizes : taken + needs after.shown more ≡ size (tree_of o)
  pub few : length more ≤ taken
  pub waits : (j : ℕ) → In j more → (j < later.top) × (after.fresh j ≡ true) × ((cell_at later.cells j).left_kind ≡ Heap)
  pub apart : (j : ℕ) → In j more → (k : ℕ) → k < r.top → IsKept m k → k ≢ j
  pub chained : (work : List ℕ) → AreFresh r m work → IsChain r.cells before.first work → IsChain later.cells behind.first (more ++ work)
  pub counts : behind.count ≡ before.count + length more
  pub narrow : ((j : ℕ) → In j more → IsNarrow (waiting_at h later j)) → IsNarrow o

-- whatever is known of the region before, the tree of the object was begun
unfoldable pub Starts : Objects → Region → Region → Waiting → Waiting → Part → Object ℕ → Type 0
Starts h r later before behind part o =
    (m : Marks) → Building h r m → (after : Marks) × ((more : List ℕ) × ((taken : ℕ) × Begins h r later m after before behind part o more taken))

-- a copy of an object that was begun in a region, so far
pub record Copying (h : Objects) (r later : Region) (m after : Marks) (waiting : Waiting) (part : Part) (o : Object ℕ) (work : List ℕ) (taken : ℕ) : Type 0 where
  pub built : Building h later after
  pub shows : tree_with after.shown part.kind part.bits ≡ tree_of o
  pub free : (n : ℕ) → target part.kind part.bits ≡ Some n → (n < later.top) × (after.owner n ≡ Alone) × ((cell_at later.cells n).role ≡ role.Inside) × (after.fresh n ≡ true)
  pub new : (n : ℕ) → target part.kind part.bits ≡ Some n → (j : ℕ) → j < r.top → m.owner j ≡ Alone → j ≢ n
  pub plain : part.kind ≢ Heap
  pub kept : (j : ℕ) → j < r.top → m.owner j ≡ Alone → (cell_at later.cells j ≡ cell_at r.cells j) × (after.shown j ≡ m.shown j) × (after.owner j ≡ Alone)
  pub calm : (j : ℕ) → j < r.top → (cell_at r.cells j).left_kind ≢ Heap
  pub roots : (j : ℕ) → j < later.top → (cell_at later.cells j).role ≢ role.Inside → (j < r.top) × ((cell_at r.cells j).role ≢ role.Inside)
  pub heaps : (j : ℕ) → j < later.top → (cell_at later.cells j).left_kind ≡ Heap → In j work
  pub spare : later.spare ≡ r.spare - taken
  pub top : later.top ≡ r.top + (taken - r.spare)
  pub same_length : length later.cells ≡ length r.cells
  pub sizes : taken + needs after.shown work ≡ size (tree_of o)
  pub few : length work ≤ taken
  pub waits : (j : ℕ) → In j work → (j < later.top) × (after.fresh j ≡ true) × ((cell_at later.cells j).left_kind ≡ Heap)
  pub chained : IsChain later.cells waiting.first work
  pub counts : waiting.count ≡ length work
  pub narrow : ((j : ℕ) → In j work → IsNarrow (waiting_at h later j)) → IsNarrow o
  pub enough : size (tree_of o) ≤ room r
  pub light : size (tree_of o) ≤ max_weight

-- a region where no copy is begun, with room for so many cells
pub record IsCalm (r : Region) (m : Marks) : Type 0 where
  pub built : Building [] r m
  pub calm : (n : ℕ) → m.fresh n ≡ false

pub record HasRoom (r : Region) (n : ℕ) : Type 0 where
  pub marks : Marks
  pub calm : IsCalm r marks
  pub enough : n ≤ room r

-- an object is being copied
pub record IsCopying (h : Objects) (r : Region) (waiting : Waiting) : Type 0 where
  pub start : Region
  pub marks : Marks
  pub now : Marks
  pub part : Part
  pub object : Object ℕ
  pub work : List ℕ
  pub taken : ℕ
  pub copying : Copying h start r marks now waiting part object work taken

-- whatever is copied, its copy goes on
unfoldable pub Continues : Objects → Region → Region → Waiting → Waiting → Type 0
Continues h r later before behind =
    (start : Region) (m now : Marks) (part : Part) (o : Object ℕ) (work : List ℕ) (taken : ℕ) → Copying h start r m now before part o work taken
    → (after : Marks) × ((more : List ℕ) × ((all : ℕ) × Copying h start later m after behind part o more all))

-- the copy of an object, so far
unfoldable pub Copies : Objects → Region → Region → Waiting → Part → Object ℕ → Type 0
Copies h r later waiting part o = (m : Marks) → IsCalm r m → (after : Marks) × ((work : List ℕ) × ((taken : ℕ) × Copying h r later m after waiting part o work taken))

-- the copy of an object, to the end
unfoldable pub Copied : Objects → Region → Region → Part → Object ℕ → Type 0
Copied h r later part o = (m : Marks) → IsCalm r m → (after : Marks) × ((waiting : Waiting) × ((taken : ℕ) × Copying h r later m after waiting part o [] taken))
