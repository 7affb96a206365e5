-- How the cells of a region make trees, and what holds of every pool.
use Rattle.std.specs.Prelude.{◌≡◌, ◌≢◌, ℕ, ◌+◌, ◌^◌, ◌<◌, ◌≤◌, List, [], ◌∷◌, length, take, map, zero, suc, Bool, true, false, Option, Some, None, ◌⊎◌}
use Rattle.std.specs.List.{sum_by}
use Rattle.std.proofs.Common.{get_or}
use Rattle.model_objects.specs.Object.{Object}
use Rattle.acl_heap.specs.Objects.{Objects, nothing, IsPair, IsCellObject}
use Rattle.acl_pool.specs.declared.cell.Kind.{Kind}
use Rattle.acl_pool.specs.declared.cell.Kind.TheVariants.{Small, Sym, Bits, Big, Str, Cons, Heap}
use Rattle.acl_pool.specs.declared.cell.Role.{Role}
use Rattle.acl_pool.specs.declared.cell.Role.TheVariants as role
use Rattle.acl_pool.specs.declared.cell.Cell.{Cell}
use Rattle.acl_pool.specs.declared.region.Region.{Region}
use Rattle.acl_pool.specs.Roots.{Held, cells_at}
use Rattle.acl_pool.specs.Trees.{Tree, Atom, Bare, Node, size, seen, tree_of, word_with}

abbrev pub Halves : Type 0
Halves = Tree × Tree

abbrev pub size_of : Halves → ℕ
size_of t = 1 + (size t.0 + size t.1)

-- the tree of a part of a kind, where each cell shows its halves
abbrev pub tree_with : (ℕ → Halves) → Kind → ℕ → Tree
tree_with shown Small n = Atom (word_with Small n)
tree_with shown Sym n = Atom (word_with Sym n)
tree_with shown Bits n = Bare n
tree_with shown Big n = Node Big (shown n).0 (shown n).1
tree_with shown Str n = Node Str (shown n).0 (shown n).1
tree_with shown Cons n = Node Cons (shown n).0 (shown n).1
tree_with shown Heap n = Bare n

abbrev pub blank : Cell
blank = record { left = 0; right = 0; link = 0; left_kind = Small; right_kind = Small; role = role.Inside }

abbrev pub cell_at : List Cell → ℕ → Cell
cell_at cs n = get_or cs n blank

-- the halves of a cell, from what the cells show
abbrev pub both : (ℕ → Halves) → Cell → Halves
both shown c = (tree_with shown c.left_kind c.left, tree_with shown c.right_kind c.right)

-- the tree of a part, as far down as so many steps
abbrev pub tree_from : List Cell → ℕ → Kind → ℕ → Tree
tree_from cs zero k n = Bare 0
tree_from cs (suc steps) k n =
    tree_with (λ m. (tree_from cs steps (cell_at cs m).left_kind (cell_at cs m).left, tree_from cs steps (cell_at cs m).right_kind (cell_at cs m).right)) k n

-- the object of a root, if the cell is one
abbrev pub rooted : Role → Halves → Option (Object ℕ)
rooted role.Inside t = None
rooted role.Wide t = Some (seen (Node Big t.0 t.1))
rooted role.Text t = Some (seen (Node Str t.0 t.1))
rooted role.Pair t = Some (seen (Node Cons t.0 t.1))

unfoldable pub place_at : List Cell → Cell → Option (Object ℕ)
place_at cs c = rooted c.role (tree_from cs c.link c.left_kind c.left, tree_from cs c.link c.right_kind c.right)

-- what the region holds
abbrev pub held_of : Region → Held
held_of r = record { places = map (place_at r.cells) (take r.top r.cells); spare = r.spare }

-- who points to a cell: none, a half of another cell, or the list of the trees that were given back
pub data Owner : Type 0 where
  Alone : Owner
  Under : ℕ → Bool → Owner
  Listed : Owner

-- what is said of cells and is not stored: their halves, their owners, the trees that were given back, and which cells
-- were taken since a copy was begun
pub record Marks : Type 0 where
  pub shown : ℕ → Halves
  pub owner : ℕ → Owner
  pub given : List ℕ
  pub fresh : ℕ → Bool

-- the cell that a part of a kind points to
abbrev pub target : Kind → ℕ → Option ℕ
target Small n = None
target Sym n = None
target Bits n = None
target Big n = Some n
target Str n = Some n
target Cons n = Some n
target Heap n = None

abbrev pub target_at : Bool → Cell → Option ℕ
target_at true c = target c.left_kind c.left
target_at false c = target c.right_kind c.right

-- a pair that is still to be copied shows the halves of its object's tree
abbrev pub halves_of : Tree → Halves
halves_of (Atom w) = (Bare 0, Bare 0)
halves_of (Bare n) = (Bare 0, Bare 0)
halves_of (Node k l r) = (l, r)

abbrev pub halves_with : Objects → (ℕ → Halves) → Kind → Cell → Halves
halves_with h shown Small c = both shown c
halves_with h shown Sym c = both shown c
halves_with h shown Bits c = both shown c
halves_with h shown Big c = both shown c
halves_with h shown Str c = both shown c
halves_with h shown Cons c = both shown c
halves_with h shown Heap c = halves_of (tree_of (get_or h c.left nothing))

abbrev pub halves : Objects → (ℕ → Halves) → Cell → Halves
halves h shown c = halves_with h shown c.left_kind c

abbrev pub In : ℕ → List ℕ → Type 0
In k [] = ⊥
In k (n ∷ ns) = (k ≡ n) ⊎ In k ns

-- the cells are linked in this order, and none stands twice
abbrev pub IsChain : List Cell → ℕ → List ℕ → Type 0
IsChain cs first [] = Unit {0}
IsChain cs first (n ∷ ns) = (first ≡ n) × (In n ns → ⊥) × IsChain cs (cell_at cs n).link ns

-- each cell below the top shows its halves, and has one owner
pub record Fits (h : Objects) (cs : List Cell) (top first : ℕ) (m : Marks) : Type 0 where
  pub room : top ≤ length cs
  pub shows : (i : ℕ) → i < top → m.shown i ≡ halves h m.shown (cell_at cs i)
  pub owned : (i : ℕ) (s : Bool) (n : ℕ) → i < top → target_at s (cell_at cs i) ≡ Some n → (n < top) × (m.owner n ≡ Under i s)
  pub roots : (i : ℕ) → i < top → (cell_at cs i).role ≢ role.Inside → m.owner i ≡ Alone
  pub chained : IsChain cs first m.given
  pub listed : (k : ℕ) → In k m.given → (k < top) × (m.owner k ≡ Listed)
  pub fresh_owned : (n : ℕ) → m.fresh n ≡ true → (m.owner n ≢ Listed) × ((p : ℕ) (s : Bool) → m.owner n ≡ Under p s → m.fresh p ≡ true)
  pub waits : (i : ℕ) → i < top → (cell_at cs i).left_kind ≡ Heap → (m.fresh i ≡ true) × ((cell_at cs i).left < length h) × IsPair (get_or h (cell_at cs i).left nothing)

-- the kind of the word of a root
abbrev pub kind_of_role : Role → Kind
kind_of_role role.Inside = Small
kind_of_role role.Wide = Big
kind_of_role role.Text = Str
kind_of_role role.Pair = Cons

-- a root has its number of cells, and the tree of an object that a cell may hold
pub record IsRootCell (c : Cell) (t : Halves) : Type 0 where
  pub counts : c.link ≡ size_of t
  pub tree : Node (kind_of_role c.role) t.0 t.1 ≡ tree_of (seen (Node (kind_of_role c.role) t.0 t.1))
  pub object : IsCellObject (seen (Node (kind_of_role c.role) t.0 t.1))

abbrev pub most_cells : ℕ
most_cells = 2 ^ 58

-- no copy is begun, and each root has its object
pub record Readable (r : Region) (m : Marks) : Type 0 where
  pub fits : Fits [] r.cells r.top r.given m
  pub calm : (n : ℕ) → m.fresh n ≡ false
  pub roots : (i : ℕ) → i < r.top → (cell_at r.cells i).role ≢ role.Inside → IsRootCell (cell_at r.cells i) (m.shown i)

-- what holds of every pool, with the marks
pub record Sound (r : Region) (used : ℕ) (m : Marks) : Type 0 where
  pub reads : Readable r m
  pub spares : r.spare ≡ sum_by (λ k. size_of (m.shown k)) m.given
  pub uses : used ≡ sum_by cells_at (held_of r).places
  pub counts : used + r.spare ≡ r.top
  pub bounded : length r.cells ≤ most_cells

abbrev pub IsSound : Region → ℕ → Type 0
IsSound r used = (m : Marks) × Sound r used m
