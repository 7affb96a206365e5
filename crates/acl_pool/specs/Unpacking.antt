-- Trees that are copied out: what is to be done, and what it makes.
use Rattle.std.specs.Prelude.{◌≡◌, ℕ, ◌+◌, ◌*◌, ◌/◌, ◌<◌, ◌≤◌, List, [], ◌∷◌, ◌++◌, length, Option, Some, None}
use Rattle.model_objects.specs.Object.{Object, Pair, weight, max_weight}
use Rattle.acl_base.specs.declared.Word.{Word}
use Rattle.acl_heap.specs.Objects.{Objects, object_of, Lies, Extends}
use Rattle.acl_pool.specs.declared.cell.Part.{Part}
use Rattle.acl_pool.specs.declared.region.Region.{Region}
use Rattle.acl_pool.specs.declared.unpacking.Task.{Task}
use Rattle.acl_pool.specs.declared.unpacking.Task.TheVariants.{Visit, Join}
use Rattle.acl_pool.specs.Trees.{Tree, size, seen, tree_of, chain}
use Rattle.acl_pool.specs.Cells.{tree_with, tree_from, target, Marks, Readable}

-- the tree of a part, and its object
unfoldable pub part_tree : Region → Part → Tree
part_tree r p = tree_from r.cells (r.top + 1) p.kind p.bits

abbrev pub part_object : Region → Part → Object ℕ
part_object r p = seen (part_tree r p)

-- the part has the tree of an object
pub record Shows (r : Region) (p : Part) : Type 0 where
  pub marks : Marks
  pub reads : Readable r marks
  pub object : Object ℕ
  pub tree : tree_with marks.shown p.kind p.bits ≡ tree_of object
  pub small : size (tree_of object) ≤ r.top
  pub back : seen (tree_of object) ≡ object
  pub light : weight object ≤ max_weight
  pub low : (x : ℕ) → target p.kind p.bits ≡ Some x → x < r.top

-- the part has the cells of so many numbers
pub record Lists (r : Region) (p : Part) (ns : List ℕ) : Type 0 where
  pub marks : Marks
  pub reads : Readable r marks
  pub tree : tree_with marks.shown p.kind p.bits ≡ chain ns
  pub low : (x : ℕ) → target p.kind p.bits ≡ Some x → x < r.top

-- .. and they are those of so many bytes
pub record HasBytes (r : Region) (p : Part) (len : ℕ) : Type 0 where
  pub numbers : List ℕ
  pub lists : Lists r p numbers
  pub count : length numbers ≡ (len + 7) / 8
  pub few : length numbers ≤ r.top
  pub short : len ≤ max_weight

abbrev pub AreShown : Region → List Task → Type 0
AreShown r [] = Unit {0}
AreShown r (Visit p ∷ ts) = Shows r p × AreShown r ts
AreShown r (Join ∷ ts) = AreShown r ts

abbrev pub AreLying : Objects → List Word → Type 0
AreLying h [] = Unit {0}
AreLying h (w ∷ ws) = Lies h w × AreLying h ws

-- the objects of the words that were made, the last one first
abbrev pub stack : Objects → List Word → List (Object ℕ)
stack h [] = []
stack h (w ∷ ws) = stack h ws ++ object_of h w ∷ []

-- a pair of the two objects on the top
abbrev pub joined : List (Object ℕ) → Option (List (Object ℕ))
joined [] = None
joined (d ∷ []) = None
joined (d ∷ (a ∷ os)) = Some (Pair a d ∷ os)

abbrev pub visited : Object ℕ → Option (List (Object ℕ)) → Option (List (Object ℕ))
visited o None = None
visited o (Some os) = Some (o ∷ os)

abbrev pub joined_some : Option (List (Object ℕ)) → Option (List (Object ℕ))
joined_some None = None
joined_some (Some os) = joined os

abbrev pub step : Region → Task → Option (List (Object ℕ)) → Option (List (Object ℕ))
step r (Visit p) os = visited (part_object r p) os
step r Join os = joined_some os

-- what the tasks make, the last one first
abbrev pub finish : Region → List Task → Option (List (Object ℕ)) → Option (List (Object ℕ))
finish r [] os = os
finish r (t ∷ ts) os = step r t (finish r ts os)

abbrev pub task_work : Region → Task → ℕ
task_work r (Visit p) = 1 + 3 * size (part_tree r p)
task_work r Join = 1

abbrev pub work : Region → List Task → ℕ
work r [] = 0
work r (t ∷ ts) = task_work r t + work r ts

-- the tree of a part was copied, or its parts are to be
pub record Visits (r : Region) (p : Part) (before behind : Objects) (ts later : List Task) (made more : List Word) : Type 0 where
  pub shown : AreShown r ts → AreShown r later
  pub lies : AreLying behind more
  pub same : finish r later (Some (stack behind more)) ≡ finish r ts (Some (part_object r p ∷ stack before made))
  pub less : work r later < work r ts + (1 + 3 * size (part_tree r p))

-- a pair was made of the last two
pub record Joins (before behind : Objects) (made more : List Word) : Type 0 where
  pub lies : AreLying behind more
  pub same : joined (stack before made) ≡ Some (stack behind more)

-- what was made and what is still to be done give the object
pub record Unpacks (r : Region) (first h : Objects) (ts : List Task) (made : List Word) (o : Object ℕ) : Type 0 where
  pub grows : Extends first h
  pub shown : AreShown r ts
  pub lies : AreLying h made
  pub whole : finish r ts (Some (stack h made)) ≡ Some (o ∷ [])
