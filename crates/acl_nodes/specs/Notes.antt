-- Lists that were noted before they were overwritten, and the roots once they are put back.
use Rattle.std.specs.Prelude.{◌≡◌, ◌⊎◌, ℕ, ◌<◌, ◌≤◌, List, [], ◌∷◌, length, take}
use Rattle.model_lists.specs.Lists.{StobjList}
use Rattle.model_eval.specs.PlacesKeeping.{Place, below, with_list_at}
use Rattle.acl_nodes.specs.Kept.{Kept, place_at, IsRooted}

-- a list under a path of the list of a node
pub record Note : Type 0 where
  pub node : ℕ
  pub path : List ℕ
  pub list : StobjList ℕ

abbrev pub place_noted : List Place → Note → Place
place_noted places n = below (place_at places n.node) n.path

-- the roots with the notes put back, the first of the list first, which is the newest
abbrev pub undone : List Place → List Note → List (StobjList ℕ) → List (StobjList ℕ)
undone places [] roots = roots
undone places (n ∷ ns) roots = undone places ns (with_list_at (place_noted places n) n.list roots)

-- the note is one of these
abbrev pub Among : Note → List Note → Type 0
Among n [] = ⊥
Among n (m ∷ ms) = (m ≡ n) ⊎ Among n ms

-- one of the notes is of a list at the place, or of one that it is in
pub record IsCovered (places : List Place) (notes : List Note) (p : Place) : Type 0 where
  pub note : Note
  pub is_there : Among note notes
  pub rest : List ℕ
  pub is : p ≡ below (place_noted places note) rest

-- put back, the notes give the roots that there were when there were the nodes below this number alone
pub record Remembers (notes : List Note) (first count : ℕ) (kept before : Kept) : Type 0 where
  pub counted : first ≡ length before.places
  pub places : take first kept.places ≡ before.places
  pub roots : take (length before.roots) (undone kept.places notes kept.roots) ≡ before.roots
  pub early : (n : Note) → Among n notes → n.node < first
  pub old : (k : ℕ) → k < first → IsRooted (length before.roots) (place_at kept.places k)
  pub local : (k : ℕ) → first ≤ k → k < count → IsRooted (length before.roots) (place_at kept.places k) → ⊥
