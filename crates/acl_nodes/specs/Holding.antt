-- What nodes hold is what the lists of the roots say at the nodes' places.
use Rattle.std.specs.Prelude.{◌≡◌, ℕ, ◌<◌, List, [], ◌∷◌, length, slice_get, Some}
use Rattle.model_lists.specs.Lists.{StobjList}
use Rattle.model_eval.specs.PlacesKeeping.{Place, below, list_at}
use Rattle.model_places.specs.Places.{IsPlace}
use Rattle.acl_nodes.specs.Kept.{Kept, place_at, field_at, spine, IsClear}
use Rattle.acl_nodes.specs.Nodes.{Part, Own, Child, Children, Node, part_at, width, IsOwn}

-- a node made before this one, at this place
abbrev pub IsChild : Kept → ℕ → Place → ℕ → Type 0
IsChild kept k at c = (c < k) × (place_at kept.places c ≡ at)

-- a part of the node of number k shows the list at this place; `shown` says which list a field of its own shows
abbrev pub Shows : {O : Type 0} → (O → StobjList ℕ → Type 0) → Kept → ℕ → Place → Part O → Type 0
Shows shown kept k at (Own o) = shown o (list_at kept.roots at)
Shows shown kept k at (Child c) = IsChild kept k at c
Shows shown kept k at (Children cs) =
    (spine (list_at kept.roots at) ≡ Some (length cs)) × ((i c : ℕ) → slice_get cs i ≡ Some c → IsChild kept k (below at (i ∷ [])) c)

-- each node shows the list at its place, no two are at one place, and none is in a field of another's own
pub record Holds {O : Type 0} (shown : O → StobjList ℕ → Type 0) (nodes : List (Node O)) (kept : Kept) : Type 0 where
  pub counted : length kept.places ≡ length nodes
  pub there : (k : ℕ) → k < length nodes → IsPlace kept.roots (place_at kept.places k)
  pub widths : (k : ℕ) → k < length nodes → spine (list_at kept.roots (place_at kept.places k)) ≡ Some (width nodes k)
  pub shows : (k f : ℕ) (part : Part O) → part_at nodes k f ≡ Some part → Shows shown kept k (field_at kept.places k f) part
  pub clear : (j k f : ℕ) (part : Part O) → j < length nodes → part_at nodes k f ≡ Some part → IsOwn part
      → IsClear (place_at kept.places j) (field_at kept.places k f)
  pub distinct : (j k : ℕ) → j < length nodes → k < length nodes → place_at kept.places j ≡ place_at kept.places k → j ≡ k
