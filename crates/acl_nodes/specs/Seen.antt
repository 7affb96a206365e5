-- The list that a node stands for, through its children.
use Rattle.std.specs.Prelude.{◌≡◌, ℕ, zero, suc, ◌<◌, ◌+◌, List, [], ◌∷◌, map, length}
use Rattle.model_lists.specs.Lists.{StobjList, End}
use Rattle.model_eval.specs.PlacesKeeping.{list_at}
use Rattle.acl_nodes.specs.Kept.{Kept, place_at, items_of}
use Rattle.acl_nodes.specs.Nodes.{Part, Own, Child, Children, Node}
use Rattle.acl_nodes.specs.Holding.{Holds}

-- the parts of a node
abbrev pub parts_of : {O : Type 0} → List (Node O) → ℕ → List (Part O)
parts_of [] k = []
parts_of (node ∷ nodes) zero = node.parts
parts_of (node ∷ nodes) (suc k) = parts_of nodes k

-- the list of a part, by that of a field of its own and that of a child
abbrev pub part_seen : {O : Type 0} → (O → StobjList ℕ) → (ℕ → StobjList ℕ) → Part O → StobjList ℕ
part_seen own child (Own o) = own o
part_seen own child (Child c) = child c
part_seen own child (Children cs) = items_of (map child cs)

-- the list of a node with so many levels of children
abbrev pub seen_within : {O : Type 0} → (O → StobjList ℕ) → ℕ → List (Node O) → ℕ → StobjList ℕ
seen_within own zero nodes k = End
seen_within own (suc d) nodes k = items_of (map (part_seen own (seen_within own d nodes)) (parts_of nodes k))

-- children have smaller numbers, so there are no more levels than the number
abbrev pub seen : {O : Type 0} → (O → StobjList ℕ) → List (Node O) → ℕ → StobjList ℕ
seen own nodes k = seen_within own (k + 1) nodes k

-- where each field of its own shows its list, the list at a node's place is the one that the node stands for, whatever the nodes are seen as
abbrev pub StandFor : Type 0 → Type 0
StandFor O = (own : O → StobjList ℕ) (nodes : List (Node O)) (kept : Kept) → Holds (λ o l. l ≡ own o) nodes kept → (k : ℕ) → k < length nodes
    → list_at kept.roots (place_at kept.places k) ≡ seen own nodes k
