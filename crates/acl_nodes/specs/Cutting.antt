-- The nodes from a number on are cut off.
use Rattle.std.specs.Prelude.{ℕ, ◌<◌, List, take}
use Rattle.model_lists.specs.Lists.{StobjList}
use Rattle.acl_nodes.specs.Kept.{Kept, place_at, IsRooted}
use Rattle.acl_nodes.specs.Nodes.{Node}
use Rattle.acl_nodes.specs.Holding.{Holds}

-- the first places are left, and the roots that they are in, whichever more there are
abbrev pub Cuts : {O : Type 0} → (O → StobjList ℕ → Type 0) → List (Node O) → ℕ → List (Node O) → Type 0
Cuts shown nodes m after = (kept : Kept) → Holds shown nodes kept → (r : ℕ) → ((k : ℕ) → k < m → IsRooted r (place_at kept.places k))
    → Holds shown after (record { roots = take r kept.roots; places = take m kept.places })
