-- New objects: the nodes pushed for them hold the lists that they begin as.
use Rattle.std.specs.Prelude.{◌≡◌, ℕ, ◌<◌, ◌≤◌, List, [], ◌∷◌, ◌++◌, length, take, slice_get, Some}
use Rattle.model_lists.specs.Lists.{StobjList}
use Rattle.model_eval.specs.PlacesKeeping.{Place, At, below, list_at}
use Rattle.model_places.specs.Places.{AreApart, IsPlace}
use Rattle.acl_nodes.specs.Kept.{Kept, place_at, items_of}
use Rattle.acl_nodes.specs.Nodes.{Part, Node, IsOwn}
use Rattle.acl_nodes.specs.Holding.{IsChild, Shows, Holds}

-- ---- nodes pushed

abbrev pub with_places : List Place → Kept → Kept
with_places more kept = record kept { places = kept.places ++ more }

-- the list is at the place, and no node is there or below
pub record IsReady {O : Type 0} (shown : O → StobjList ℕ → Type 0) (nodes : List (Node O)) (kept : Kept) (at : Place) (l : StobjList ℕ) : Type 0 where
  pub holds : Holds shown nodes kept
  pub there : IsPlace kept.roots at
  pub shows_it : list_at kept.roots at ≡ l
  pub free : (j : ℕ) → j < length kept.places → AreApart (place_at kept.places j) at

abbrev pub IsFrom : Place → Place → Type 0
IsFrom at p = (rest : List ℕ) × (p ≡ below at rest)

-- nodes were pushed, the places of all at this one or below
pub record Pushed {O : Type 0} (shown : O → StobjList ℕ → Type 0) (kept : Kept) (at : Place) (after : List (Node O)) : Type 0 where
  pub more : List Place
  pub holds : Holds shown after (with_places more kept)
  pub from : (j : ℕ) → j < length more → IsFrom at (place_at more j)

-- a node for the object at the place
abbrev pub MakesNode : {O : Type 0} → (O → StobjList ℕ → Type 0) → StobjList ℕ → List (Node O) → List (Node O) → ℕ → Type 0
MakesNode shown l nodes after c = (kept : Kept) (at : Place) → IsReady shown nodes kept at l → (p : Pushed shown kept at after) × IsChild (with_places p.more kept) (length after) at c

-- a field that shows the list at the place
abbrev pub MakesPart : {O : Type 0} → (O → StobjList ℕ → Type 0) → StobjList ℕ → List (Node O) → List (Node O) → Part O → Type 0
MakesPart shown l nodes after part =
    (kept : Kept) (at : Place) → IsReady shown nodes kept at l
    → (p : Pushed shown kept at after) × Shows shown (with_places p.more kept) (length after) at part × ((j : ℕ) → j < length p.more → IsOwn part → ⊥)

-- a place in one of the fields, which has nodes
pub record IsIn {O : Type 0} (made : List (Part O)) (at p : Place) : Type 0 where
  pub field : ℕ
  pub part : Part O
  pub is_there : slice_get made field ≡ Some part
  pub has_nodes : IsOwn part → ⊥
  pub rest : List ℕ
  pub is : p ≡ below at (field ∷ rest)

-- the first fields of an object with these items
pub record Filled {O : Type 0} (shown : O → StobjList ℕ → Type 0) (kept : Kept) (at : Place) (after : List (Node O)) (made : List (Part O)) : Type 0 where
  pub more : List Place
  pub holds : Holds shown after (with_places more kept)
  pub inside : (j : ℕ) → j < length more → IsIn made at (place_at more j)
  pub shows : (f : ℕ) (part : Part O) → slice_get made f ≡ Some part → Shows shown (with_places more kept) (length after) (below at (f ∷ [])) part

abbrev pub MakesParts : {O : Type 0} → (O → StobjList ℕ → Type 0) → List (StobjList ℕ) → List (Node O) → List (Node O) → List (Part O) → Type 0
MakesParts shown ls nodes after made = (kept : Kept) (at : Place) → IsReady shown nodes kept at (items_of ls) → Filled shown kept at after made

-- the old nodes are still there
abbrev pub Extends : {O : Type 0} → List (Node O) → List (Node O) → Type 0
Extends nodes after = (length nodes ≤ length after) × (take (length nodes) after ≡ nodes)

-- ---- a new root

-- the new root's list comes last, and so do the places of its nodes, all in it
pub record IsCreated {O : Type 0} (shown : O → StobjList ℕ → Type 0) (kept : Kept) (l : StobjList ℕ) (after : List (Node O)) (c : ℕ) : Type 0 where
  pub more : List Place
  pub holds : Holds shown after (record { roots = kept.roots ++ l ∷ []; places = kept.places ++ more })
  pub inside : (j : ℕ) → j < length more → IsFrom (At (length kept.roots) []) (place_at more j)
  pub root : place_at (kept.places ++ more) c ≡ At (length kept.roots) []
  pub below_all : c < length after
