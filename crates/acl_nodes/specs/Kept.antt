-- What nodes are seen as: the lists of its roots, and the place of each node by its number.
use Rattle.std.specs.Prelude.{◌≡◌, ◌⊎◌, ℕ, zero, suc, ◌<◌, List, [], ◌∷◌, Option, Some, None, option_map}
use Rattle.model_lists.specs.Lists.{StobjList, Value, Pairs, End, Item}
use Rattle.model_eval.specs.PlacesKeeping.{Place, Nowhere, At, below, with_list_at}
use Rattle.model_places.specs.Places.{AreApart}

pub record Kept : Type 0 where
  pub roots : List (StobjList ℕ)
  pub places : List Place

-- the place of the node with this number
abbrev pub place_at : List Place → ℕ → Place
place_at [] n = Nowhere
place_at (p ∷ ps) zero = p
place_at (p ∷ ps) (suc n) = place_at ps n

-- a field's place
abbrev pub field_at : List Place → ℕ → ℕ → Place
field_at places n f = below (place_at places n) (f ∷ [])

-- another list at a field
abbrev pub with_field : ℕ → ℕ → StobjList ℕ → Kept → Kept
with_field n f l kept = record kept { roots = with_list_at (field_at kept.places n f) l kept.roots }

-- ---- lists

abbrev pub items_of : List (StobjList ℕ) → StobjList ℕ
items_of [] = End
items_of (x ∷ xs) = Item x (items_of xs)

-- how many items there are before the end, where there is one
abbrev pub spine : StobjList ℕ → Option ℕ
spine (Value o) = None
spine (Pairs ps) = None
spine End = Some 0
spine (Item first rest) = option_map suc (spine rest)

-- ---- places

-- the second place is further on
pub record IsAbove (p q : Place) : Type 0 where
  pub next : ℕ
  pub more : List ℕ
  pub is : q ≡ below p (next ∷ more)

-- what is written at the second place changes no list at the first, but perhaps deep in it
abbrev pub IsClear : Place → Place → Type 0
IsClear p q = AreApart p q ⊎ IsAbove p q

-- a root below this number
abbrev pub IsRooted : ℕ → Place → Type 0
IsRooted r Nowhere = ⊥
IsRooted r (At s path) = s < r
