-- Places of a store that are there, and places that are neither at nor below each other.
use Rattle.std.specs.Prelude.{◌≡◌, ◌≢◌, ◌⊎◌, ℕ, ◌<◌, List, [], ◌∷◌, length}
use Rattle.model_lists.specs.Lists.{StobjList, size, item}
use Rattle.model_eval.specs.PlacesKeeping.{Place, Nowhere, At, root_list}

-- neither path begins the other
abbrev pub ArePathsApart : List ℕ → List ℕ → Type 0
ArePathsApart [] q = ⊥
ArePathsApart (n ∷ p) [] = ⊥
ArePathsApart (n ∷ p) (m ∷ q) = (n ≢ m) ⊎ ((n ≡ m) × ArePathsApart p q)

-- neither place is the other or below it
abbrev pub AreApart : Place → Place → Type 0
AreApart Nowhere q = ⊥
AreApart (At r p) Nowhere = ⊥
AreApart (At r p) (At s q) = (r ≢ s) ⊎ ((r ≡ s) × ArePathsApart p q)

-- the list has items on the whole path
abbrev pub IsPath : {S : Type 0} → List ℕ → StobjList S → Type 0
IsPath [] l = Unit {0}
IsPath (n ∷ path) l = (n < size l) × IsPath path (item n l)

abbrev pub IsPlace : {S : Type 0} → List (StobjList S) → Place → Type 0
IsPlace roots Nowhere = ⊥
IsPlace roots (At r path) = (r < length roots) × IsPath path (root_list roots r)
