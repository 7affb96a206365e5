-- What a write at a place does to the lists at this place and at others.
use Rattle.std.specs.Prelude.{◌≡◌, ℕ, List}
use Rattle.model_lists.specs.Lists.{StobjList}
use Rattle.model_eval.specs.PlacesKeeping.{Place, list_at, with_list_at}
use Rattle.model_places.specs.Places.{AreApart, IsPlace}

pub record PlacesAreWritten : Type 0 where
  pub same : (p : Place) (x : StobjList ℕ) (roots : List (StobjList ℕ)) → IsPlace roots p → list_at (with_list_at p x roots) p ≡ x
  pub others : (p q : Place) (x : StobjList ℕ) (roots : List (StobjList ℕ)) → AreApart p q → IsPlace roots q → list_at (with_list_at q x roots) p ≡ list_at roots p
  pub again : (p : Place) (roots : List (StobjList ℕ)) → with_list_at p (list_at roots p) roots ≡ roots
  pub twice : (p : Place) (x y : StobjList ℕ) (roots : List (StobjList ℕ)) → with_list_at p x (with_list_at p y roots) ≡ with_list_at p x roots
  pub swapped : (p q : Place) (x y : StobjList ℕ) (roots : List (StobjList ℕ)) → AreApart p q → with_list_at p x (with_list_at q y roots) ≡ with_list_at q y (with_list_at p x roots)
