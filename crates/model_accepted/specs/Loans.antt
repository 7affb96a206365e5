-- Children that are lent: the paths to them in their parent, and the parent's list with all of them put back.
use Rattle.std.specs.Prelude.{◌≡◌, ◌≢◌, ◌⊎◌, ℕ, List, [], ◌∷◌, true, false, nat_eq, if◌then◌else◌}
use Rattle.model_lists.specs.Lists.{StobjList}
use Rattle.model_terms.specs.Worlds.{World, Scope}
use Rattle.model_terms.specs.Classes.{has, repeats}
use Rattle.model_eval.specs.Outcomes.{Stobjs}
use Rattle.model_eval.specs.Keeping.{Loan}
use Rattle.model_eval.specs.PlacesKeeping.{index_path, list_under, with_under}
use Rattle.model_eval.specs.Variables.{list_of, with_list}
use Rattle.model_places.specs.Places.{ArePathsApart, IsPath}
use Rattle.model_accepted.specs.StobjScopes.{IsStobj}
use Rattle.model_accepted.specs.Threaded.{Fits}

abbrev pub children : List (Loan ℕ) → List ℕ
children [] = []
children (l ∷ ls) = l.child ∷ children ls

abbrev pub path_of : Loan ℕ → List ℕ
path_of l = l.field ∷ index_path l.index

-- the path to the child of this name
abbrev pub path_for : List (Loan ℕ) → ℕ → List ℕ
path_for [] x = []
path_for (l ∷ ls) x = if nat_eq x l.child then path_of l else path_for ls x

abbrev pub HaveParent : ℕ → List (Loan ℕ) → Type 0
HaveParent p [] = Unit {0}
HaveParent p (l ∷ ls) = (l.parent ≡ p) × HaveParent p ls

abbrev pub IsApartFrom : List ℕ → List (Loan ℕ) → Type 0
IsApartFrom path [] = Unit {0}
IsApartFrom path (l ∷ ls) = ArePathsApart path (path_of l) × IsApartFrom path ls

-- no child is another or in it
abbrev pub HaveApartPaths : List (Loan ℕ) → Type 0
HaveApartPaths [] = Unit {0}
HaveApartPaths (l ∷ ls) = IsApartFrom (path_of l) ls × HaveApartPaths ls

-- the parent's list once these children are put back
abbrev pub merged : List (Loan ℕ) → Stobjs ℕ → StobjList ℕ → StobjList ℕ
merged [] kids parent = parent
merged (l ∷ ls) kids parent = merged ls kids (with_under (path_of l) (list_of kids l.child) parent)

-- the stobjs around, with the parent so
abbrev pub raised : ℕ → List (Loan ℕ) → Stobjs ℕ → Stobjs ℕ → Stobjs ℕ
raised p ls kids stobjs = with_list p (merged ls kids (list_of stobjs p)) stobjs

-- the loans of these variables
abbrev pub loans_among : List ℕ → List (Loan ℕ) → List (Loan ℕ)
loans_among vars [] = []
loans_among vars (l ∷ ls) = if has vars l.child then l ∷ loans_among vars ls else loans_among vars ls

-- loans of children of one stobj, which has this list: no child is another or in it, and each may be written
pub record AreLent (w : World) (p : ℕ) (parent : StobjList ℕ) (ls : List (Loan ℕ)) : Type 0 where
  pub parents : HaveParent p ls
  pub apart : HaveApartPaths ls
  pub once : repeats (children ls) ≡ false
  pub beside : has (children ls) p ≡ false
  pub paths : (x : ℕ) → has (children ls) x ≡ true → IsPath (path_for ls x) parent
  pub fits : (x : ℕ) → has (children ls) x ≡ true → Fits w x (list_under (path_for ls x) parent)
  pub keeps : (x : ℕ) → has (children ls) x ≡ true → (m new : StobjList ℕ) → Fits w p m → Fits w x new → Fits w p (with_under (path_for ls x) new m)

-- a stobj that is in scope while children are lent: a child, or another stobj that is not the parent
abbrev pub IsInside : Scope → ℕ → List (Loan ℕ) → ℕ → Type 0
IsInside scope p ls x = (has (children ls) x ≡ true) ⊎ ((has (children ls) x ≡ false) × (x ≢ p) × IsStobj scope x)
