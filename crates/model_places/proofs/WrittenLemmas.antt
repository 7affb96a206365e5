-- Two writes, one after the other.
use Rattle.std.proofs.Common.{◌≡◌, ℕ, zero, suc, List, [], ◌∷◌, ◌++◌, refl, sym, ap, ◌∙◌, subst, inl, inr}
use Rattle.std.specs.Prelude.{◌≢◌, ◌⊎◌}
use Rattle.model_lists.specs.Lists.{StobjList}
use Rattle.model_eval.specs.PlacesKeeping.{Place, Nowhere, At, below, list_under, with_under, root_list, with_root, list_at, with_list_at}
use Rattle.model_places.specs.Places.{ArePathsApart, AreApart}
use Rattle.model_places.specs.Laws.{PlacesAreWritten}
use Rattle.model_places.proofs.PathLemmas.{under_twice, under_commutes, under_unchanged, root_kept, with_both, at_same, at_other}

-- ---- two writes

abbrev pub modified : ℕ → (StobjList ℕ → StobjList ℕ) → List (StobjList ℕ) → List (StobjList ℕ)
modified n g [] = []
modified zero g (l ∷ ls) = g l ∷ ls
modified (suc n) g (l ∷ ls) = l ∷ modified n g ls

is_modified : (n : ℕ) (g : StobjList ℕ → StobjList ℕ) (ls : List (StobjList ℕ)) → with_root n (g (root_list ls n)) ls ≡ modified n g ls
is_modified n g [] = refl
is_modified zero g (l ∷ ls) = refl
is_modified (suc n) g (l ∷ ls) = ap (λ (ks : List (StobjList ℕ)). l ∷ ks) (is_modified n g ls)

pub modified_both : (n : ℕ) (g h k : StobjList ℕ → StobjList ℕ) (ls : List (StobjList ℕ)) → ((l : StobjList ℕ) → g (h l) ≡ k l) → modified n g (modified n h ls) ≡ modified n k ls
modified_both n g h k [] e = refl
modified_both zero g h k (l ∷ ls) e = ap (λ (x : StobjList ℕ). x ∷ ls) (e l)
modified_both (suc n) g h k (l ∷ ls) e = ap (λ (ks : List (StobjList ℕ)). l ∷ ks) (modified_both n g h k ls e)

modified_others : (n m : ℕ) (g h : StobjList ℕ → StobjList ℕ) (ls : List (StobjList ℕ)) → n ≢ m → modified n g (modified m h ls) ≡ modified m h (modified n g ls)
modified_others n m g h [] d = refl
modified_others zero zero g h (l ∷ ls) d = absurd (d refl)
modified_others zero (suc m) g h (l ∷ ls) d = refl
modified_others (suc n) zero g h (l ∷ ls) d = refl
modified_others (suc n) (suc m) g h (l ∷ ls) d = ap (λ (ks : List (StobjList ℕ)). l ∷ ks) (modified_others n m g h ls (λ e. d (ap suc e)))

pub written_is : (r : ℕ) (p : List ℕ) (x : StobjList ℕ) (roots : List (StobjList ℕ)) → with_list_at (At r p) x roots ≡ modified r (with_under p x) roots
written_is r p x roots = is_modified r (with_under p x) roots

pub written_twice : (p : Place) (x y : StobjList ℕ) (roots : List (StobjList ℕ)) → with_list_at p x (with_list_at p y roots) ≡ with_list_at p x roots
written_twice Nowhere x y roots = refl
written_twice (At r p) x y roots =
    ap (with_list_at (At r p) x) (written_is r p y roots) ∙ (written_is r p x (modified r (with_under p y) roots)
    ∙ (modified_both r (with_under p x) (with_under p y) (with_under p x) roots (λ l. under_twice p x y l) ∙ sym (written_is r p x roots)))

both_orders : (r s : ℕ) (p q : List ℕ) (x y : StobjList ℕ) (roots : List (StobjList ℕ)) → (r ≢ s) ⊎ ((r ≡ s) × ArePathsApart p q)
    → modified r (with_under p x) (modified s (with_under q y) roots) ≡ modified s (with_under q y) (modified r (with_under p x) roots)
both_orders r s p q x y roots (inl d) = modified_others r s (with_under p x) (with_under q y) roots d
both_orders r s p q x y roots (inr e) =
    subst (λ (k : ℕ). modified k (with_under p x) (modified s (with_under q y) roots) ≡ modified s (with_under q y) (modified k (with_under p x) roots)) (sym e.0)
    (modified_both s (with_under p x) (with_under q y) (λ l. with_under p x (with_under q y l)) roots (λ l. refl)
    ∙ sym (modified_both s (with_under q y) (with_under p x) (λ l. with_under p x (with_under q y l)) roots (λ l. sym (under_commutes p q x y l e.1))))

pub written_apart : (p q : Place) (x y : StobjList ℕ) (roots : List (StobjList ℕ)) → AreApart p q → with_list_at p x (with_list_at q y roots) ≡ with_list_at q y (with_list_at p x roots)
written_apart Nowhere q x y roots a = absurd a
written_apart (At r p) Nowhere x y roots a = absurd a
written_apart (At r p) (At s q) x y roots a =
    ap (with_list_at (At r p) x) (written_is s q y roots) ∙ (written_is r p x (modified s (with_under q y) roots)
    ∙ (both_orders r s p q x y roots a
    ∙ (sym (written_is s q y (modified r (with_under p x) roots)) ∙ ap (with_list_at (At s q) y) (sym (written_is r p x roots)))))

-- what is there is written again
pub written_again : (p : Place) (roots : List (StobjList ℕ)) → with_list_at p (list_at roots p) roots ≡ roots
written_again Nowhere roots = refl
written_again (At r p) roots = ap (λ (l : StobjList ℕ). with_root r l roots) (under_unchanged p (root_list roots r)) ∙ root_kept r roots

-- ---- a write further on

under_covered : (p q : List ℕ) (x y l : StobjList ℕ) → with_under p x (with_under (p ++ q) y l) ≡ with_under p x l
under_covered p q x y l = ap (with_under p x) (with_both p q y l) ∙ under_twice p x (with_under q y (list_under p l)) l

-- a write further on is gone after a write
pub written_over : (p : Place) (q : List ℕ) (x y : StobjList ℕ) (roots : List (StobjList ℕ)) → with_list_at p x (with_list_at (below p q) y roots) ≡ with_list_at p x roots
written_over Nowhere q x y roots = refl
written_over (At r p) q x y roots =
    ap (with_list_at (At r p) x) (written_is r (p ++ q) y roots) ∙ (written_is r p x (modified r (with_under (p ++ q) y) roots)
    ∙ (modified_both r (with_under p x) (with_under (p ++ q) y) (with_under p x) roots (λ l. under_covered p q x y l) ∙ sym (written_is r p x roots)))

-- a write further on is a part of another list
pub written_further : (p : Place) (q : List ℕ) (x y : StobjList ℕ) (roots : List (StobjList ℕ))
    → with_list_at (below p q) y (with_list_at p x roots) ≡ with_list_at p (with_under q y (list_at (with_list_at p x roots) p)) (with_list_at (below p q) y roots)
written_further Nowhere q x y roots = refl
written_further (At r p) q x y roots = joined
  where
    new : StobjList ℕ
    new = with_under q y (list_under p (root_list (with_root r (with_under p x (root_list roots r)) roots) r))

    below_is : with_list_at (At r (p ++ q)) y (with_list_at (At r p) x roots) ≡ with_list_at (At r p) new (with_list_at (At r p) x roots)
    below_is = ap (λ (k : StobjList ℕ). with_root r k (with_list_at (At r p) x roots)) (with_both p q y (root_list (with_list_at (At r p) x roots) r))

    joined : with_list_at (At r (p ++ q)) y (with_list_at (At r p) x roots) ≡ with_list_at (At r p) new (with_list_at (At r (p ++ q)) y roots)
    joined = below_is ∙ (written_twice (At r p) new x roots ∙ sym (written_over (At r p) q new y roots))

-- ---- the laws

pub places_are_written : PlacesAreWritten
places_are_written = record { same = at_same; others = at_other; again = written_again; twice = written_twice; swapped = written_apart }
