-- Lists at places of a store, and what a write at another place leaves.
use Rattle.std.proofs.Common.{◌≡◌, ℕ, zero, suc, ◌+◌, ◌<◌, List, [], ◌∷◌, ◌++◌, length, refl, sym, ap, ◌∙◌, subst, arith, inl, inr}
use Rattle.std.specs.Prelude.{◌≢◌, ◌⊎◌}
use Rattle.model_lists.specs.Lists.{StobjList, Value, Pairs, End, Item, size, item, with_item}
use Rattle.model_eval.specs.PlacesKeeping.{Place, Nowhere, At, below, list_under, with_under, root_list, with_root, list_at, with_list_at}
use Rattle.model_places.specs.Places.{ArePathsApart, AreApart, IsPath, IsPlace}

-- ---- items

pub item_same : (n : ℕ) (x l : StobjList ℕ) → n < size l → item n (with_item n x l) ≡ x
item_same n x (Value o) h = absurd (omega (arith, h))
item_same n x (Pairs ps) h = absurd (omega (arith, h))
item_same n x End h = absurd (omega (arith, h))
item_same zero x (Item first rest) h = refl
item_same (suc n) x (Item first rest) h = let fewer : n < size rest = omega (arith, h) in item_same n x rest fewer

pub item_other : (n m : ℕ) (x l : StobjList ℕ) → n ≢ m → item n (with_item m x l) ≡ item n l
item_other n m x (Value o) h = refl
item_other n m x (Pairs ps) h = refl
item_other n m x End h = refl
item_other zero zero x (Item first rest) h = absurd (h refl)
item_other zero (suc m) x (Item first rest) h = refl
item_other (suc n) zero x (Item first rest) h = refl
item_other (suc n) (suc m) x (Item first rest) h = item_other n m x rest (λ e. h (ap (λ (k : ℕ). suc k) e))

pub with_same : (n : ℕ) (l : StobjList ℕ) → with_item n (item n l) l ≡ l
with_same n (Value o) = refl
with_same n (Pairs ps) = refl
with_same n End = refl
with_same zero (Item first rest) = refl
with_same (suc n) (Item first rest) = ap (Item first) (with_same n rest)

pub with_twice : (n : ℕ) (x y l : StobjList ℕ) → with_item n x (with_item n y l) ≡ with_item n x l
with_twice n x y (Value o) = refl
with_twice n x y (Pairs ps) = refl
with_twice n x y End = refl
with_twice zero x y (Item first rest) = refl
with_twice (suc n) x y (Item first rest) = ap (Item first) (with_twice n x y rest)

pub with_others : (n m : ℕ) (x y l : StobjList ℕ) → n ≢ m → with_item n x (with_item m y l) ≡ with_item m y (with_item n x l)
with_others n m x y (Value o) h = refl
with_others n m x y (Pairs ps) h = refl
with_others n m x y End h = refl
with_others zero zero x y (Item first rest) h = absurd (h refl)
with_others zero (suc m) x y (Item first rest) h = refl
with_others (suc n) zero x y (Item first rest) h = refl
with_others (suc n) (suc m) x y (Item first rest) h = ap (Item first) (with_others n m x y rest (λ e. h (ap (λ (k : ℕ). suc k) e)))

pub size_with : (n : ℕ) (x l : StobjList ℕ) → size (with_item n x l) ≡ size l
size_with n x (Value o) = refl
size_with n x (Pairs ps) = refl
size_with n x End = refl
size_with zero x (Item first rest) = refl
size_with (suc n) x (Item first rest) = ap (λ (k : ℕ). k + 1) (size_with n x rest)

-- there is such an item, or no write changes anything
abbrev There : ℕ → StobjList ℕ → Type 0
There n l = ((x : StobjList ℕ) → item n (with_item n x l) ≡ x) ⊎ ((x : StobjList ℕ) → with_item n x l ≡ l)

pub item_with : (n : ℕ) (l : StobjList ℕ) → There n l
item_with n (Value o) = inr (λ x. refl)
item_with n (Pairs ps) = inr (λ x. refl)
item_with n End = inr (λ x. refl)
item_with zero (Item first rest) = inl (λ x. refl)
item_with (suc n) (Item first rest) = later (item_with n rest)
  where
    later : There n rest → There (suc n) (Item first rest)
    later (inl e) = inl e
    later (inr e) = inr (λ x. ap (Item first) (e x))

-- ---- paths

pub swapped : (p q : List ℕ) → ArePathsApart p q → ArePathsApart q p
swapped [] q h = absurd h
swapped (n ∷ p) [] h = absurd h
swapped (n ∷ p) (m ∷ q) (inl d) = inl (λ e. d (sym e))
swapped (n ∷ p) (m ∷ q) (inr e) = inr (sym e.0, swapped p q e.1)

pub under_other : (p q : List ℕ) (x l : StobjList ℕ) → ArePathsApart p q → list_under p (with_under q x l) ≡ list_under p l
under_other [] q x l h = absurd h
under_other (n ∷ p) [] x l h = absurd h
under_other (n ∷ p) (m ∷ q) x l (inl d) = ap (list_under p) (item_other n m (with_under q x (item m l)) l d)
under_other (n ∷ p) (m ∷ q) x l (inr e) = rw e.0 (by_item (under_other p q x (item m l) e.1) (item_with m l))
  where
    by_item : list_under p (with_under q x (item m l)) ≡ list_under p (item m l) → There m l
        → list_under p (item m (with_item m (with_under q x (item m l)) l)) ≡ list_under p (item m l)
    by_item g (inl f) = ap (list_under p) (f (with_under q x (item m l))) ∙ g
    by_item g (inr f) = ap (λ (k : StobjList ℕ). list_under p (item m k)) (f (with_under q x (item m l)))

pub under_same : (p : List ℕ) (x l : StobjList ℕ) → IsPath p l → list_under p (with_under p x l) ≡ x
under_same [] x l h = refl
under_same (n ∷ p) x l h = ap (list_under p) (item_same n (with_under p x (item n l)) l h.0) ∙ under_same p x (item n l) h.1

pub under_unchanged : (p : List ℕ) (l : StobjList ℕ) → with_under p (list_under p l) l ≡ l
under_unchanged [] l = refl
under_unchanged (n ∷ p) l = ap (λ (k : StobjList ℕ). with_item n k l) (under_unchanged p (item n l)) ∙ with_same n l

pub under_twice : (p : List ℕ) (x y l : StobjList ℕ) → with_under p x (with_under p y l) ≡ with_under p x l
under_twice [] x y l = refl
under_twice (n ∷ p) x y l = by_item (under_twice p x y (item n l)) (item_with n l)
  where
    inner : StobjList ℕ
    inner = with_under p y (item n l)

    by_item : with_under p x (with_under p y (item n l)) ≡ with_under p x (item n l) → There n l
        → with_item n (with_under p x (item n (with_item n inner l))) (with_item n inner l) ≡ with_item n (with_under p x (item n l)) l
    by_item g (inl f) =
        ap (λ (k : StobjList ℕ). with_item n (with_under p x k) (with_item n inner l)) (f inner)
        ∙ (with_twice n (with_under p x inner) inner l ∙ ap (λ (k : StobjList ℕ). with_item n k l) g)
    by_item g (inr f) = ap (λ (k : StobjList ℕ). with_item n (with_under p x (item n k)) k) (f inner)

-- two writes under one item
both_under : (m : ℕ) (p q : List ℕ) (x y l : StobjList ℕ) → with_under (m ∷ p) x (with_under (m ∷ q) y l) ≡ with_item m (with_under p x (with_under q y (item m l))) l
both_under m p q x y l = by_item (item_with m l)
  where
    by_item : There m l → with_item m (with_under p x (item m (with_item m (with_under q y (item m l)) l))) (with_item m (with_under q y (item m l)) l) ≡ with_item m (with_under p x (with_under q y (item m l))) l
    by_item (inl f) =
        ap (λ (k : StobjList ℕ). with_item m (with_under p x k) (with_item m (with_under q y (item m l)) l)) (f (with_under q y (item m l)))
        ∙ with_twice m (with_under p x (with_under q y (item m l))) (with_under q y (item m l)) l
    by_item (inr f) =
        ap (λ (k : StobjList ℕ). with_item m (with_under p x (item m k)) k) (f (with_under q y (item m l)))
        ∙ (f (with_under p x (item m l)) ∙ sym (f (with_under p x (with_under q y (item m l)))))

pub under_commutes : (p q : List ℕ) (x y l : StobjList ℕ) → ArePathsApart p q → with_under p x (with_under q y l) ≡ with_under q y (with_under p x l)
under_commutes [] q x y l h = absurd h
under_commutes (n ∷ p) [] x y l h = absurd h
under_commutes (n ∷ p) (m ∷ q) x y l (inl d) =
    ap (λ (k : StobjList ℕ). with_item n (with_under p x k) (with_item m (with_under q y (item m l)) l)) (item_other n m (with_under q y (item m l)) l d)
    ∙ (with_others n m (with_under p x (item n l)) (with_under q y (item m l)) l d
    ∙ sym (ap (λ (k : StobjList ℕ). with_item m (with_under q y k) (with_item n (with_under p x (item n l)) l)) (item_other m n (with_under p x (item n l)) l (λ e. d (sym e)))))
under_commutes (n ∷ p) (m ∷ q) x y l (inr e) =
    subst (λ (k : ℕ). with_under (k ∷ p) x (with_under (m ∷ q) y l) ≡ with_under (m ∷ q) y (with_under (k ∷ p) x l)) (sym e.0)
    (both_under m p q x y l ∙ (ap (λ (k : StobjList ℕ). with_item m k l) (under_commutes p q x y (item m l) e.1) ∙ sym (both_under m q p y x l)))

-- what a write leaves of other paths
pub path_kept : (p q : List ℕ) (x l : StobjList ℕ) → ArePathsApart p q → IsPath p l → IsPath p (with_under q x l)
path_kept [] q x l h i = absurd h
path_kept (n ∷ p) [] x l h i = absurd h
path_kept (n ∷ p) (m ∷ q) x l (inl d) i =
    (subst (λ (k : ℕ). n < k) (sym (size_with m (with_under q x (item m l)) l)) i.0, subst (IsPath p) (sym (item_other n m (with_under q x (item m l)) l d)) i.1)
path_kept (n ∷ p) (m ∷ q) x l (inr e) i =
    let j : IsPath (m ∷ p) l = subst (λ (k : ℕ). IsPath (k ∷ p) l) e.0 i in
    rw e.0 (
      subst (λ (k : ℕ). m < k) (sym (size_with m (with_under q x (item m l)) l)) j.0,
      subst (IsPath p) (sym (item_same m (with_under q x (item m l)) l j.0)) (path_kept p q x (item m l) e.1 j.1),
    )

-- the path itself is still there, as far as it goes
pub path_stays : (p : List ℕ) (x l : StobjList ℕ) → IsPath p l → IsPath p (with_under p x l)
path_stays [] x l i = tt
path_stays (n ∷ p) x l i = (
  subst (λ (k : ℕ). n < k) (sym (size_with n (with_under p x (item n l)) l)) i.0,
  subst (IsPath p) (sym (item_same n (with_under p x (item n l)) l i.0)) (path_stays p x (item n l) i.1),
)

-- ---- further on

pub under_both : (p q : List ℕ) (l : StobjList ℕ) → list_under (p ++ q) l ≡ list_under q (list_under p l)
under_both [] q l = refl
under_both (n ∷ p) q l = under_both p q (item n l)

pub with_both : (p q : List ℕ) (x l : StobjList ℕ) → with_under (p ++ q) x l ≡ with_under p (with_under q x (list_under p l)) l
with_both [] q x l = refl
with_both (n ∷ p) q x l = ap (λ (k : StobjList ℕ). with_item n k l) (with_both p q x (item n l))

pub path_both : (p q : List ℕ) (l : StobjList ℕ) → IsPath p l → IsPath q (list_under p l) → IsPath (p ++ q) l
path_both [] q l h i = i
path_both (n ∷ p) q l h i = (h.0, path_both p q (item n l) h.1 i)

pub apart_further : (p q more : List ℕ) → ArePathsApart p q → ArePathsApart (p ++ more) q
apart_further [] q more h = absurd h
apart_further (n ∷ p) [] more h = absurd h
apart_further (n ∷ p) (m ∷ q) more (inl d) = inl d
apart_further (n ∷ p) (m ∷ q) more (inr e) = inr (e.0, apart_further p q more e.1)

pub apart_after : (p q more : List ℕ) → ArePathsApart q more → ArePathsApart (p ++ q) (p ++ more)
apart_after [] q more h = h
apart_after (n ∷ p) q more h = inr (refl, apart_after p q more h)

-- ---- roots

pub root_same : (n : ℕ) (x : StobjList ℕ) (ls : List (StobjList ℕ)) → n < length ls → root_list (with_root n x ls) n ≡ x
root_same n x [] h = absurd (omega (arith, h))
root_same zero x (l ∷ ls) h = refl
root_same (suc n) x (l ∷ ls) h = let fewer : n < length ls = omega (arith, h) in root_same n x ls fewer

pub root_other : (n m : ℕ) (x : StobjList ℕ) (ls : List (StobjList ℕ)) → n ≢ m → root_list (with_root m x ls) n ≡ root_list ls n
root_other n m x [] h = refl
root_other zero zero x (l ∷ ls) h = absurd (h refl)
root_other zero (suc m) x (l ∷ ls) h = refl
root_other (suc n) zero x (l ∷ ls) h = refl
root_other (suc n) (suc m) x (l ∷ ls) h = root_other n m x ls (λ e. h (ap (λ (k : ℕ). suc k) e))

pub root_kept : (n : ℕ) (ls : List (StobjList ℕ)) → with_root n (root_list ls n) ls ≡ ls
root_kept n [] = refl
root_kept zero (l ∷ ls) = refl
root_kept (suc n) (l ∷ ls) = ap (λ (ks : List (StobjList ℕ)). l ∷ ks) (root_kept n ls)

pub length_root : (n : ℕ) (x : StobjList ℕ) (ls : List (StobjList ℕ)) → length (with_root n x ls) ≡ length ls
length_root n x [] = refl
length_root zero x (l ∷ ls) = refl
length_root (suc n) x (l ∷ ls) = ap (λ (k : ℕ). suc k) (length_root n x ls)

-- ---- places

pub places_swapped : (p q : Place) → AreApart p q → AreApart q p
places_swapped Nowhere q h = absurd h
places_swapped (At r p) Nowhere h = absurd h
places_swapped (At r p) (At s q) (inl d) = inl (λ e. d (sym e))
places_swapped (At r p) (At s q) (inr e) = inr (sym e.0, swapped p q e.1)

pub at_same : (p : Place) (x : StobjList ℕ) (roots : List (StobjList ℕ)) → IsPlace roots p → list_at (with_list_at p x roots) p ≡ x
at_same Nowhere x roots h = absurd h
at_same (At r p) x roots h =
    ap (list_under p) (root_same r (with_under p x (root_list roots r)) roots h.0) ∙ under_same p x (root_list roots r) h.1

pub at_other : (p q : Place) (x : StobjList ℕ) (roots : List (StobjList ℕ)) → AreApart p q → IsPlace roots q → list_at (with_list_at q x roots) p ≡ list_at roots p
at_other Nowhere q x roots h i = absurd h
at_other (At r p) Nowhere x roots h i = absurd h
at_other (At r p) (At s q) x roots (inl d) i = ap (list_under p) (root_other r s (with_under q x (root_list roots s)) roots d)
at_other (At r p) (At s q) x roots (inr e) i =
    rw e.0 (ap (list_under p) (root_same s (with_under q x (root_list roots s)) roots i.0) ∙ under_other p q x (root_list roots s) e.1)

pub place_kept : (p q : Place) (x : StobjList ℕ) (roots : List (StobjList ℕ)) → AreApart p q → IsPlace roots q → IsPlace roots p → IsPlace (with_list_at q x roots) p
place_kept Nowhere q x roots h i j = absurd h
place_kept (At r p) Nowhere x roots h i j = absurd h
place_kept (At r p) (At s q) x roots (inl d) i j =
    (subst (λ (k : ℕ). r < k) (sym (length_root s _ roots)) j.0, subst (IsPath p) (sym (root_other r s (with_under q x (root_list roots s)) roots d)) j.1)
place_kept (At r p) (At s q) x roots (inr e) i j = (
  subst (λ (k : ℕ). r < k) (sym (length_root s _ roots)) j.0,
  rw e.0 (subst (IsPath p) (sym (root_same s (with_under q x (root_list roots s)) roots i.0))
      (path_kept p q x (root_list roots s) e.1 (subst (λ (k : ℕ). IsPath p (root_list roots k)) e.0 j.1))),
)

pub place_stays : (p : Place) (x : StobjList ℕ) (roots : List (StobjList ℕ)) → IsPlace roots p → IsPlace (with_list_at p x roots) p
place_stays Nowhere x roots h = absurd h
place_stays (At r p) x roots h = (
  subst (λ (k : ℕ). r < k) (sym (length_root r _ roots)) h.0,
  subst (IsPath p) (sym (root_same r (with_under p x (root_list roots r)) roots h.0)) (path_stays p x (root_list roots r) h.1),
)

pub length_at : (p : Place) (x : StobjList ℕ) (roots : List (StobjList ℕ)) → length (with_list_at p x roots) ≡ length roots
length_at Nowhere x roots = refl
length_at (At r p) x roots = length_root r (with_under p x (root_list roots r)) roots

-- a place further on
pub at_below : (p : Place) (q : List ℕ) (roots : List (StobjList ℕ)) → IsPlace roots p → list_at roots (below p q) ≡ list_under q (list_at roots p)
at_below Nowhere q roots h = absurd h
at_below (At r p) q roots h = under_both p q (root_list roots r)

pub write_below : (p : Place) (q : List ℕ) (x : StobjList ℕ) (roots : List (StobjList ℕ)) → IsPlace roots p
    → with_list_at (below p q) x roots ≡ with_list_at p (with_under q x (list_at roots p)) roots
write_below Nowhere q x roots h = absurd h
write_below (At r p) q x roots h = ap (λ (k : StobjList ℕ). with_root r k roots) (with_both p q x (root_list roots r))

pub place_below : (p : Place) (q : List ℕ) (roots : List (StobjList ℕ)) → IsPlace roots p → IsPath q (list_at roots p) → IsPlace roots (below p q)
place_below Nowhere q roots h i = absurd h
place_below (At r p) q roots h i = (h.0, path_both p q (root_list roots r) h.1 i)

pub below_apart : (p q : Place) (more : List ℕ) → AreApart p q → AreApart (below p more) q
below_apart Nowhere q more h = absurd h
below_apart (At r p) Nowhere more h = absurd h
below_apart (At r p) (At s q) more (inl d) = inl d
below_apart (At r p) (At s q) more (inr e) = inr (e.0, apart_further p q more e.1)

pub both_below : (p : Place) (q more : List ℕ) (roots : List (StobjList ℕ)) → IsPlace roots p → ArePathsApart q more → AreApart (below p q) (below p more)
both_below Nowhere q more roots h i = absurd h
both_below (At r p) q more roots h i = inr (refl, apart_after p q more i)
