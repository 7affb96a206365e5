-- Places that are clear of a field, and what a write there leaves at them.
use Rattle.std.proofs.Common.{◌≡◌, ℕ, zero, suc, ◌+◌, List, [], ◌∷◌, ◌++◌, length, Option, Some, None, refl, sym, ap, ◌∙◌, subst, arith, inl, inr}
use Rattle.std.specs.Prelude.{◌≢◌, ◌⊎◌, option_map}
use Rattle.std.proofs.lemmas.List.{append_assoc, length-append}
use Rattle.model_lists.specs.Lists.{StobjList, Value, Pairs, End, Item, size, item, with_item}
use Rattle.model_eval.specs.PlacesKeeping.{Place, Nowhere, At, below, with_under, list_at, with_list_at}
use Rattle.model_places.specs.Places.{AreApart, IsPlace}
use Rattle.model_places.proofs.PathLemmas.{at_same, at_other, place_kept, place_stays, write_below, below_apart, both_below, places_swapped}
use Rattle.acl_nodes.specs.Kept.{spine, IsAbove, IsClear}

-- ---- lists

pub spine_with : (n : ℕ) (x l : StobjList ℕ) → spine (with_item n x l) ≡ spine l
spine_with n x (Value o) = refl
spine_with n x (Pairs ps) = refl
spine_with n x End = refl
spine_with zero x (Item first rest) = refl
spine_with (suc n) x (Item first rest) = ap (option_map suc) (spine_with n x rest)

pub size_spine : (n : ℕ) (l : StobjList ℕ) → spine l ≡ Some n → size l ≡ n
size_spine n (Value o) e = absurd (none_some e)
  where
    none_some : None ≡ Some n → ⊥
    none_some h = cc
size_spine n (Pairs ps) e = absurd (none_some e)
  where
    none_some : None ≡ Some n → ⊥
    none_some h = cc
size_spine n End e = some_same e
  where
    some_same : Some 0 ≡ Some n → 0 ≡ n
    some_same h = cc
size_spine n (Item first rest) e = by_rest (spine rest) (λ m f. size_spine m rest f) e
  where
    by_rest : (r : Option ℕ) → ((m : ℕ) → r ≡ Some m → size rest ≡ m) → option_map suc r ≡ Some n → size rest + 1 ≡ n
    by_rest None f h = absurd (none_some h)
      where
        none_some : None ≡ Some n → ⊥
        none_some h = cc
    by_rest (Some m) f h = let g : size rest ≡ m = f m refl in let k : suc m ≡ n = same h in omega (arith, g, k)
      where
        same : Some (suc m) ≡ Some n → suc m ≡ n
        same h = cc

-- ---- paths

pub below_both : (p : Place) (q r : List ℕ) → below (below p q) r ≡ below p (q ++ r)
below_both Nowhere q r = refl
below_both (At s p) q r = ap (At s) (append_assoc p q r)

pub last_same : (p q : List ℕ) (f g : ℕ) → p ++ f ∷ [] ≡ q ++ g ∷ [] → (p ≡ q) × (f ≡ g)
last_same [] [] f g e = (refl, head e)
  where
    head : {xs ys : List ℕ} → f ∷ xs ≡ g ∷ ys → f ≡ g
    head h = cc
last_same [] (y ∷ q) f g e = absurd (let h : length (f ∷ []) ≡ length (y ∷ (q ++ g ∷ [])) = ap length e in omega (arith, h, length-append q (g ∷ [])))
last_same (x ∷ p) [] f g e = absurd (let h : length (x ∷ (p ++ f ∷ [])) ≡ length (g ∷ []) = ap length e in omega (arith, h, length-append p (f ∷ [])))
last_same (x ∷ p) (y ∷ q) f g e = let t = last_same p q f g (tails e) in (both (heads e) t.0, t.1)
  where
    heads : {xs ys : List ℕ} → x ∷ xs ≡ y ∷ ys → x ≡ y
    heads h = cc

    tails : {xs ys : List ℕ} → x ∷ xs ≡ y ∷ ys → xs ≡ ys
    tails h = cc

    both : x ≡ y → p ≡ q → x ∷ p ≡ y ∷ q
    both h k = cc

roots_same : {r s : ℕ} {p q : List ℕ} → At r p ≡ At s q → r ≡ s
roots_same h = cc

paths_same : {r s : ℕ} {p q : List ℕ} → At r p ≡ At s q → p ≡ q
paths_same h = cc

-- two fields at one place are one field of objects at one place
pub one_field : (p q : Place) (f g : ℕ) (roots : List (StobjList ℕ)) → IsPlace roots p → IsPlace roots q → below p (f ∷ []) ≡ below q (g ∷ []) → (p ≡ q) × (f ≡ g)
one_field Nowhere q f g roots i j e = absurd i
one_field (At r p) Nowhere f g roots i j e = absurd j
one_field (At r p) (At s q) f g roots i j e =
    let t = last_same p q f g (paths_same e) in let u : r ≡ s = roots_same e in (both u t.0, t.1)
  where
    both : r ≡ s → p ≡ q → At r p ≡ At s q
    both h k = cc

-- ---- writes

-- what a write further on leaves of a place
pub written_above : (p q : Place) (x : StobjList ℕ) (roots : List (StobjList ℕ)) → IsAbove p q → IsPlace roots p
    → IsPlace (with_list_at q x roots) p × (spine (list_at (with_list_at q x roots) p) ≡ spine (list_at roots p))
written_above p q x roots a i =
    let e : with_list_at q x roots ≡ with_list_at p (with_under (a.next ∷ a.more) x (list_at roots p)) roots =
    ap (λ (k : Place). with_list_at k x roots) a.is ∙ write_below p (a.next ∷ a.more) x roots i in (
      subst (λ (ls : List (StobjList ℕ)). IsPlace ls p) (sym e) (place_stays p (with_under (a.next ∷ a.more) x (list_at roots p)) roots i),
      ap (λ (ls : List (StobjList ℕ)). spine (list_at ls p)) e
          ∙ (ap spine (at_same p (with_under (a.next ∷ a.more) x (list_at roots p)) roots i)
          ∙ spine_with a.next (with_under a.more x (item a.next (list_at roots p))) (list_at roots p)),
    )

pub written_clear : (p q : Place) (x : StobjList ℕ) (roots : List (StobjList ℕ)) → IsClear p q → IsPlace roots p → IsPlace roots q
    → IsPlace (with_list_at q x roots) p × (spine (list_at (with_list_at q x roots) p) ≡ spine (list_at roots p))
written_clear p q x roots (inl a) i j = (place_kept p q x roots a j i, ap spine (at_other p q x roots a j))
written_clear p q x roots (inr a) i j = written_above p q x roots a i

-- ---- fields

nat_or : (n m : ℕ) → (n ≡ m) ⊎ (n ≢ m)
nat_or zero zero = inl refl
nat_or zero (suc m) = inr (λ e. absurd (omega arith))
nat_or (suc n) zero = inr (λ e. absurd (omega arith))
nat_or (suc n) (suc m) = elim (nat_or n m) [ inl e ↦ inl (ap suc e) | inr d ↦ inr (λ e. d (omega (arith, e))) ]

-- a field is clear of another one, of which its object is clear
pub field_clear : (p q : Place) (g f : ℕ) (roots : List (StobjList ℕ)) → IsClear p (below q (f ∷ [])) → IsPlace roots p → IsPlace roots q → ((p ≡ q) × (g ≡ f) → ⊥)
    → IsClear (below p (g ∷ [])) (below q (f ∷ []))
field_clear p q g f roots (inl a) i j d = inl (below_apart p (below q (f ∷ [])) (g ∷ []) a)
field_clear p q g f roots (inr a) i j d = by_next (nat_or g a.next) a.more a.is
  where
    by_next : (g ≡ a.next) ⊎ (g ≢ a.next) → (more : List ℕ) → below q (f ∷ []) ≡ below p (a.next ∷ more) → IsClear (below p (g ∷ [])) (below q (f ∷ []))
    by_next (inl e) [] is = let t = one_field q p f a.next roots j i is in absurd (d (sym t.0, e ∙ sym t.1))
    by_next (inl e) (m ∷ more) is =
        inr (record { next = m; more = more; is = is ∙ (ap (λ (k : ℕ). below p (k ∷ m ∷ more)) (sym e) ∙ sym (below_both p (g ∷ []) (m ∷ more))) })
    by_next (inr e) more is =
        inl (subst (AreApart (below p (g ∷ []))) (sym is) (both_below p (g ∷ []) (a.next ∷ more) roots i (inl e)))

not_both_above : (p q : Place) (roots : List (StobjList ℕ)) → IsPlace roots p → IsPlace roots q → IsAbove p q → IsAbove q p → ⊥
not_both_above Nowhere q roots i j a b = absurd i
not_both_above (At r p) Nowhere roots i j a b = absurd j
not_both_above (At r p) (At s q) roots i j a b =
    let e : length q ≡ length (p ++ a.next ∷ a.more) = ap length (paths_same a.is) in
    let f : length p ≡ length (q ++ b.next ∷ b.more) = ap length (paths_same b.is) in
    omega (arith, e, f, length-append p (a.next ∷ a.more), length-append q (b.next ∷ b.more))

-- places that are clear of each other are apart
pub clear_apart : (p q : Place) (roots : List (StobjList ℕ)) → IsPlace roots p → IsPlace roots q → IsClear p q → IsClear q p → AreApart p q
clear_apart p q roots i j (inl a) b = a
clear_apart p q roots i j (inr a) (inl b) = places_swapped q p b
clear_apart p q roots i j (inr a) (inr b) = absurd (not_both_above p q roots i j a b)
