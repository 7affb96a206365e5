-- More nodes and roots behind those that are remembered, or fewer.
use Rattle.std.proofs.Common.{◌≡◌, ℕ, zero, suc, ◌+◌, ◌-◌, ◌<◌, ◌≤◌, List, [], ◌∷◌, ◌++◌, length, take, refl, sym, ap, ◌∙◌, subst, arith, inl, inr}
use Rattle.std.specs.Prelude.{◌⊎◌}
use Rattle.std.proofs.lemmas.List.{length-append}
use Rattle.model_lists.specs.Lists.{StobjList}
use Rattle.model_eval.specs.PlacesKeeping.{Place, Nowhere, At, below, with_under, with_root, list_at, with_list_at, root_list}
use Rattle.model_places.proofs.WrittenLemmas.{modified, written_is}
use Rattle.acl_nodes.specs.Kept.{Kept, place_at, IsRooted}
use Rattle.acl_nodes.specs.Nodes.{Node}
use Rattle.acl_nodes.specs.Holding.{Holds}
use Rattle.acl_nodes.specs.Making.{IsCreated, IsFrom}
use Rattle.acl_nodes.specs.Notes.{Note, place_noted, undone, Among, Remembers}
use Rattle.acl_nodes.proofs.CutLemmas.{taken_place}
use Rattle.acl_nodes.proofs.PushLemmas.{place_new}

-- ---- the first of a list

taken_fits : {X : Type 0} (xs : List X) (n : ℕ) → length (take n xs) ≡ n → n ≤ length xs
taken_fits xs zero e = omega arith
taken_fits [] (suc n) e = absurd (omega (arith, e))
taken_fits (x ∷ xs) (suc n) e = let g : length (take n xs) ≡ n = omega (arith, e) in let l = taken_fits xs n g in omega (arith, l)

taken_more : {X : Type 0} (xs ys : List X) (n : ℕ) → n ≤ length xs → take n (xs ++ ys) ≡ take n xs
taken_more xs ys zero h = refl
taken_more [] ys (suc n) h = absurd (omega (arith, h))
taken_more (x ∷ xs) ys (suc n) h = let l : n ≤ length xs = omega (arith, h) in ap (λ (zs : List _). x ∷ zs) (taken_more xs ys n l)

taken_twice : {X : Type 0} (xs : List X) (n m : ℕ) → n ≤ m → take n (take m xs) ≡ take n xs
taken_twice xs zero m h = refl
taken_twice xs (suc n) zero h = absurd (omega (arith, h))
taken_twice [] (suc n) (suc m) h = refl
taken_twice (x ∷ xs) (suc n) (suc m) h = let l : n ≤ m = omega (arith, h) in ap (λ (zs : List _). x ∷ zs) (taken_twice xs n m l)

-- ---- notes put back in the first roots

taken_modified : (n r : ℕ) (g : StobjList ℕ → StobjList ℕ) (ls : List (StobjList ℕ)) → take n (modified r g ls) ≡ modified r g (take n ls)
taken_modified zero r g ls = refl
taken_modified (suc n) r g [] = refl
taken_modified (suc n) zero g (l ∷ ls) = refl
taken_modified (suc n) (suc r) g (l ∷ ls) = ap (λ (ks : List (StobjList ℕ)). l ∷ ks) (taken_modified n r g ls)

taken_write : (n : ℕ) (p : Place) (x : StobjList ℕ) (roots : List (StobjList ℕ)) → take n (with_list_at p x roots) ≡ with_list_at p x (take n roots)
taken_write n Nowhere x roots = refl
taken_write n (At r p) x roots = ap (take n) (written_is r p x roots) ∙ (taken_modified n r (with_under p x) roots ∙ sym (written_is r p x (take n roots)))

taken_undone : (n : ℕ) (places : List Place) (notes : List Note) (roots : List (StobjList ℕ)) → take n (undone places notes roots) ≡ undone places notes (take n roots)
taken_undone n places [] roots = refl
taken_undone n places (m ∷ ms) roots =
    taken_undone n places ms (with_list_at (place_noted places m) m.list roots) ∙ ap (undone places ms) (taken_write n (place_noted places m) m.list roots)

root_length : (ls : List (StobjList ℕ)) (n : ℕ) (x : StobjList ℕ) → length (with_root n x ls) ≡ length ls
root_length [] n x = refl
root_length (l ∷ ls) zero x = refl
root_length (l ∷ ls) (suc n) x = ap suc (root_length ls n x)

write_length : (p : Place) (x : StobjList ℕ) (roots : List (StobjList ℕ)) → length (with_list_at p x roots) ≡ length roots
write_length Nowhere x roots = refl
write_length (At r p) x roots = root_length roots r (with_under p x (root_list roots r))

undone_length : (places : List Place) (notes : List Note) (roots : List (StobjList ℕ)) → length (undone places notes roots) ≡ length roots
undone_length places [] roots = refl
undone_length places (m ∷ ms) roots = undone_length places ms (with_list_at (place_noted places m) m.list roots) ∙ write_length (place_noted places m) m.list roots

-- notes of nodes below a number look at their places alone
undone_places : (first : ℕ) (old new : List Place) (notes : List Note) (roots : List (StobjList ℕ)) → ((k : ℕ) → k < first → place_at new k ≡ place_at old k)
    → ((n : Note) → Among n notes → n.node < first) → undone new notes roots ≡ undone old notes roots
undone_places first old new [] roots same early = refl
undone_places first old new (m ∷ ms) roots same early =
    ap (λ (p : Place). undone new ms (with_list_at (below p m.path) m.list roots)) (same m.node (early m (inl refl)))
    ∙ undone_places first old new ms (with_list_at (place_noted old m) m.list roots) same (λ n a. early n (inr a))

-- ---- what is remembered

places_fit : (notes : List Note) (first count : ℕ) (kept before : Kept) → Remembers notes first count kept before → first ≤ length kept.places
places_fit notes first count kept before r = taken_fits kept.places first (ap length r.places ∙ sym r.counted)

pub first_within : {O : Type 0} (shown : O → StobjList ℕ → Type 0) (nodes : List (Node O)) (notes : List Note) (first count : ℕ) (kept before : Kept)
    → Holds shown nodes kept → Remembers notes first count kept before → first ≤ length nodes
first_within shown nodes notes first count kept before h r = let l = places_fit notes first count kept before r in let e = h.counted in omega (arith, l, e)

roots_fit : (notes : List Note) (first count : ℕ) (kept before : Kept) → Remembers notes first count kept before → length before.roots ≤ length kept.roots
roots_fit notes first count kept before r =
    let l = taken_fits (undone kept.places notes kept.roots) (length before.roots) (ap length r.roots) in let e = undone_length kept.places notes kept.roots in omega (arith, l, e)

-- the first places and the first roots are the same
moved : (notes : List Note) (first count more : ℕ) (kept new before : Kept) → Remembers notes first count kept before
    → take first new.places ≡ take first kept.places → take (length before.roots) new.roots ≡ take (length before.roots) kept.roots
    → ((k : ℕ) → first ≤ k → k < more → IsRooted (length before.roots) (place_at new.places k) → ⊥)
    → Remembers notes first more new before
moved notes first count more kept new before r e g late = record {
  counted = r.counted;
  places = e ∙ r.places;
  roots =
      taken_undone (length before.roots) new.places notes new.roots
      ∙ (ap (undone new.places notes) g
      ∙ (undone_places first kept.places new.places notes (take (length before.roots) kept.roots) same r.early
      ∙ (sym (taken_undone (length before.roots) kept.places notes kept.roots) ∙ r.roots)));
  early = r.early;
  old = λ k w. subst (IsRooted (length before.roots)) (sym (same k w)) (r.old k w);
  local = late;
}
  where
    same : (k : ℕ) → k < first → place_at new.places k ≡ place_at kept.places k
    same k w = sym (taken_place new.places first k w) ∙ (ap (λ (ps : List Place). place_at ps k) e ∙ taken_place kept.places first k w)

from_late : (b r : ℕ) (p : Place) → b ≤ r → IsFrom (At r []) p → IsRooted b p → ⊥
from_late b r p h f i = let l : r < b = subst (IsRooted b) f.1 i in absurd (omega (arith, h, l))

-- the nodes of a new root come last
pub created_remembered : {O : Type 0} (shown : O → StobjList ℕ → Type 0) (nodes after : List (Node O)) (notes : List Note) (first c : ℕ) (kept before : Kept) (l : StobjList ℕ)
    → Holds shown nodes kept → (d : IsCreated shown kept l after c) → Remembers notes first (length nodes) kept before
    → Remembers notes first (length after) (record { roots = kept.roots ++ l ∷ []; places = kept.places ++ d.more }) before
created_remembered shown nodes after notes first c kept before l h d r =
    moved notes first (length nodes) (length after) kept (record { roots = kept.roots ++ l ∷ []; places = kept.places ++ d.more }) before r
    (taken_more kept.places d.more first (places_fit notes first (length nodes) kept before r))
    (taken_more kept.roots (l ∷ []) (length before.roots) (roots_fit notes first (length nodes) kept before r)) late
  where
    late : (k : ℕ) → first ≤ k → k < length after → IsRooted (length before.roots) (place_at (kept.places ++ d.more) k) → ⊥
    late k u w i = by (position k)
      where
        position : (k : ℕ) → (k < length kept.places) ⊎ (length kept.places ≤ k)
        position k = grind arith

        old_place : k < length kept.places → place_at (kept.places ++ d.more) k ≡ place_at kept.places k
        old_place v = sym (taken_place (kept.places ++ d.more) (length kept.places) k v) ∙ (ap (λ (ps : List Place). place_at ps k) (taken_more kept.places d.more (length kept.places) (omega arith)) ∙ taken_place kept.places (length kept.places) k v)

        by : (k < length kept.places) ⊎ (length kept.places ≤ k) → ⊥
        by (inl v) = let e = h.counted in let low : k < length nodes = omega (arith, v, e) in r.local k u low (subst (IsRooted (length before.roots)) (old_place v) i)
        by (inr v) =
            let at : k ≡ length kept.places + (k - length kept.places) = omega (arith, v) in
            let e = d.holds.counted in let s = length-append kept.places d.more in
            let low : k - length kept.places < length d.more = omega (arith, v, w, e, s) in
            from_late (length before.roots) (length kept.roots) (place_at d.more (k - length kept.places)) (roots_fit notes first (length nodes) kept before r) (d.inside (k - length kept.places) low)
            (subst (IsRooted (length before.roots)) (ap (place_at (kept.places ++ d.more)) at ∙ place_new kept.places d.more (k - length kept.places)) i)

-- the nodes that are cut off come later
pub cut_remembered : (notes : List Note) (first count m r : ℕ) (kept before : Kept) → Remembers notes first count kept before → first ≤ m → m ≤ count → length before.roots ≤ r
    → Remembers notes first m (record { roots = take r kept.roots; places = take m kept.places }) before
cut_remembered notes first count m r kept before s h u g =
    moved notes first count m kept (record { roots = take r kept.roots; places = take m kept.places }) before s (taken_twice kept.places first m h) (taken_twice kept.roots (length before.roots) r g)
    (λ k v w i. let low : k < count = omega (arith, w, u) in s.local k v low (subst (IsRooted (length before.roots)) (taken_place kept.places m k w) i))
