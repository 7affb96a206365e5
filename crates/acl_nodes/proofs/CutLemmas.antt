-- Fewer nodes, and fewer roots.
use Rattle.std.proofs.Common.{◌≡◌, ℕ, zero, suc, ◌<◌, ◌≤◌, List, [], ◌∷◌, length, take, Some, None, refl, sym, ap, ◌∙◌, subst, arith}
use Rattle.std.specs.Prelude.{slice_get}
use Rattle.model_lists.specs.Lists.{StobjList}
use Rattle.model_eval.specs.PlacesKeeping.{Place, Nowhere, At, below, list_under, root_list, list_at}
use Rattle.model_places.specs.Places.{IsPlace, IsPath}
use Rattle.acl_nodes.specs.Kept.{Kept, place_at, field_at, spine, IsRooted}
use Rattle.acl_nodes.specs.Nodes.{Part, Own, Child, Children, Node, part_at, width, layout_at}
use Rattle.acl_nodes.specs.Holding.{IsChild, Shows, Holds}
use Rattle.acl_nodes.specs.Cutting.{Cuts}

none_some : {X : Type 0} {x : X} → None ≡ Some x → ⊥
none_some e = cc

-- ---- a list cut

pub length_take : {X : Type 0} (xs : List X) (m : ℕ) → m ≤ length xs → length (take m xs) ≡ m
length_take xs zero h = refl
length_take [] (suc m) h = absurd (omega (arith, h))
length_take (x ∷ xs) (suc m) h = let l : m ≤ length xs = omega (arith, h) in ap suc (length_take xs m l)

taken_root : (roots : List (StobjList ℕ)) (r s : ℕ) → s < r → root_list (take r roots) s ≡ root_list roots s
taken_root roots zero s h = absurd (omega (arith, h))
taken_root [] (suc r) s h = refl
taken_root (l ∷ roots) (suc r) zero h = refl
taken_root (l ∷ roots) (suc r) (suc s) h = let less : s < r = omega (arith, h) in taken_root roots r s less

taken_length : {X : Type 0} (xs : List X) (r s : ℕ) → s < r → s < length xs → s < length (take r xs)
taken_length xs zero s h i = absurd (omega (arith, h))
taken_length [] (suc r) s h i = absurd (omega (arith, i))
taken_length (l ∷ xs) (suc r) zero h i = omega arith
taken_length (l ∷ xs) (suc r) (suc s) h i = let less : s < r = omega (arith, h) in let low : s < length xs = omega (arith, i) in
    let t = taken_length xs r s less low in omega (arith, t)

pub taken_place : (places : List Place) (m k : ℕ) → k < m → place_at (take m places) k ≡ place_at places k
taken_place places zero k h = absurd (omega (arith, h))
taken_place [] (suc m) k h = refl
taken_place (p ∷ places) (suc m) zero h = refl
taken_place (p ∷ places) (suc m) (suc k) h = let less : k < m = omega (arith, h) in taken_place places m k less

module _ {O : Type 0} where
  pub taken_part : (nodes : List (Node O)) (m k f : ℕ) (part : Part O) → part_at (take m nodes) k f ≡ Some part → (k < m) × (part_at nodes k f ≡ Some part)
  taken_part nodes zero k f part e = absurd (none_some e)
  taken_part [] (suc m) k f part e = absurd (none_some e)
  taken_part (n ∷ nodes) (suc m) zero f part e = (omega arith, e)
  taken_part (n ∷ nodes) (suc m) (suc k) f part e = let t = taken_part nodes m k f part e in let h = t.0 in (omega (arith, h), t.1)

  pub taken_same : (nodes : List (Node O)) (m k f : ℕ) → k < m → part_at (take m nodes) k f ≡ part_at nodes k f
  taken_same nodes zero k f h = absurd (omega (arith, h))
  taken_same [] (suc m) k f h = refl
  taken_same (n ∷ nodes) (suc m) zero f h = refl
  taken_same (n ∷ nodes) (suc m) (suc k) f h = let less : k < m = omega (arith, h) in taken_same nodes m k f less

  pub taken_width : (nodes : List (Node O)) (m k : ℕ) → k < m → width (take m nodes) k ≡ width nodes k
  taken_width nodes zero k h = absurd (omega (arith, h))
  taken_width [] (suc m) k h = refl
  taken_width (n ∷ nodes) (suc m) zero h = refl
  taken_width (n ∷ nodes) (suc m) (suc k) h = let less : k < m = omega (arith, h) in taken_width nodes m k less

  pub taken_layout : (nodes : List (Node O)) (m k : ℕ) → k < m → layout_at (take m nodes) k ≡ layout_at nodes k
  taken_layout nodes zero k h = absurd (omega (arith, h))
  taken_layout [] (suc m) k h = refl
  taken_layout (n ∷ nodes) (suc m) zero h = refl
  taken_layout (n ∷ nodes) (suc m) (suc k) h = let less : k < m = omega (arith, h) in taken_layout nodes m k less

-- ---- places in the roots that are left

pub rooted_below : (r : ℕ) (p : Place) (path : List ℕ) → IsRooted r p → IsRooted r (below p path)
rooted_below r Nowhere path h = h
rooted_below r (At s p) path h = h

pub list_left : (roots : List (StobjList ℕ)) (r : ℕ) (p : Place) → IsRooted r p → list_at (take r roots) p ≡ list_at roots p
list_left roots r Nowhere h = absurd h
list_left roots r (At s p) h = ap (list_under p) (taken_root roots r s h)

place_left : (roots : List (StobjList ℕ)) (r : ℕ) (p : Place) → IsRooted r p → IsPlace roots p → IsPlace (take r roots) p
place_left roots r Nowhere h i = absurd h
place_left roots r (At s p) h i = (taken_length roots r s h i.0, subst (IsPath p) (sym (taken_root roots r s h)) i.1)

module _ {O : Type 0} (shown : O → StobjList ℕ → Type 0) where
  -- ---- a store cut

  cut_shown : (nodes : List (Node O)) (kept : Kept) (m r k : ℕ) (at : Place) (part : Part O) → k < m → IsRooted r at → Shows shown kept k at part
      → Shows shown (record { roots = take r kept.roots; places = take m kept.places }) k at part
  cut_shown nodes kept m r k at (Own o) w d s = subst (shown o) (sym (list_left kept.roots r at d)) s
  cut_shown nodes kept m r k at (Child c) w d s = let h = s.0 in let low : c < m = omega (arith, w, h) in (s.0, taken_place kept.places m c low ∙ s.1)
  cut_shown nodes kept m r k at (Children cs) w d s =
      (ap spine (list_left kept.roots r at d) ∙ s.0, λ i c e. child i c e)
    where
      child : (i c : ℕ) → slice_get cs i ≡ Some c → IsChild (record { roots = take r kept.roots; places = take m kept.places }) k (below at (i ∷ [])) c
      child i c e = let t = s.1 i c e in let h = t.0 in let low : c < m = omega (arith, w, h) in (t.0, taken_place kept.places m c low ∙ t.1)

  pub cut_holds : (nodes : List (Node O)) (m : ℕ) → m ≤ length nodes → Cuts shown nodes m (take m nodes)
  cut_holds nodes m fits kept h r d = record {
    counted = length_take kept.places m (let e = h.counted in omega (arith, e, fits)) ∙ sym few;
    there = λ k w. let v = within k w in subst (IsPlace (take r kept.roots)) (sym (taken_place kept.places m k v))
        (place_left kept.roots r (place_at kept.places k) (d k v) (h.there k (inside k v)));
    widths = λ k w. let v = within k w in
        ap (λ (p : Place). spine (list_at (take r kept.roots) p)) (taken_place kept.places m k v)
        ∙ (ap spine (list_left kept.roots r (place_at kept.places k) (d k v)) ∙ (h.widths k (inside k v) ∙ ap Some (sym (taken_width nodes m k v))));
    shows = λ k f part e. let t = taken_part nodes m k f part e in
        subst (λ (p : Place). Shows shown (record { roots = take r kept.roots; places = take m kept.places }) k (below p (f ∷ [])) part) (sym (taken_place kept.places m k t.0))
        (cut_shown nodes kept m r k (field_at kept.places k f) part t.0 (rooted_below r (place_at kept.places k) (f ∷ []) (d k t.0)) (h.shows k f part t.1));
    clear = λ j k f part w e o. let t = taken_part nodes m k f part e in let v = within j w in
        rw (taken_place kept.places m j v) (rw (taken_place kept.places m k t.0) (h.clear j k f part (inside j v) t.1 o));
    distinct = λ j k w v e. let a = within j w in let b = within k v in
        h.distinct j k (inside j a) (inside k b) (sym (taken_place kept.places m j a) ∙ (e ∙ taken_place kept.places m k b));
  }
    where
      few : length (take m nodes) ≡ m
      few = length_take nodes m fits

      within : (k : ℕ) → k < length (take m nodes) → k < m
      within k w = let e = few in omega (arith, w, e)

      inside : (k : ℕ) → k < m → k < length nodes
      inside k w = omega (arith, w, fits)

pub nothing_holds : {O : Type 0} (shown : O → StobjList ℕ → Type 0) → Holds shown [] (record { roots = []; places = [] })
nothing_holds shown = record {
  counted = refl;
  there = λ k w. absurd (omega (arith, w));
  widths = λ k w. absurd (omega (arith, w));
  shows = λ k f part s. absurd (none_some s);
  clear = λ j k f part w. absurd (omega (arith, w));
  distinct = λ j k w. absurd (omega (arith, w));
}
