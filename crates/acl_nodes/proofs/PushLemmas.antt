-- A node is pushed for an object, behind those of its children.
use Rattle.std.proofs.Common.{◌≡◌, ℕ, zero, suc, ◌+◌, ◌<◌, ◌≤◌, List, [], ◌∷◌, ◌++◌, length, Some, None, refl, sym, ap, ◌∙◌, subst, arith, inl, inr}
use Rattle.std.specs.Prelude.{◌≢◌, ◌⊎◌, slice_get}
use Rattle.std.proofs.lemmas.List.{length-append}
use Rattle.model_lists.specs.Lists.{StobjList}
use Rattle.model_eval.specs.PlacesKeeping.{Place, Nowhere, At, below, list_at}
use Rattle.model_places.specs.Places.{ArePathsApart, AreApart, IsPlace}
use Rattle.model_places.proofs.PathLemmas.{below_apart, both_below, places_swapped}
use Rattle.acl_nodes.specs.Kept.{Kept, place_at, field_at, spine, IsClear}
use Rattle.acl_nodes.specs.Nodes.{Part, Own, Child, Children, Node, part_at, width, layout_at, IsOwn}
use Rattle.acl_nodes.specs.Holding.{IsChild, Shows, Holds}
use Rattle.acl_nodes.specs.Making.{with_places, IsIn}
use Rattle.acl_nodes.proofs.ClearLemmas.{below_both}

none_some : {X : Type 0} {x : X} → None ≡ Some x → ⊥
none_some e = cc

some_same : {X : Type 0} {x y : X} → Some x ≡ Some y → x ≡ y
some_same e = cc

-- ---- one more

pub place_old : (ps more : List Place) (k : ℕ) → k < length ps → place_at (ps ++ more) k ≡ place_at ps k
place_old [] more k h = absurd (omega (arith, h))
place_old (p ∷ ps) more zero h = refl
place_old (p ∷ ps) more (suc k) h = let less : k < length ps = omega (arith, h) in place_old ps more k less

pub place_new : (ps more : List Place) (j : ℕ) → place_at (ps ++ more) (length ps + j) ≡ place_at more j
place_new [] more j = let e : 0 + j ≡ j = omega arith in ap (place_at more) e
place_new (p ∷ ps) more j = let e : suc (length ps) + j ≡ suc (length ps + j) = omega arith in ap (place_at (p ∷ (ps ++ more))) e ∙ place_new ps more j

pub place_last : (ps : List Place) (p : Place) → place_at (ps ++ p ∷ []) (length ps) ≡ p
place_last [] p = refl
place_last (q ∷ ps) p = place_last ps p

module _ {O : Type 0} where
  pub width_old : (nodes : List (Node O)) (node : Node O) (k : ℕ) → k < length nodes → width (nodes ++ node ∷ []) k ≡ width nodes k
  width_old [] node k h = absurd (omega (arith, h))
  width_old (n ∷ nodes) node zero h = refl
  width_old (n ∷ nodes) node (suc k) h = let less : k < length nodes = omega (arith, h) in width_old nodes node k less

  pub width_last : (nodes : List (Node O)) (node : Node O) → width (nodes ++ node ∷ []) (length nodes) ≡ length node.parts
  width_last [] node = refl
  width_last (n ∷ nodes) node = width_last nodes node

  pub part_one : (nodes : List (Node O)) (node : Node O) (k f : ℕ) (part : Part O) → part_at (nodes ++ node ∷ []) k f ≡ Some part
      → ((k < length nodes) × (part_at nodes k f ≡ Some part)) ⊎ ((k ≡ length nodes) × (slice_get node.parts f ≡ Some part))
  part_one [] node zero f part e = inr (refl, e)
  part_one [] node (suc k) f part e = absurd (none_some e)
  part_one (n ∷ nodes) node zero f part e = inl (omega arith, e)
  part_one (n ∷ nodes) node (suc k) f part e = elim (part_one nodes node k f part e) [
    | inl a ↦ (let h = a.0 in inl (omega (arith, h), a.1))
    | inr a ↦ inr (ap suc a.0, a.1)
  ]

  pub layout_old : (nodes : List (Node O)) (node : Node O) (k : ℕ) → k < length nodes → layout_at (nodes ++ node ∷ []) k ≡ layout_at nodes k
  layout_old [] node k h = absurd (omega (arith, h))
  layout_old (n ∷ nodes) node zero h = refl
  layout_old (n ∷ nodes) node (suc k) h = let less : k < length nodes = omega (arith, h) in layout_old nodes node k less

  pub layout_last : (nodes : List (Node O)) (node : Node O) → layout_at (nodes ++ node ∷ []) (length nodes) ≡ node.layout
  layout_last [] node = refl
  layout_last (n ∷ nodes) node = layout_last nodes node

last_or : (n k : ℕ) → k < n + 1 → (k < n) ⊎ (k ≡ n)
last_or n k h = grind (arith, h)

-- ---- places

paths_self : (p : List ℕ) → ArePathsApart p p → ⊥
paths_self [] h = h
paths_self (n ∷ p) (inl d) = d refl
paths_self (n ∷ p) (inr e) = paths_self p e.1

apart_self : (p : Place) → AreApart p p → ⊥
apart_self Nowhere h = h
apart_self (At r p) (inl d) = d refl
apart_self (At r p) (inr e) = paths_self p e.1

paths_same : {r s : ℕ} {p q : List ℕ} → At r p ≡ At s q → p ≡ q
paths_same h = cc

not_below_self : (p : Place) (n : ℕ) (more : List ℕ) (roots : List (StobjList ℕ)) → IsPlace roots p → p ≡ below p (n ∷ more) → ⊥
not_below_self Nowhere n more roots i e = absurd i
not_below_self (At r p) n more roots i e =
    let l : length p ≡ length (p ++ n ∷ more) = ap length (paths_same e) in omega (arith, l, length-append p (n ∷ more))

module _ {O : Type 0} (shown : O → StobjList ℕ → Type 0) where
  -- ---- more places

  pub shows_more : (kept : Kept) (more : List Place) (k k' : ℕ) (at : Place) (part : Part O) → k ≤ length kept.places → k ≤ k' → Shows shown kept k at part → Shows shown (with_places more kept) k' at part
  shows_more kept more k k' at (Own o) w u s = s
  shows_more kept more k k' at (Child c) w u s = let h = s.0 in let low : c < length kept.places = omega (arith, w, h) in (omega (arith, u, h), place_old kept.places more c low ∙ s.1)
  shows_more kept more k k' at (Children cs) w u s = (s.0, λ i c e. child i c (s.1 i c e))
    where
      child : (i c : ℕ) → IsChild kept k (below at (i ∷ [])) c → IsChild (with_places more kept) k' (below at (i ∷ [])) c
      child i c t = let h = t.0 in let low : c < length kept.places = omega (arith, w, h) in (omega (arith, u, h), place_old kept.places more c low ∙ t.1)

  -- ---- the node

  -- a place that is apart from the new node's, or in one of its fields
  abbrev Beside : Kept → Place → List (Part O) → ℕ → Type 0
  Beside kept at made j = AreApart (place_at kept.places j) at ⊎ IsIn made at (place_at kept.places j)

  module _ (nodes : List (Node O)) (kept : Kept) (h : Holds shown nodes kept) (at : Place) (node : Node O) (there : IsPlace kept.roots at)
      (counts : spine (list_at kept.roots at) ≡ Some (length node.parts))
      (fields : (f : ℕ) (part : Part O) → slice_get node.parts f ≡ Some part → Shows shown kept (length nodes) (below at (f ∷ [])) part)
      (beside : (j : ℕ) → j < length kept.places → Beside kept at node.parts j) where
    -- an old place is clear of the new node's fields
    old_clear : (j f : ℕ) (part : Part O) → Beside kept at node.parts j → slice_get node.parts f ≡ Some part → IsOwn part → IsClear (place_at kept.places j) (below at (f ∷ []))
    old_clear j f part (inl a) e o = inl (places_swapped (below at (f ∷ [])) (place_at kept.places j) (below_apart at (place_at kept.places j) (f ∷ []) (places_swapped (place_at kept.places j) at a)))
    old_clear j f part (inr a) e o = inl (subst (λ (p : Place). AreApart p (below at (f ∷ []))) (sym a.is) (both_below at (a.field ∷ a.rest) (f ∷ []) kept.roots there (inl differ)))
      where
        differ : a.field ≢ f
        differ d = a.has_nodes (subst IsOwn (some_same (sym e ∙ (ap (slice_get node.parts) (sym d) ∙ a.is_there))) o)

    -- the new place is clear of an old node's fields
    new_clear : (k f : ℕ) → Beside kept at node.parts k → IsClear at (field_at kept.places k f)
    new_clear k f (inl a) = inl (places_swapped (field_at kept.places k f) at (below_apart (place_at kept.places k) at (f ∷ []) a))
    new_clear k f (inr a) = inr (record { next = a.field; more = a.rest ++ f ∷ []; is = ap (λ (p : Place). below p (f ∷ [])) a.is ∙ below_both at (a.field ∷ a.rest) (f ∷ []) })

    differs : (j : ℕ) → Beside kept at node.parts j → place_at kept.places j ≡ at → ⊥
    differs j (inl a) e = apart_self at (subst (λ (p : Place). AreApart p at) e a)
    differs j (inr a) e = not_below_self at a.field a.rest kept.roots there (sym e ∙ a.is)

    pub push_holds : Holds shown (nodes ++ node ∷ []) (with_places (at ∷ []) kept)
    push_holds = record {
      counted = length-append kept.places (at ∷ []) ∙ (ap (λ (n : ℕ). n + 1) h.counted ∙ sym (length-append nodes (node ∷ [])));
      there = λ k w. by_place k (λ p. IsPlace kept.roots p) (position k w) (h.there k) there;
      widths = λ k w. widths k (position k w);
      shows = λ k f part e. shown_at k f part (part_one nodes node k f part e);
      clear = λ j k f part w e o. clears j k f part (position j w) (part_one nodes node k f part e) o;
      distinct = λ j k w v e. same j k (position j w) (position k v) e;
    }
      where
        position : (k : ℕ) → k < length (nodes ++ node ∷ []) → (k < length nodes) ⊎ (k ≡ length nodes)
        position k w = let l = length-append nodes (node ∷ []) in let m : k < length nodes + 1 = omega (arith, w, l) in last_or (length nodes) k m

        within : (k : ℕ) → k < length nodes → k < length kept.places
        within k w = let e = h.counted in omega (arith, w, e)

        old_place : (k : ℕ) → k < length nodes → place_at (kept.places ++ at ∷ []) k ≡ place_at kept.places k
        old_place k w = place_old kept.places (at ∷ []) k (within k w)

        new_place : (k : ℕ) → k ≡ length nodes → place_at (kept.places ++ at ∷ []) k ≡ at
        new_place k e = ap (place_at (kept.places ++ at ∷ [])) (e ∙ sym h.counted) ∙ place_last kept.places at

        by_place : (k : ℕ) (P : Place → Type 0) → (k < length nodes) ⊎ (k ≡ length nodes) → (k < length nodes → P (place_at kept.places k)) → P at → P (place_at (kept.places ++ at ∷ []) k)
        by_place k P (inl w) old new = subst P (sym (old_place k w)) (old w)
        by_place k P (inr e) old new = subst P (sym (new_place k e)) new

        widths : (k : ℕ) → (k < length nodes) ⊎ (k ≡ length nodes) → spine (list_at kept.roots (place_at (kept.places ++ at ∷ []) k)) ≡ Some (width (nodes ++ node ∷ []) k)
        widths k (inl w) = ap (λ (p : Place). spine (list_at kept.roots p)) (old_place k w) ∙ (h.widths k w ∙ ap Some (sym (width_old nodes node k w)))
        widths k (inr e) = ap (λ (p : Place). spine (list_at kept.roots p)) (new_place k e) ∙ (counts ∙ ap Some (sym (ap (width (nodes ++ node ∷ [])) e ∙ width_last nodes node)))

        shown_at : (k f : ℕ) (part : Part O) → ((k < length nodes) × (part_at nodes k f ≡ Some part)) ⊎ ((k ≡ length nodes) × (slice_get node.parts f ≡ Some part))
            → Shows shown (with_places (at ∷ []) kept) k (field_at (kept.places ++ at ∷ []) k f) part
        shown_at k f part (inl a) = subst (λ (p : Place). Shows shown (with_places (at ∷ []) kept) k (below p (f ∷ [])) part) (sym (old_place k a.0))
            (shows_more kept (at ∷ []) k k (field_at kept.places k f) part (let w = within k a.0 in omega (arith, w)) (omega arith) (h.shows k f part a.1))
        shown_at k f part (inr a) = subst (λ (p : Place). Shows shown (with_places (at ∷ []) kept) k (below p (f ∷ [])) part) (sym (new_place k a.0))
            (shows_more kept (at ∷ []) (length nodes) k (below at (f ∷ [])) part (let e = h.counted in omega (arith, e)) (let e = a.0 in omega (arith, e)) (fields f part a.1))

        clears : (j k f : ℕ) (part : Part O) → (j < length nodes) ⊎ (j ≡ length nodes) → ((k < length nodes) × (part_at nodes k f ≡ Some part)) ⊎ ((k ≡ length nodes) × (slice_get node.parts f ≡ Some part)) → IsOwn part
            → IsClear (place_at (kept.places ++ at ∷ []) j) (field_at (kept.places ++ at ∷ []) k f)
        clears j k f part p (inl a) o = subst (λ (q : Place). IsClear (place_at (kept.places ++ at ∷ []) j) (below q (f ∷ []))) (sym (old_place k a.0))
            (by_place j (λ p. IsClear p (field_at kept.places k f)) p (λ w. h.clear j k f part w a.1 o) (new_clear k f (beside k (within k a.0))))
        clears j k f part p (inr a) o = subst (λ (q : Place). IsClear (place_at (kept.places ++ at ∷ []) j) (below q (f ∷ []))) (sym (new_place k a.0))
            (by_place j (λ p. IsClear p (below at (f ∷ []))) p (λ w. old_clear j f part (beside j (within j w)) a.1 o) (inr (record { next = f; more = []; is = refl })))

        same : (j k : ℕ) → (j < length nodes) ⊎ (j ≡ length nodes) → (k < length nodes) ⊎ (k ≡ length nodes) → place_at (kept.places ++ at ∷ []) j ≡ place_at (kept.places ++ at ∷ []) k → j ≡ k
        same j k (inl w) (inl v) e = h.distinct j k w v (sym (old_place j w) ∙ (e ∙ old_place k v))
        same j k (inl w) (inr v) e = absurd (differs j (beside j (within j w)) (sym (old_place j w) ∙ (e ∙ new_place k v)))
        same j k (inr w) (inl v) e = absurd (differs k (beside k (within k v)) (sym (old_place k v) ∙ (sym e ∙ new_place j w)))
        same j k (inr w) (inr v) e = w ∙ sym v
