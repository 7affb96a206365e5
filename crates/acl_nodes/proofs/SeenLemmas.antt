-- The list at a node's place is what the node stands for.
use Rattle.std.proofs.Common.{◌≡◌, ℕ, zero, suc, ◌+◌, ◌<◌, List, [], ◌∷◌, map, length, Option, Some, None, refl, sym, ap, ◌∙◌, arith}
use Rattle.std.specs.Prelude.{slice_get, option_map}
use Rattle.std.proofs.lemmas.List.{length-map}
use Rattle.model_lists.specs.Lists.{StobjList, Value, Pairs, End, Item, item}
use Rattle.model_eval.specs.PlacesKeeping.{list_at}
use Rattle.model_places.proofs.PathLemmas.{at_below}
use Rattle.acl_nodes.specs.Kept.{Kept, place_at, field_at, items_of, spine}
use Rattle.acl_nodes.specs.Nodes.{Part, Own, Child, Children, Node, part_at, width}
use Rattle.acl_nodes.specs.Holding.{Shows, Holds}
use Rattle.acl_nodes.specs.Seen.{parts_of, part_seen, seen_within, StandFor}
use Rattle.acl_nodes.proofs.FieldLemmas.{field_there}

none_some : {X : Type 0} {x : X} → None ≡ Some x → ⊥
none_some e = cc

some_same : {X : Type 0} {x y : X} → Some x ≡ Some y → x ≡ y
some_same e = cc

-- a list is told by its items, also where lists are seen by a form that keeps items
module _ (seen_by : StobjList ℕ → StobjList ℕ) (ends : seen_by End ≡ End) (items : (x r : StobjList ℕ) → seen_by (Item x r) ≡ Item (seen_by x) (seen_by r)) where
  by_items : (ls : List (StobjList ℕ)) (l : StobjList ℕ) → spine l ≡ Some (length ls) → ((f : ℕ) (x : StobjList ℕ) → slice_get ls f ≡ Some x → seen_by (item f l) ≡ seen_by x) → seen_by l ≡ seen_by (items_of ls)
  by_items ls (Value o) e h = absurd (none_some e)
  by_items ls (Pairs ps) e h = absurd (none_some e)
  by_items [] End e h = refl
  by_items (x ∷ ls) End e h = absurd (let g : 0 ≡ suc (length ls) = some_same e in omega (arith, g))
  by_items [] (Item first rest) e h = absurd (none (spine rest) e)
    where
      none : (r : Option ℕ) → option_map suc r ≡ Some 0 → ⊥
      none None e = none_some e
      none (Some m) e = let g : suc m ≡ 0 = some_same e in omega (arith, g)
  by_items (x ∷ ls) (Item first rest) e h = items first rest ∙ (both (h 0 x refl) (by_items ls rest (fewer (spine rest) e) (λ f y g. h (suc f) y g)) ∙ sym (items x (items_of ls)))
    where
      fewer : (r : Option ℕ) → option_map suc r ≡ Some (suc (length ls)) → r ≡ Some (length ls)
      fewer None e = absurd (none_some e)
      fewer (Some m) e = let g : suc m ≡ suc (length ls) = some_same e in ap Some (omega (arith, g))

      both : {a b c d : StobjList ℕ} → a ≡ b → c ≡ d → Item a c ≡ Item b d
      both p q = cc

module _ {O : Type 0} where
  parts_at : (nodes : List (Node O)) (k f : ℕ) (part : Part O) → slice_get (parts_of nodes k) f ≡ Some part → part_at nodes k f ≡ Some part
  parts_at [] k f part e = e
  parts_at (n ∷ nodes) zero f part e = e
  parts_at (n ∷ nodes) (suc k) f part e = parts_at nodes k f part e

  width_parts : (nodes : List (Node O)) (k : ℕ) → width nodes k ≡ length (parts_of nodes k)
  width_parts [] k = refl
  width_parts (n ∷ nodes) zero = refl
  width_parts (n ∷ nodes) (suc k) = width_parts nodes k

mapped : {X Y : Type 0} (f : X → Y) (xs : List X) (i : ℕ) (y : Y) → slice_get (map f xs) i ≡ Some y → (x : X) × (slice_get xs i ≡ Some x) × (f x ≡ y)
mapped f [] i y e = absurd (none_some e)
mapped f (x ∷ xs) zero y e = (x, refl, some_same e)
mapped f (x ∷ xs) (suc i) y e = mapped f xs i y e

module _ (seen_by : StobjList ℕ → StobjList ℕ) (ends : seen_by End ≡ End) (items : (x r : StobjList ℕ) → seen_by (Item x r) ≡ Item (seen_by x) (seen_by r))
    {O : Type 0} (shown : O → StobjList ℕ → Type 0) (own : O → StobjList ℕ) (one : (o : O) (l : StobjList ℕ) → shown o l → seen_by l ≡ seen_by (own o)) (nodes : List (Node O)) (kept : Kept) (h : Holds shown nodes kept) where
  abbrev Stood : ℕ → Type 0
  Stood d = (k : ℕ) → k < d → k < length nodes → seen_by (list_at kept.roots (place_at kept.places k)) ≡ seen_by (seen_within own d nodes k)

  part_stands : (d k f : ℕ) (part : Part O) → Stood d → k < d + 1 → k < length nodes → part_at nodes k f ≡ Some part → Shows shown kept k (field_at kept.places k f) part
      → seen_by (list_at kept.roots (field_at kept.places k f)) ≡ seen_by (part_seen own (seen_within own d nodes) part)
  part_stands d k f (Own o) s w in_nodes at e = one o (list_at kept.roots (field_at kept.places k f)) e
  part_stands d k f (Child c) s w in_nodes at e = let l = e.0 in let low : c < d = omega (arith, w, l) in let there : c < length nodes = omega (arith, l, in_nodes) in
      ap (λ (p : _). seen_by (list_at kept.roots p)) (sym e.1) ∙ s c low there
  part_stands d k f (Children cs) s w in_nodes at e =
      by_items seen_by ends items (map (seen_within own d nodes) cs) (list_at kept.roots (field_at kept.places k f)) (e.0 ∙ ap Some (sym (length-map cs (seen_within own d nodes))))
      (λ i x g. let m = mapped (seen_within own d nodes) cs i x g in child i x m.0 m.1 m.2)
    where
      child : (i : ℕ) (x : StobjList ℕ) (c : ℕ) → slice_get cs i ≡ Some c → seen_within own d nodes c ≡ x → seen_by (item i (list_at kept.roots (field_at kept.places k f))) ≡ seen_by x
      child i x c g q = let t = e.1 i c g in let l = t.0 in let low : c < d = omega (arith, w, l) in let there : c < length nodes = omega (arith, l, in_nodes) in
          ap seen_by (sym (at_below (field_at kept.places k f) (i ∷ []) kept.roots (field_there shown h k f (Children cs) at))) ∙ (ap (λ (p : _). seen_by (list_at kept.roots p)) (sym t.1) ∙ (s c low there ∙ ap seen_by q))

  node_stands : (d k : ℕ) → Stood d → k < d + 1 → k < length nodes → seen_by (list_at kept.roots (place_at kept.places k)) ≡ seen_by (seen_within own (suc d) nodes k)
  node_stands d k s w there =
      by_items seen_by ends items (map (part_seen own (seen_within own d nodes)) (parts_of nodes k)) (list_at kept.roots (place_at kept.places k))
      (h.widths k there ∙ ap Some (width_parts nodes k ∙ sym (length-map (parts_of nodes k) (part_seen own (seen_within own d nodes)))))
      (λ f x g. let m = mapped (part_seen own (seen_within own d nodes)) (parts_of nodes k) f x g in let at = parts_at nodes k f m.0 m.1 in
      ap seen_by (sym (at_below (place_at kept.places k) (f ∷ []) kept.roots (h.there k there))) ∙ (part_stands d k f m.0 s w there at (h.shows k f m.0 at) ∙ ap seen_by m.2))

  pub all_stand : (d : ℕ) → Stood d
  all_stand zero k w there = absurd (omega (arith, w))
  all_stand (suc d) k w there = let v : k < d + 1 = omega (arith, w) in node_stands d k (all_stand d) v there

pub stand_for : (O : Type 0) → StandFor O
stand_for O own nodes kept h k there = let w : k < k + 1 = omega arith in all_stand (λ l. l) refl (λ x r. refl) (λ o l. l ≡ own o) own (λ o l e. e) nodes kept h (k + 1) k w there
