-- The nodes of a new object, one field after the other.
use Rattle.std.proofs.Common.{◌≡◌, ℕ, zero, suc, ◌+◌, ◌-◌, ◌<◌, ◌≤◌, List, [], ◌∷◌, ◌++◌, map, length, replicate, Option, Some, None, refl, sym, ap, ◌∙◌, subst, arith, inl, inr}
use Rattle.std.specs.Prelude.{◌⊎◌, slice_get}
use Rattle.std.proofs.lemmas.List.{length-append, append_assoc, append-nil, length-replicate}
use Rattle.std.proofs.lemmas.Option.{slice_get_within, slice_get-map}
use Rattle.model_lists.specs.Lists.{StobjList, size, item}
use Rattle.model_eval.specs.PlacesKeeping.{Place, Nowhere, At, below, list_under, root_list, list_at}
use Rattle.model_places.specs.Places.{AreApart, IsPlace, IsPath}
use Rattle.model_places.proofs.PathLemmas.{at_below, place_below, below_apart, both_below, places_swapped}
use Rattle.acl_nodes.specs.Kept.{Kept, place_at, field_at, items_of, spine}
use Rattle.acl_nodes.specs.Nodes.{Part, Own, Child, Children, Node, part_at, IsOwn}
use Rattle.acl_nodes.specs.Holding.{Shows, Holds}
use Rattle.acl_nodes.specs.Making.{with_places, IsReady, IsFrom, Pushed, MakesNode, MakesPart, IsIn, Filled, MakesParts, IsCreated}
use Rattle.acl_nodes.proofs.ClearLemmas.{below_both}
use Rattle.acl_nodes.proofs.FieldLemmas.{field_there}
use Rattle.acl_nodes.proofs.PushLemmas.{place_old, place_new, place_last, shows_more, push_holds}

none_some : {X : Type 0} {x : X} → None ≡ Some x → ⊥
none_some e = cc

some_same : {X : Type 0} {x y : X} → Some x ≡ Some y → x ≡ y
some_same e = cc

-- ---- lists

pub size_items : (ls : List (StobjList ℕ)) → size (items_of ls) ≡ length ls
size_items [] = refl
size_items (l ∷ ls) = let e = size_items ls in omega (arith, e)

spine_items : (ls : List (StobjList ℕ)) → spine (items_of ls) ≡ Some (length ls)
spine_items [] = refl
spine_items (l ∷ ls) = let e = spine_items ls in rw e refl

item_get : (ls : List (StobjList ℕ)) (f : ℕ) (l : StobjList ℕ) → slice_get ls f ≡ Some l → item f (items_of ls) ≡ l
item_get [] f l e = absurd (none_some e)
item_get (k ∷ ls) zero l e = some_same e
item_get (k ∷ ls) (suc f) l e = item_get ls f l e

get_one : {X : Type 0} (xs : List X) (y : X) (i : ℕ) (x : X) → slice_get (xs ++ y ∷ []) i ≡ Some x → (slice_get xs i ≡ Some x) ⊎ ((i ≡ length xs) × (y ≡ x))
get_one [] y zero x e = inr (refl, some_same e)
get_one [] y (suc i) x e = absurd (none_some e)
get_one (z ∷ xs) y zero x e = inl e
get_one (z ∷ xs) y (suc i) x e = elim (get_one xs y i x e) [ inl a ↦ inl a | inr a ↦ inr (ap suc a.0, a.1) ]

get_more : {X : Type 0} (xs : List X) (y : X) (i : ℕ) (x : X) → slice_get xs i ≡ Some x → slice_get (xs ++ y ∷ []) i ≡ Some x
get_more [] y i x e = absurd (none_some e)
get_more (z ∷ xs) y zero x e = e
get_more (z ∷ xs) y (suc i) x e = get_more xs y i x e

get_last : {X : Type 0} (xs : List X) (y : X) → slice_get (xs ++ y ∷ []) (length xs) ≡ Some y
get_last [] y = refl
get_last (z ∷ xs) y = get_last xs y

below_nil : (p : Place) → below p [] ≡ p
below_nil Nowhere = refl
below_nil (At r p) = ap (At r) (append-nil p)

-- a number of a list, or of one behind it
split : (n m j : ℕ) → j < n + m → (j < n) ⊎ ((i : ℕ) × (j ≡ n + i) × (i < m))
split n m j h = by (below_or j n)
  where
    below_or : (j n : ℕ) → (j < n) ⊎ (n ≤ j)
    below_or j n = grind arith

    by : (j < n) ⊎ (n ≤ j) → (j < n) ⊎ ((i : ℕ) × (j ≡ n + i) × (i < m))
    by (inl l) = inl l
    by (inr l) = inr (j - n, omega (arith, l), omega (arith, l, h))

-- a place of two lists of places, one behind the other
placed : (ps more : List Place) (P : Place → Type 0) → ((j : ℕ) → j < length ps → P (place_at ps j)) → ((j : ℕ) → j < length more → P (place_at more j))
    → (j : ℕ) → j < length (ps ++ more) → P (place_at (ps ++ more) j)
placed ps more P a b j h = by (split (length ps) (length more) j (let l = length-append ps more in omega (arith, h, l)))
  where
    by : (j < length ps) ⊎ ((i : ℕ) × (j ≡ length ps + i) × (i < length more)) → P (place_at (ps ++ more) j)
    by (inl w) = subst P (sym (place_old ps more j w)) (a j w)
    by (inr s) = subst P (sym (ap (place_at (ps ++ more)) s.1 ∙ place_new ps more s.0)) (b s.0 s.2)

apart_below : (p at : Place) (path : List ℕ) → AreApart p at → AreApart p (below at path)
apart_below p at path a = places_swapped (below at path) p (below_apart at p path (places_swapped p at a))

twice : (kept : Kept) (more again : List Place) → with_places again (with_places more kept) ≡ with_places (more ++ again) kept
twice kept more again = ap (λ (ps : List Place). record kept { places = ps }) (append_assoc kept.places more again)

no_more : (kept : Kept) → with_places [] kept ≡ kept
no_more kept = ap (λ (ps : List Place). record kept { places = ps }) (append-nil kept.places)

-- ---- one more root

root_before : (roots : List (StobjList ℕ)) (l : StobjList ℕ) (r : ℕ) → r < length roots → root_list (roots ++ l ∷ []) r ≡ root_list roots r
root_before [] l r h = absurd (omega (arith, h))
root_before (k ∷ roots) l zero h = refl
root_before (k ∷ roots) l (suc r) h = let less : r < length roots = omega (arith, h) in root_before roots l r less

root_last : (roots : List (StobjList ℕ)) (l : StobjList ℕ) → root_list (roots ++ l ∷ []) (length roots) ≡ l
root_last [] l = refl
root_last (k ∷ roots) l = root_last roots l

list_before : (roots : List (StobjList ℕ)) (l : StobjList ℕ) (p : Place) → IsPlace roots p → list_at (roots ++ l ∷ []) p ≡ list_at roots p
list_before roots l Nowhere h = absurd h
list_before roots l (At r p) h = ap (list_under p) (root_before roots l r h.0)

place_before : (roots : List (StobjList ℕ)) (l : StobjList ℕ) (p : Place) → IsPlace roots p → IsPlace (roots ++ l ∷ []) p
place_before roots l Nowhere h = absurd h
place_before roots l (At r p) h = ((let w = h.0 in let e = length-append roots (l ∷ []) in omega (arith, w, e)), subst (IsPath p) (sym (root_before roots l r h.0)) h.1)

other_root : (roots : List (StobjList ℕ)) (p : Place) → IsPlace roots p → AreApart p (At (length roots) [])
other_root roots Nowhere h = absurd h
other_root roots (At r p) h = inl (λ e. absurd (let w = h.0 in omega (arith, w, e)))

module _ {O : Type 0} where
  in_from : (made : List (Part O)) (at p : Place) → IsIn made at p → IsFrom at p
  in_from made at p i = (i.field ∷ i.rest, i.is)

module _ {O : Type 0} (shown : O → StobjList ℕ → Type 0) where
  -- ---- fields that have no nodes, a child, children

  pub own_part : (l : StobjList ℕ) (nodes : List (Node O)) (o : O) → shown o l → MakesPart shown l nodes nodes (Own o)
  own_part l nodes o s kept at r = (
    record { more = []; holds = subst (Holds shown nodes) (sym (no_more kept)) r.holds; from = λ j h. absurd (omega (arith, h)) },
    subst (shown o) (sym r.shows_it) s,
    λ j h p. absurd (omega (arith, h)),
  )

  pub child_part : (l : StobjList ℕ) (nodes after : List (Node O)) (c : ℕ) → MakesNode shown l nodes after c → MakesPart shown l nodes after (Child c)
  child_part l nodes after c m kept at r = let p = m kept at r in (p.0, p.1, λ j h o. o)

  pub children_part : (l : StobjList ℕ) (n : ℕ) (nodes after : List (Node O)) (cs : List ℕ) → length cs ≡ n → MakesParts shown (replicate n l) nodes after (map Child cs)
      → MakesPart shown (items_of (replicate n l)) nodes after (Children cs)
  children_part l n nodes after cs e m kept at r = let a = m kept at r in (
    record { more = a.more; holds = a.holds; from = λ j h. in_from (map Child cs) at (place_at a.more j) (a.inside j h) },
    (
      ap spine r.shows_it ∙ (spine_items (replicate n l) ∙ ap Some (length-replicate n l ∙ sym e)),
      λ i c g. a.shows i (Child c) (slice_get-map Child cs i ∙ ap (λ (o : Option ℕ). map_option o) g),
    ),
    λ j h o. o,
  )
    where
      map_option : Option ℕ → Option (Part O)
      map_option None = None
      map_option (Some c) = Some (Child c)

  -- ---- fields in turn

  pub parts_start : (ls : List (StobjList ℕ)) (nodes : List (Node O)) → MakesParts shown ls nodes nodes []
  parts_start ls nodes kept at r = record {
    more = [];
    holds = subst (Holds shown nodes) (sym (no_more kept)) r.holds;
    inside = λ j h. absurd (omega (arith, h));
    shows = λ f part e. absurd (none_some e);
  }

  module _ (ls : List (StobjList ℕ)) (mid : List (Node O)) (made : List (Part O)) (l : StobjList ℕ) (got : slice_get ls (length made) ≡ Some l) (kept : Kept) (at : Place)
      (there : IsPlace kept.roots at) (is_list : list_at kept.roots at ≡ items_of ls) (free : (j : ℕ) → j < length kept.places → AreApart (place_at kept.places j) at) (a : Filled shown kept at mid made) where
    field_fits : length made < size (list_at kept.roots at)
    field_fits = let w : length made < length ls = slice_get_within ls (length made) l got in let e : size (list_at kept.roots at) ≡ length ls = ap size is_list ∙ size_items ls in omega (arith, w, e)

    in_apart : (p : Place) → IsIn made at p → AreApart p (below at (length made ∷ []))
    in_apart p i = subst (λ (q : Place). AreApart q (below at (length made ∷ []))) (sym i.is)
        (both_below at (i.field ∷ i.rest) (length made ∷ []) kept.roots there (inl (λ e. absurd (let w = slice_get_within made i.field i.part i.is_there in omega (arith, w, e)))))

    -- the next field's place is ready
    next_ready : IsReady shown mid (with_places a.more kept) (below at (length made ∷ [])) l
    next_ready = record {
      holds = a.holds;
      there = place_below at (length made ∷ []) kept.roots there (field_fits, tt);
      shows_it = at_below at (length made ∷ []) kept.roots there ∙ (ap (item (length made)) is_list ∙ item_get ls (length made) l got);
      free = placed kept.places a.more (λ q. AreApart q (below at (length made ∷ []))) (λ j h. apart_below (place_at kept.places j) at (length made ∷ []) (free j h)) (λ j h. in_apart (place_at a.more j) (a.inside j h));
    }

    filled : (after : List (Node O)) (part : Part O) (p : Pushed shown (with_places a.more kept) (below at (length made ∷ [])) after)
        → Shows shown (with_places p.more (with_places a.more kept)) (length after) (below at (length made ∷ [])) part → ((j : ℕ) → j < length p.more → IsOwn part → ⊥)
        → Filled shown kept at after (made ++ part ∷ [])
    filled after part p s d = record {
      more = a.more ++ p.more;
      holds = subst (Holds shown after) (twice kept a.more p.more) p.holds;
      inside = placed a.more p.more (λ q. IsIn (made ++ part ∷ []) at q) (λ j h. still (place_at a.more j) (a.inside j h)) (λ j h. new_in j (d j h) (p.from j h));
      shows = λ f t e. subst (λ (k : Kept). Shows shown k (length after) (below at (f ∷ [])) t) (twice kept a.more p.more) (shown_at f t (get_one made part f t e));
    }
      where
        still : (q : Place) → IsIn made at q → IsIn (made ++ part ∷ []) at q
        still q i = record { field = i.field; part = i.part; is_there = get_more made part i.field i.part i.is_there; has_nodes = i.has_nodes; rest = i.rest; is = i.is }

        new_in : (j : ℕ) → (IsOwn part → ⊥) → IsFrom (below at (length made ∷ [])) (place_at p.more j) → IsIn (made ++ part ∷ []) at (place_at p.more j)
        new_in j n f = record { field = length made; part = part; is_there = get_last made part; has_nodes = n; rest = f.0; is = f.1 ∙ below_both at (length made ∷ []) f.0 }

        later : length mid ≤ length after
        later = let e = a.holds.counted in let g = p.holds.counted in let k = length-append (kept.places ++ a.more) p.more in omega (arith, e, g, k)

        shown_at : (f : ℕ) (t : Part O) → (slice_get made f ≡ Some t) ⊎ ((f ≡ length made) × (part ≡ t)) → Shows shown (with_places p.more (with_places a.more kept)) (length after) (below at (f ∷ [])) t
        shown_at f t (inl e) = shows_more shown (with_places a.more kept) p.more (length mid) (length after) (below at (f ∷ [])) t (let g = a.holds.counted in omega (arith, g)) later (a.shows f t e)
        shown_at f t (inr e) = subst (λ (u : Part O). Shows shown (with_places p.more (with_places a.more kept)) (length after) (below at (f ∷ [])) u) e.1
            (subst (λ (i : ℕ). Shows shown (with_places p.more (with_places a.more kept)) (length after) (below at (i ∷ [])) part) (sym e.0) s)

  pub parts_step : (ls : List (StobjList ℕ)) (nodes mid after : List (Node O)) (made : List (Part O)) (part : Part O) (l : StobjList ℕ) → MakesParts shown ls nodes mid made → slice_get ls (length made) ≡ Some l
      → MakesPart shown l mid after part → MakesParts shown ls nodes after (made ++ part ∷ [])
  parts_step ls nodes mid after made part l first got second kept at r =
      let a = first kept at r in
      let b = second (with_places a.more kept) (below at (length made ∷ [])) (next_ready ls mid made l got kept at r.there r.shows_it r.free a) in
      filled ls mid made l got kept at r.there r.shows_it r.free a after part b.0 b.1 b.2

  -- ---- the node behind its fields

  pub parts_end : (ls : List (StobjList ℕ)) (nodes mid : List (Node O)) (node : Node O) → MakesParts shown ls nodes mid node.parts → length node.parts ≡ length ls
      → MakesNode shown (items_of ls) nodes (mid ++ node ∷ []) (length mid)
  parts_end ls nodes mid node first e kept at r =
      let a = first kept at r in
      let h = push_holds shown mid (with_places a.more kept) a.holds at node r.there (ap spine r.shows_it ∙ (spine_items ls ∙ ap Some (sym e))) a.shows
      (placed kept.places a.more (λ q. AreApart q at ⊎ IsIn node.parts at q) (λ j w. inl (r.free j w)) (λ j w. inr (a.inside j w))) in (
        record {
          more = a.more ++ at ∷ [];
          holds = subst (Holds shown (mid ++ node ∷ [])) (twice kept a.more (at ∷ [])) h;
          from = placed a.more (at ∷ []) (IsFrom at) (λ j w. in_from node.parts at (place_at a.more j) (a.inside j w)) (λ j w. last j w);
        },
        (
          (let l = length-append mid (node ∷ []) in omega (arith, l)),
          ap (λ (k : Kept). place_at k.places (length mid)) (sym (twice kept a.more (at ∷ []))) ∙ (ap (place_at ((kept.places ++ a.more) ++ at ∷ [])) (sym a.holds.counted) ∙ place_last (kept.places ++ a.more) at),
        ),
      )
    where
      last : (j : ℕ) → j < length (at ∷ []) → IsFrom at (place_at (at ∷ []) j)
      last zero w = ([], sym (below_nil at))
      last (suc j) w = absurd (omega (arith, w))

  more_shown : (nodes : List (Node O)) (kept : Kept) (h : Holds shown nodes kept) (l : StobjList ℕ) (k f : ℕ) (part : Part O) → part_at nodes k f ≡ Some part → Shows shown kept k (field_at kept.places k f) part
      → Shows shown (record kept { roots = kept.roots ++ l ∷ [] }) k (field_at kept.places k f) part
  more_shown nodes kept h l k f (Own o) e s = subst (shown o) (sym (list_before kept.roots l (field_at kept.places k f) (field_there shown h k f (Own o) e))) s
  more_shown nodes kept h l k f (Child c) e s = s
  more_shown nodes kept h l k f (Children cs) e s = (ap spine (list_before kept.roots l (field_at kept.places k f) (field_there shown h k f (Children cs) e)) ∙ s.0, s.1)

  more_holds : (nodes : List (Node O)) (kept : Kept) → Holds shown nodes kept → (l : StobjList ℕ) → Holds shown nodes (record kept { roots = kept.roots ++ l ∷ [] })
  more_holds nodes kept h l = record {
    counted = h.counted;
    there = λ k w. place_before kept.roots l (place_at kept.places k) (h.there k w);
    widths = λ k w. ap spine (list_before kept.roots l (place_at kept.places k) (h.there k w)) ∙ h.widths k w;
    shows = λ k f part e. more_shown nodes kept h l k f part e (h.shows k f part e);
    clear = h.clear;
    distinct = h.distinct;
  }

  pub created : (nodes after : List (Node O)) (l : StobjList ℕ) (c : ℕ) → MakesNode shown l nodes after c → (kept : Kept) → Holds shown nodes kept → IsCreated shown kept l after c
  created nodes after l c m kept h =
      let made = m (record kept { roots = kept.roots ++ l ∷ [] }) (At (length kept.roots) []) (record {
        holds = more_holds nodes kept h l;
        there = ((let e = length-append kept.roots (l ∷ []) in omega (arith, e)), tt);
        shows_it = root_last kept.roots l;
        free = λ j w. other_root kept.roots (place_at kept.places j) (h.there j (let e = h.counted in omega (arith, w, e)));
      }) in
      record { more = made.0.more; holds = made.0.holds; inside = made.0.from; root = made.1.1; below_all = made.1.0 }
