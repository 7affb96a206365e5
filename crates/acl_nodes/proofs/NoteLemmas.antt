-- What a write leaves of the roots once the notes are put back.
use Rattle.std.proofs.Common.{◌≡◌, ℕ, zero, suc, ◌<◌, ◌≤◌, List, [], ◌∷◌, ◌++◌, length, take, refl, sym, ap, ◌∙◌, subst, arith, inl, inr}
use Rattle.std.specs.Prelude.{◌≢◌, ◌⊎◌}
use Rattle.model_lists.specs.Lists.{StobjList}
use Rattle.model_eval.specs.PlacesKeeping.{Place, Nowhere, At, below, with_under, list_at, with_list_at}
use Rattle.model_places.specs.Places.{ArePathsApart, AreApart}
use Rattle.model_places.proofs.WrittenLemmas.{modified, written_is, written_apart, written_again, written_over, written_further}
use Rattle.acl_nodes.specs.Kept.{Kept, place_at, IsRooted}
use Rattle.acl_nodes.specs.Notes.{Note, place_noted, undone, Among, IsCovered, Remembers}
use Rattle.acl_nodes.proofs.NodeLemmas.{nat_or}

-- ---- how two places lie

-- the second path goes on from the first, the first from the second, or they are apart
abbrev PathsLie : List ℕ → List ℕ → Type 0
PathsLie p q = ((rest : List ℕ) × (q ≡ p ++ rest)) ⊎ (((rest : List ℕ) × (p ≡ q ++ rest)) ⊎ ArePathsApart p q)

paths_lie : (p q : List ℕ) → PathsLie p q
paths_lie [] q = inl (q, refl)
paths_lie (n ∷ p) [] = inr (inl (n ∷ p, refl))
paths_lie (n ∷ p) (m ∷ q) = by (paths_lie p q) (nat_or n m)
  where
    longer : n ≡ m → PathsLie p q → PathsLie (n ∷ p) (m ∷ q)
    longer e (inl a) = inl (a.0, both (sym e) a.1)
      where
        both : {xs ys : List ℕ} → m ≡ n → xs ≡ ys → m ∷ xs ≡ n ∷ ys
        both h k = cc
    longer e (inr (inl a)) = inr (inl (a.0, both e a.1))
      where
        both : {xs ys : List ℕ} → n ≡ m → xs ≡ ys → n ∷ xs ≡ m ∷ ys
        both h k = cc
    longer e (inr (inr a)) = inr (inr (inr (e, a)))

    by : PathsLie p q → (n ≡ m) ⊎ (n ≢ m) → PathsLie (n ∷ p) (m ∷ q)
    by l (inl e) = longer e l
    by l (inr d) = inr (inr (inl d))

-- the second place is at or below the first, the first below the second, they are apart, or the first is nowhere
abbrev PlacesLie : Place → Place → Type 0
PlacesLie p q = ((rest : List ℕ) × (q ≡ below p rest)) ⊎ (((rest : List ℕ) × (p ≡ below q rest)) ⊎ AreApart p q)

places_lie : (r s : ℕ) (p q : List ℕ) → PlacesLie (At r p) (At s q)
places_lie r s p q = by (nat_or r s)
  where
    same : r ≡ s → PathsLie p q → PlacesLie (At r p) (At s q)
    same e (inl a) = inl (a.0, both (sym e) a.1)
      where
        both : {xs ys : List ℕ} → s ≡ r → xs ≡ ys → At s xs ≡ At r ys
        both h k = cc
    same e (inr (inl a)) = inr (inl (a.0, both e a.1))
      where
        both : {xs ys : List ℕ} → r ≡ s → xs ≡ ys → At r xs ≡ At s ys
        both h k = cc
    same e (inr (inr a)) = inr (inr (inr (e, a)))

    by : (r ≡ s) ⊎ (r ≢ s) → PlacesLie (At r p) (At s q)
    by (inl e) = same e (paths_lie p q)
    by (inr d) = inr (inr (inl d))

-- ---- a write and one note

-- a write at a place is gone once the note is put back, or is another write there
abbrev Either : Place → StobjList ℕ → Place → StobjList ℕ → List (StobjList ℕ) → Type 0
Either q v p x roots = (with_list_at q v (with_list_at p x roots) ≡ with_list_at q v roots)
    ⊎ ((y : StobjList ℕ) × (with_list_at q v (with_list_at p x roots) ≡ with_list_at p y (with_list_at q v roots)))

covered_note : (q p : Place) (v x : StobjList ℕ) (roots : List (StobjList ℕ)) (rest : List ℕ) → p ≡ below q rest → with_list_at q v (with_list_at p x roots) ≡ with_list_at q v roots
covered_note q p v x roots rest e = ap (λ (k : Place). with_list_at q v (with_list_at k x roots)) e ∙ written_over q rest v x roots

one_note : (q p : Place) (v x : StobjList ℕ) (roots : List (StobjList ℕ)) → Either q v p x roots
one_note Nowhere p v x roots = inr (x, refl)
one_note (At r q) Nowhere v x roots = inl refl
one_note (At r q) (At s p) v x roots = by (places_lie r s q p)
  where
    by : PlacesLie (At r q) (At s p) → Either (At r q) v (At s p) x roots
    by (inl a) = inl (covered_note (At r q) (At s p) v x roots a.0 a.1)
    by (inr (inl a)) = inr (
      with_under a.0 v (list_at (with_list_at (At s p) x roots) (At s p)),
      ap (λ (k : Place). with_list_at k v (with_list_at (At s p) x roots)) a.1
          ∙ (written_further (At s p) a.0 x v roots
          ∙ ap (λ (k : Place). with_list_at (At s p) (with_under a.0 v (list_at (with_list_at (At s p) x roots) (At s p))) (with_list_at k v roots)) (sym a.1)),
    )
    by (inr (inr a)) = inr (x, written_apart (At r q) (At s p) v x roots a)

-- ---- a write and all notes

-- a write in what was noted is gone once all is put back
pub covered_undone : (places : List Place) (notes : List Note) (p : Place) (x : StobjList ℕ) (roots : List (StobjList ℕ)) → IsCovered places notes p
    → undone places notes (with_list_at p x roots) ≡ undone places notes roots
covered_undone places notes p x roots c = go notes x roots c.is_there
  where
    go : (ns : List Note) (x : StobjList ℕ) (roots : List (StobjList ℕ)) → Among c.note ns → undone places ns (with_list_at p x roots) ≡ undone places ns roots
    go [] x roots a = absurd a
    go (n ∷ ns) x roots (inl e) =
        ap (undone places ns) (covered_note (place_noted places n) p n.list x roots c.rest (c.is ∙ ap (λ (m : Note). below (place_noted places m) c.rest) (sym e)))
    go (n ∷ ns) x roots (inr a) = by (λ y. go ns y (with_list_at (place_noted places n) n.list roots) a) (one_note (place_noted places n) p n.list x roots)
      where
        by : ((y : StobjList ℕ) → undone places ns (with_list_at p y (with_list_at (place_noted places n) n.list roots)) ≡ undone places ns (with_list_at (place_noted places n) n.list roots))
            → Either (place_noted places n) n.list p x roots → undone places (n ∷ ns) (with_list_at p x roots) ≡ undone places (n ∷ ns) roots
        by again (inl e) = ap (undone places ns) e
        by again (inr t) = ap (undone places ns) t.1 ∙ again t.0

taken_modified : (n m : ℕ) (g : StobjList ℕ → StobjList ℕ) (ls : List (StobjList ℕ)) → n ≤ m → take n (modified m g ls) ≡ take n ls
taken_modified zero m g ls h = refl
taken_modified (suc n) m g [] h = refl
taken_modified (suc n) zero g (l ∷ ls) h = absurd (omega (arith, h))
taken_modified (suc n) (suc m) g (l ∷ ls) h = let low : n ≤ m = omega (arith, h) in ap (λ (ks : List (StobjList ℕ)). l ∷ ks) (taken_modified n m g ls low)

-- a write in a later root
pub written_later : (n : ℕ) (p : Place) (x : StobjList ℕ) (roots : List (StobjList ℕ)) → (IsRooted n p → ⊥) → take n (with_list_at p x roots) ≡ take n roots
written_later n Nowhere x roots h = refl
written_later n (At r p) x roots h = ap (take n) (written_is r p x roots) ∙ taken_modified n r (with_under p x) roots (late n r h)
  where
    late : (n r : ℕ) → (r < n → ⊥) → n ≤ r
    late n r h = by (below_or r n)
      where
        below_or : (r n : ℕ) → (r < n) ⊎ (n ≤ r)
        below_or r n = grind arith

        by : (r < n) ⊎ (n ≤ r) → n ≤ r
        by (inl l) = absurd (h l)
        by (inr l) = l

-- a write in a later root stays out of what the notes are put into
pub later_undone : (n : ℕ) (places : List Place) (notes : List Note) (p : Place) (x : StobjList ℕ) (roots : List (StobjList ℕ)) → (IsRooted n p → ⊥)
    → take n (undone places notes (with_list_at p x roots)) ≡ take n (undone places notes roots)
later_undone n places [] p x roots d = written_later n p x roots d
later_undone n places (m ∷ ms) p x roots d = by (λ y. later_undone n places ms p y (with_list_at (place_noted places m) m.list roots) d) (one_note (place_noted places m) p m.list x roots)
  where
    by : ((y : StobjList ℕ) → take n (undone places ms (with_list_at p y (with_list_at (place_noted places m) m.list roots))) ≡ take n (undone places ms (with_list_at (place_noted places m) m.list roots)))
        → Either (place_noted places m) m.list p x roots → take n (undone places (m ∷ ms) (with_list_at p x roots)) ≡ take n (undone places (m ∷ ms) roots)
    by again (inl e) = ap (λ (rs : List (StobjList ℕ)). take n (undone places ms rs)) e
    by again (inr t) = ap (λ (rs : List (StobjList ℕ)). take n (undone places ms rs)) t.1 ∙ again t.0

not_rooted : (r : ℕ) (p : Place) (path : List ℕ) → (IsRooted r p → ⊥) → IsRooted r (below p path) → ⊥
not_rooted r Nowhere path d h = d h
not_rooted r (At s p) path d h = d h

-- ---- what is remembered

-- what is there is noted
pub note_remembered : (notes : List Note) (first count : ℕ) (kept before : Kept) (n : Note) → Remembers notes first count kept before → list_at kept.roots (place_noted kept.places n) ≡ n.list → n.node < first
    → Remembers (n ∷ notes) first count kept before
note_remembered notes first count kept before n r e w = record {
  counted = r.counted;
  places = r.places;
  roots = ap (λ (rs : List (StobjList ℕ)). take (length before.roots) (undone kept.places notes rs))
      (ap (λ (l : StobjList ℕ). with_list_at (place_noted kept.places n) l kept.roots) (sym e) ∙ written_again (place_noted kept.places n) kept.roots) ∙ r.roots;
  early = λ m a. early m a;
  old = r.old;
  local = r.local;
}
  where
    early : (m : Note) → Among m (n ∷ notes) → m.node < first
    early m (inl q) = subst (λ (k : Note). k.node < first) q w
    early m (inr a) = r.early m a

-- a list of a local node, or one that was noted, is overwritten
pub write_remembered : (notes : List Note) (first count n : ℕ) (path : List ℕ) (x : StobjList ℕ) (kept before : Kept) → Remembers notes first count kept before
    → IsCovered kept.places notes (below (place_at kept.places n) path) ⊎ ((first ≤ n) × (n < count))
    → Remembers notes first count (record kept { roots = with_list_at (below (place_at kept.places n) path) x kept.roots }) before
write_remembered notes first count n path x kept before r may = record {
  counted = r.counted;
  places = r.places;
  roots = undo may ∙ r.roots;
  early = r.early;
  old = r.old;
  local = r.local;
}
  where
    undo : IsCovered kept.places notes (below (place_at kept.places n) path) ⊎ ((first ≤ n) × (n < count))
        → take (length before.roots) (undone kept.places notes (with_list_at (below (place_at kept.places n) path) x kept.roots)) ≡ take (length before.roots) (undone kept.places notes kept.roots)
    undo (inl c) = ap (take (length before.roots)) (covered_undone kept.places notes (below (place_at kept.places n) path) x kept.roots c)
    undo (inr w) = later_undone (length before.roots) kept.places notes (below (place_at kept.places n) path) x kept.roots (not_rooted (length before.roots) (place_at kept.places n) path (r.local n w.0 w.1))

-- the newest is put back
pub back_remembered : (notes : List Note) (first count : ℕ) (kept before : Kept) (n : Note) → Remembers (n ∷ notes) first count kept before
    → Remembers notes first count (record kept { roots = with_list_at (place_noted kept.places n) n.list kept.roots }) before
back_remembered notes first count kept before n r = record {
  counted = r.counted;
  places = r.places;
  roots = r.roots;
  early = λ m a. r.early m (inr a);
  old = r.old;
  local = r.local;
}
