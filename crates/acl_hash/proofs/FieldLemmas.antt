-- A field that fits its pool, after an entry is put, taken away or given back.
use Rattle.std.specs.Prelude.{◌≡◌, ℕ, ◌+◌, ◌<◌, [], ◌∷◌, Bool, true, false, cond, Option, Some, None, ◌⊎◌, refl, if◌then◌else◌}
use Rattle.std.proofs.Common.{ap, sym, ◌∙◌, arith, subst, inl, inr}
use Rattle.std.specs.Option.{option_flatten, option_map}
use Rattle.std.specs.List.{IsDistinct}
use Rattle.std.specs.Map.{keys_of, values_of}
use Rattle.std.proofs.lemmas.List.Sums.{sum_by-cons}
use Rattle.std.proofs.lemmas.Map.{lookup-none}
use Rattle.std.proofs.lemmas.Map.Entries.{none_past_head}
use Rattle.model_objects.specs.Object.{Object}
use Rattle.model_prims.proofs.Same.{same_tells, same_itself}
use Rattle.acl_pool.specs.Roots.{Held, IsLive, object_at, used, Stays}
use Rattle.acl_pool.specs.declared.Root.{Root}
use Rattle.acl_hash.specs.declared.entry.Entry.{Entry}
use Rattle.acl_hash.specs.Same.{same_key, same_equiv}
use Rattle.acl_hash.specs.Places.{Places, place_at, entry_at, part_of, entry_cells, field_cells, Changes, AreSame}
use Rattle.acl_hash.specs.Pools.{IsRootOf, Fits, shown_at, OthersStay, EntryFits, PutsEntry, GivesEntry, Puts, Removes, Clears}
use Rattle.acl_hash.proofs.RootLemmas.{stays_self, stays_then}

pub entry_fits : {p : Held} {ps : Places} → Fits p ps → (k : Object ℕ) → EntryFits p (entry_at ps k)
entry_fits {p} {ps} f k = record {
  live = λ b r e. f.live k b r e;
  two = λ r pos e h. differ (f.once k k true false r pos e h).1;
}
  where
    differ : true ≡ false → ⊥
    differ e = cc

-- the entry of the key is another one now, and the others are what they were
pub record IsAt (ps qs : Places) (k : Object ℕ) (w : Option (Option Entry)) : Type 0 where
  pub is : (q : Object ℕ) → place_at qs q ≡ (if same_key k q then w else place_at ps q)

pub at_change : {ps qs : Places} {k : Object ℕ} {w : Option (Option Entry)} → Changes ps qs k w → IsAt ps qs k w
at_change c = record { is = c.at }

abbrev IsPart : Places → Object ℕ → Bool → Root → Type 0
IsPart ps q b r = part_of b (entry_at ps q) ≡ Some r

module _ {ps qs : Places} {k : Object ℕ} {w : Option (Option Entry)} (at : IsAt ps qs k w) where
  pub entry_here : (q : Object ℕ) → same_key k q ≡ true → entry_at qs q ≡ option_flatten w
  entry_here q e = ap option_flatten (at.is q ∙ ap (λ (b : Bool). if b then w else place_at ps q) e)

  pub entry_there : (q : Object ℕ) → same_key k q ≡ false → entry_at qs q ≡ entry_at ps q
  entry_there q e = ap option_flatten (at.is q ∙ ap (λ (b : Bool). if b then w else place_at ps q) e)

  -- a root of the new field is the key's, or it was there
  split : (q : Object ℕ) (b : Bool) (r : Root) → IsPart qs q b r
      → ((k ≡ q) × (part_of b (option_flatten w) ≡ Some r)) ⊎ ((same_key k q ≡ false) × IsPart ps q b r)
  split q b r h = go (same_key k q) refl
    where
      go : (t : Bool) → same_key k q ≡ t → ((k ≡ q) × (part_of b (option_flatten w) ≡ Some r)) ⊎ ((same_key k q ≡ false) × IsPart ps q b r)
      go true e = inl (same_tells k q e, ap (part_of b) (sym (entry_here q e)) ∙ h)
      go false e = inr (e, ap (part_of b) (sym (entry_there q e)) ∙ h)

  here : entry_at qs k ≡ option_flatten w
  here = entry_here k (same_itself k)

not_same : (k q : Object ℕ) → k ≡ q → same_key k q ≡ false → ⊥
not_same k q e h = differ (sym (subst (λ x. same_key k x ≡ true) e (same_itself k)) ∙ h)
  where
    differ : true ≡ false → ⊥
    differ e = cc

-- a root of another key is not the key's
apart : {p : Held} {ps : Places} → Fits p ps → (k q : Object ℕ) (b : Bool) (r : Root) → same_key k q ≡ false → IsPart ps q b r → 0 < r.cells → (c : Bool) → IsPart ps k c r → ⊥
apart f k q b r n h pos c g = not_same k q (f.once k q c b r pos g h).0 n

-- what stands for the same is shown alike
mapped : (p s : Held) (o : Option Root) → ((r : Root) → o ≡ Some r → object_at s r ≡ object_at p r) → option_map (object_at s) o ≡ option_map (object_at p) o
mapped p s None h = refl
mapped p s (Some r) h = ap Some (h r refl)

-- ---- an entry is taken away

module _ {p s : Held} {ps qs : Places} {k : Object ℕ} (f : Fits p ps) (at : IsAt ps qs k None) (g : GivesEntry p s (entry_at ps k)) where
  left_stays : (q : Object ℕ) (b : Bool) (r : Root) → same_key k q ≡ false → IsPart ps q b r → Stays p s r
  left_stays q b r n h = g.stays r (f.live q b r h) (apart f k q b r n h)

  was_there : (q : Object ℕ) (b : Bool) (r : Root) → IsPart qs q b r → (same_key k q ≡ false) × IsPart ps q b r
  was_there q b r h = elim (split at q b r h) [ inl e ↦ absurd (none b r e.1) | inr e ↦ e ]
    where
      none : (b : Bool) (r : Root) → part_of b None ≡ Some r → ⊥
      none b r e = cc

  pub fits_less : Fits s qs
  fits_less = record {
    live = λ q b r h. let w = was_there q b r h in (left_stays q b r w.0 w.1).live;
    key = λ q r h. let w = was_there q true r h in (left_stays q true r w.0 w.1).same ∙ f.key q r w.1;
    once = λ x y b c r pos h i. f.once x y b c r pos (was_there x b r h).1 (was_there y c r i).1;
  }

  pub shows_less : (q : Object ℕ) → shown_at s qs q ≡ (if same_key k q then None else shown_at p ps q)
  shows_less q = go (same_key k q) refl
    where
      go : (t : Bool) → same_key k q ≡ t → shown_at s qs q ≡ (if t then None else shown_at p ps q)
      go true e = ap (λ (o : Option Entry). option_map (object_at s) (part_of false o)) (entry_here at q e)
      go false e = ap (λ (o : Option Entry). option_map (object_at s) (part_of false o)) (entry_there at q e)
          ∙ mapped p s (part_of false (entry_at ps q)) (λ r h. (left_stays q false r e h).same)

  pub others_less : OthersStay p s ps
  others_less r l out = g.stays r l (λ pos b h. out pos (k, b, h))

pub removes : {p s : Held} {ps qs : Places} {k : Object ℕ} → Fits p ps → Changes ps qs k None → GivesEntry p s (entry_at ps k) → Removes p s ps qs k
removes f c g = record {
  changes = c;
  fits = fits_less f (at_change c) g;
  shows = shows_less f (at_change c) g;
  others = others_less f (at_change c) g;
  no_more = g.no_more;
  uses = g.uses;
  spares = g.spares;
}

-- ---- an entry is put

pub old_fits : {p q : Held} {ps : Places} {e : Entry} {key value : Object ℕ} → Fits p ps → PutsEntry p q e key value → (k : Object ℕ) → EntryFits q (entry_at ps k)
old_fits f a k = record {
  live = λ b r h. (a.stays r (f.live k b r h)).live;
  two = (entry_fits f k).two;
}

module _ {p q s : Held} {ps qs : Places} {k v : Object ℕ} {e : Entry} (f : Fits p ps) (a : PutsEntry p q e k v) (c : Changes ps qs k (Some (Some e))) (g : GivesEntry q s (entry_at ps k)) where
  own_stays : (b : Bool) (r : Root) → part_of b (Some e) ≡ Some r → Stays q s r
  own_stays b r h = g.stays r (a.fits.live b r h) (λ pos d i. a.fresh b r h pos (f.live k d r i))

  old_stays : (x : Object ℕ) (b : Bool) (r : Root) → same_key k x ≡ false → IsPart ps x b r → Stays p s r
  old_stays x b r n h =
      let first : Stays p q r = a.stays r (f.live x b r h) in
      stays_then r first (g.stays r first.live (apart f k x b r n h))

  abbrev Origin : Object ℕ → Bool → Root → Type 0
  Origin x b r = ((k ≡ x) × (part_of b (Some e) ≡ Some r)) ⊎ ((same_key k x ≡ false) × IsPart ps x b r)

  live_from : (x : Object ℕ) (b : Bool) (r : Root) → Origin x b r → IsLive s r
  live_from x b r o = elim o [ inl h ↦ (own_stays b r h.1).live | inr h ↦ (old_stays x b r h.0 h.1).live ]

  own_key : (r : Root) → part_of true (Some e) ≡ Some r → object_at q r ≡ k
  own_key r h = subst (λ (y : Root). object_at q y ≡ k) (inner e.key r h) a.is_key
    where
      inner : (x y : Root) → Some x ≡ Some y → x ≡ y
      inner x y e = cc

  key_from : (x : Object ℕ) (r : Root) → Origin x true r → object_at s r ≡ x
  key_from x r o = elim o [
    | inl h ↦ (own_stays true r h.1).same ∙ (own_key r h.1 ∙ h.0)
    | inr h ↦ (old_stays x true r h.0 h.1).same ∙ f.key x r h.1
  ]

  own_once : (b d : Bool) (r : Root) → 0 < r.cells → part_of b (Some e) ≡ Some r → part_of d (Some e) ≡ Some r → b ≡ d
  own_once true true r pos h i = refl
  own_once true false r pos h i = absurd (a.fits.two r pos h i)
  own_once false true r pos h i = absurd (a.fits.two r pos i h)
  own_once false false r pos h i = refl

  once_from : (x y : Object ℕ) (b d : Bool) (r : Root) → 0 < r.cells → Origin x b r → Origin y d r → (x ≡ y) × (b ≡ d)
  once_from x y b d r pos o m = elim o [
    | inl h ↦ elim m [
      | inl i ↦ (sym h.0 ∙ i.0, own_once b d r pos h.1 i.1)
      | inr i ↦ absurd (a.fresh b r h.1 pos (f.live y d r i.1))
    ]
    | inr h ↦ elim m [
      | inl i ↦ absurd (a.fresh d r i.1 pos (f.live x b r h.1))
      | inr i ↦ f.once x y b d r pos h.1 i.1
    ]
  ]

  fits_more : Fits s qs
  fits_more = record {
    live = λ x b r h. live_from x b r (split (at_change c) x b r h);
    key = λ x r h. key_from x r (split (at_change c) x true r h);
    once = λ x y b d r pos h i. once_from x y b d r pos (split (at_change c) x b r h) (split (at_change c) y d r i);
  }

  shows_more : (x : Object ℕ) → shown_at s qs x ≡ (if same_key k x then Some v else shown_at p ps x)
  shows_more x = go (same_key k x) refl
    where
      go : (t : Bool) → same_key k x ≡ t → shown_at s qs x ≡ (if t then Some v else shown_at p ps x)
      go true h = ap (λ (o : Option Entry). option_map (object_at s) (part_of false o)) (entry_here (at_change c) x h) ∙ ap Some ((own_stays false e.value refl).same ∙ a.is_value)
      go false h = ap (λ (o : Option Entry). option_map (object_at s) (part_of false o)) (entry_there (at_change c) x h)
          ∙ mapped p s (part_of false (entry_at ps x)) (λ r i. (old_stays x false r h i).same)

  others_more : OthersStay p s ps
  others_more r l out = let first : Stays p q r = a.stays r l in stays_then r first (g.stays r first.live (λ pos b h. out pos (k, b, h)))

  no_more_more : (r : Root) → 0 < r.cells → IsLive s r → IsLive p r ⊎ IsRootOf qs r
  no_more_more r pos l = elim (a.no_more r pos (g.no_more r pos l)) [
    | inl m ↦ inl m
    | inr h ↦ inr (k, h.0, ap (part_of h.0) (here (at_change c)) ∙ h.1)
  ]

  pub puts : Puts p s ps qs k v
  puts = record {
    entry = e;
    changes = c;
    fits = fits_more;
    shows = shows_more;
    others = others_more;
    no_more = no_more_more;
    uses = omega (arith, a.uses, g.uses);
    spares = omega (arith, a.spares, g.spares);
  }

-- after the map has moved its places
pub entry_same : {old new : Places} → AreSame old new → (k : Object ℕ) → entry_at new k ≡ entry_at old k
entry_same a k = ap option_flatten (a.at k)

pub changes_from_same : {old mid new : Places} {k : Object ℕ} {w : Option (Option Entry)} → AreSame old mid → Changes mid new k w → Changes old new k w
changes_from_same {old} {mid} {new} {k} {w} a c = record {
  at = λ q. c.at q ∙ ap (λ (o : Option (Option Entry)). if same_key k q then w else o) (a.at q);
  sums = λ f z.
      let d = c.sums f z in
      let s = a.sums f in
      let e = ap (λ (o : Option (Option Entry)). f (option_flatten o)) (a.at k) in
      omega (arith, d, s, e);
}

-- ---- all entries are given back

-- those entries are left of all, and the others are given back
pub record IsCleared (old new : Held) (all left : Places) : Type 0 where
  pub fits : Fits new left
  pub distinct : IsDistinct same_key (keys_of left)
  pub within : (r : Root) → IsRootOf left r → IsRootOf all r
  pub others : OthersStay old new all
  pub no_more : (r : Root) → 0 < r.cells → IsLive new r → IsLive old r
  pub uses : used new + field_cells all ≡ used old + field_cells left
  pub spares : new.spare + field_cells left ≡ old.spare + field_cells all

pub clear_begins : {p : Held} {ps : Places} → Fits p ps → IsDistinct same_key (keys_of ps) → IsCleared p p ps ps
clear_begins f d = record {
  fits = f;
  distinct = d;
  within = λ r h. h;
  others = λ r l out. stays_self r l;
  no_more = λ r pos l. l;
  uses = refl;
  spares = refl;
}

pub first_entry : (k : Object ℕ) (o : Option Entry) (ps : Places) → entry_at ((k, o) ∷ ps) k ≡ o
first_entry k o ps = ap (λ (b : Bool). option_flatten (cond b (Some o) (place_at ps k))) (same_itself k)

pub rest_distinct : (k : Object ℕ) (o : Option Entry) (ps : Places) → IsDistinct same_key (keys_of ((k, o) ∷ ps)) → IsDistinct same_key (keys_of ps)
unfolding IsDistinct
rest_distinct k o ps d = d.1

pub without_first : (k : Object ℕ) (o : Option Entry) (ps : Places) → IsDistinct same_key (keys_of ((k, o) ∷ ps)) → IsAt ((k, o) ∷ ps) ps k None
without_first k o ps d = record { is = λ q. go q (same_key k q) refl }
  where
    gone : place_at ps k ≡ None
    gone = lookup-none (same_key k) ps (none_past_head same_equiv k (k, o) ps d (same_itself k))

    go : (q : Object ℕ) (t : Bool) → same_key k q ≡ t → place_at ps q ≡ (if t then None else place_at ((k, o) ∷ ps) q)
    go q true e = ap (place_at ps) (sym (same_tells k q e)) ∙ gone
    go q false e = sym (ap (λ (b : Bool). cond b (Some o) (place_at ps q)) (same_equiv.symm q k ∙ e))

within_rest : {ps qs : Places} {k : Object ℕ} → IsAt ps qs k None → (r : Root) → IsRootOf qs r → IsRootOf ps r
within_rest {ps} {qs} {k} at r h = elim (split at h.0 h.1 r h.2) [ inl e ↦ absurd (none h.1 e.1) | inr e ↦ (h.0, h.1, e.1) ]
  where
    none : (b : Bool) → part_of b None ≡ Some r → ⊥
    none b e = cc

pub first_fits : {p q : Held} {all left rest : Places} {k : Object ℕ} {o : Option Entry} → IsCleared p q all left → left ≡ (k, o) ∷ rest → EntryFits q o
first_fits {p} {q} {all} {left} {rest} {k} {o} c e =
    subst (EntryFits q) (first_entry k o rest) (entry_fits (subst (Fits q) e c.fits) k)

pub clear_goes_on : {p q s : Held} {all left rest : Places} {k : Object ℕ} {o : Option Entry} → IsCleared p q all left → left ≡ (k, o) ∷ rest → GivesEntry q s o → IsCleared p s all rest
clear_goes_on {p} {q} {s} {all} {left} {rest} {k} {o} c0 e g0 =
    let c : IsCleared p q all ((k, o) ∷ rest) = subst (IsCleared p q all) e c0 in
    let g : GivesEntry q s (entry_at ((k, o) ∷ rest) k) = subst (GivesEntry q s) (sym (first_entry k o rest)) g0 in
    let at : IsAt ((k, o) ∷ rest) rest k None = without_first k o rest c.distinct in
    record {
      fits = fits_less c.fits at g;
      distinct = rest_distinct k o rest c.distinct;
      within = λ r h. c.within r (within_rest at r h);
      others = λ r l out. let first : Stays p q r = c.others r l out in
          stays_then r first (others_less c.fits at g r first.live (λ pos h. out pos (c.within r h)));
      no_more = λ r pos l. c.no_more r pos (g.no_more r pos l);
      uses = omega (arith, c.uses, g0.uses, sum_by-cons entry_cells o (values_of rest));
      spares = omega (arith, c.spares, g0.spares, sum_by-cons entry_cells o (values_of rest));
    }

pub clear_ends : {p q : Held} {all left : Places} → IsCleared p q all left → left ≡ [] → Clears p q all
clear_ends {p} {q} {all} {left} c0 e =
    let c : IsCleared p q all [] = subst (IsCleared p q all) e c0 in
    record { others = c.others; no_more = c.no_more; uses = omega (arith, c.uses); spares = omega (arith, c.spares) }
