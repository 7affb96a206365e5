-- Cells in the order of keys, by what each key finds.
use Rattle.std.specs.Prelude.{◌≡◌, ℕ, [], ◌∷◌, Bool, true, false, cond, Option, Some, None, IsSome, refl, if◌then◌else◌}
use Rattle.std.proofs.Common.{ap, sym, ◌∙◌, subst}
use Rattle.std.specs.Option.{option_map, is_some}
use Rattle.std.specs.Ordering.{nat_cmp}
use Rattle.std.proofs.lemmas.Cmp.{nat_cmp_total}
use Rattle.std.proofs.lemmas.Map.Lookups.{exact_unsigned}
use Rattle.model_objects.specs.Object.{Object}
use Rattle.model_prims.specs.Kinds.{by_number}
use Rattle.model_prims.proofs.Same.{same_tells, same_itself}
use Rattle.model_lists.specs.Lists.{Pairs, value_at, without_key}
use Rattle.model_lists.specs.Normal.{normal_pairs}
use Rattle.model_lists_laws.proofs.AlikeLemmas.{same_number-Decides}
use Rattle.model_objects.proofs.Ordered.{object_exact}
use Rattle.model_lists_laws.proofs.NormalLemmas.{TellsFrom, value_put}
use Rattle.model_lists_laws.proofs.PairLemmas.{without_normal}
use Rattle.model_lists_laws.proofs.CanonicalLemmas.{canonical_lists}
use Rattle.acl_hash.specs.Same.{same_key, same_equiv}
use Rattle.acl_maps.specs.Cells.{Places, place_at, Changes, HasKey, AreKeyed, Cells, cell, hole, listing, cells_of, with_cell, emptied, IsSuitedTo}
use Rattle.acl_maps.specs.declared.entry.OwnedEntry.{OwnedEntry}

true_false : true ≡ false → ⊥
true_false e = cc

-- ---- what each key finds

listing_found : (q : Object ℕ) (ps : Places) → value_at by_number q (listing ps) ≡ option_map cell (place_at ps q)
listing_found q [] = refl
listing_found q (p ∷ ps) = go (same_key q p.0) (listing_found q ps)
  where
    go : (b : Bool) → value_at by_number q (listing ps) ≡ option_map cell (place_at ps q) → (if b then Some (cell p.1) else value_at by_number q (listing ps)) ≡ option_map cell (cond b (Some p.1) (place_at ps q))
    go true i = refl
    go false i = i

pub cells_found : (q : Object ℕ) (ps : Places) → value_at by_number q (cells_of ps) ≡ option_map cell (place_at ps q)
unfolding cells_of
cells_found q ps = canonical_lists.values q (Pairs (listing ps)) ∙ listing_found q ps

pub found_without : (q k : Object ℕ) (xs : Cells) → value_at by_number q (without_key by_number k xs) ≡ (if same_key k q then None else value_at by_number q xs)
found_without q k [] = none (same_key k q)
  where
    nothing : Option (Object ℕ)
    nothing = None

    none : (b : Bool) → nothing ≡ (if b then nothing else nothing)
    none true = refl
    none false = refl
found_without q k (p ∷ xs) = go (same_key k p.0) (same_key k q) (same_key q p.0) refl refl refl (found_without q k xs)
  where
    kept : (u : Bool) → same_key q p.0 ≡ u → value_at by_number q (p ∷ without_key by_number k xs) ≡ (if u then Some p.1 else value_at by_number q (without_key by_number k xs))
    kept u d = ap (λ (b : Bool). if b then Some p.1 else value_at by_number q (without_key by_number k xs)) d

    go : (t s u : Bool) → same_key k p.0 ≡ t → same_key k q ≡ s → same_key q p.0 ≡ u → value_at by_number q (without_key by_number k xs) ≡ (if s then None else value_at by_number q xs)
        → value_at by_number q (if t then without_key by_number k xs else p ∷ without_key by_number k xs) ≡ (if s then None else (if u then Some p.1 else value_at by_number q xs))
    go true true u a b d i = i
    go true false true a b d i = absurd (true_false (sym (subst (λ (x : Object ℕ). same_key k x ≡ true) (sym (same_tells q p.0 d)) a) ∙ b))
    go true false false a b d i = i
    go false true true a b d i = absurd (true_false (sym (subst (λ (x : Object ℕ). same_key x p.0 ≡ true) (sym (same_tells k q b)) d) ∙ a))
    go false true false a b d i = kept false d ∙ i
    go false false true a b d i = kept true d
    go false false false a b d i = kept false d ∙ i

pairs_same : {ps qs : Cells} → Pairs ps ≡ Pairs qs → ps ≡ qs
pairs_same e = cc

pub one_normal : (xs ys : Cells) → ((q : Object ℕ) → value_at by_number q xs ≡ value_at by_number q ys) → normal_pairs nat_cmp xs ≡ normal_pairs nat_cmp ys
one_normal xs ys e = pairs_same (canonical_lists.found xs ys e)

-- ---- a place that changes

pub cells_changed : (ps qs : Places) (k : Object ℕ) (w : Option (Option OwnedEntry)) → Changes ps qs k w → cells_of qs ≡ with_cell k (option_map cell w) (cells_of ps)
unfolding cells_of with_cell
cells_changed ps qs k None c =
    one_normal (listing qs) (without_key by_number k (listing ps)) (λ q. listing_found q qs ∙ (ap (option_map cell) (c.at q) ∙ (go q (same_key k q) ∙ sym (found_without q k (listing ps)))))
    ∙ without_normal by_number same_number-Decides nat_cmp nat_cmp_total exact_unsigned k (listing ps)
  where
    go : (q : Object ℕ) (b : Bool) → option_map cell (if b then None else place_at ps q) ≡ (if b then None else value_at by_number q (listing ps))
    go q true = refl
    go q false = sym (listing_found q ps)
cells_changed ps qs k (Some p) c =
    one_normal (listing qs) ((k, cell p) ∷ listing ps) (λ q. listing_found q qs ∙ (ap (option_map cell) (c.at q) ∙ (go q (same_key k q) ∙ ap (λ (b : Bool). if b then Some (cell p) else value_at by_number q (listing ps)) (same_equiv.symm k q))))
  where
    go : (q : Object ℕ) (b : Bool) → option_map cell (if b then Some p else place_at ps q) ≡ (if b then Some (cell p) else value_at by_number q (listing ps))
    go q true = refl
    go q false = sym (listing_found q ps)

pub keyed_changed : (ps qs : Places) (k : Object ℕ) (w : Option (Option OwnedEntry)) → Changes ps qs k w → HasKey k w → AreKeyed ps → AreKeyed qs
keyed_changed ps qs k w c h a = record { each = λ q. go q (same_key k q) refl }
  where
    go : (q : Object ℕ) (b : Bool) → same_key k q ≡ b → HasKey q (place_at qs q)
    go q true e = subst (HasKey q) (sym (c.at q ∙ ap (λ (b : Bool). if b then w else place_at ps q) e)) (subst (λ (x : Object ℕ). HasKey x w) (same_tells k q e) h)
    go q false e = subst (HasKey q) (sym (c.at q ∙ ap (λ (b : Bool). if b then w else place_at ps q) e)) (a.each q)

pub emptied_keyed : (k : Object ℕ) (w : Option (Option OwnedEntry)) → HasKey k (option_map (λ p. None) w)
emptied_keyed k None = tt
emptied_keyed k (Some p) = tt

-- a hole in place of what was there
pub cells_emptied : (ps qs : Places) (k : Object ℕ) → Changes ps qs k (option_map (λ p. None) (place_at ps k)) → cells_of qs ≡ emptied k (cells_of ps)
cells_emptied ps qs k c = cells_changed ps qs k (option_map (λ p. None) (place_at ps k)) c ∙ ap (λ (o : Option (Object ℕ)). with_cell k o (cells_of ps)) (holes (place_at ps k) ∙ ap (option_map (λ c. hole)) (sym (cells_found k ps)))
  where
    holes : (w : Option (Option OwnedEntry)) → option_map cell (option_map (λ p. None) w) ≡ option_map (λ c. hole) (option_map cell w)
    holes None = refl
    holes (Some p) = refl

pub place_there : (ps : Places) (k : Object ℕ) (c : Object ℕ) → IsSuitedTo (Some c) k (cells_of ps) → IsSome (place_at ps k)
place_there ps k c h = by (place_at ps k) (subst (λ (o : Option (Object ℕ)). is_some o ≡ true) (cells_found k ps) h)
  where
    by : (o : Option (Option OwnedEntry)) → is_some (option_map cell o) ≡ true → IsSome o
    by None e = absurd (true_false (sym e))
    by (Some p) e = refl

-- ---- what was there is put back

changes_back : (ps qs : Places) (k : Object ℕ) (w : Option (Option OwnedEntry)) → Changes ps qs k w → Changes qs ps k (place_at ps k)
changes_back ps qs k w c = record { at = λ q. go q (same_key k q) refl }
  where
    go : (q : Object ℕ) (b : Bool) → same_key k q ≡ b → place_at ps q ≡ (if same_key k q then place_at ps k else place_at qs q)
    go q true e = ap (place_at ps) (sym (same_tells k q e)) ∙ ap (λ (b : Bool). if b then place_at ps k else place_at qs q) (sym e)
    go q false e = sym (c.at q ∙ ap (λ (b : Bool). if b then w else place_at ps q) e) ∙ ap (λ (b : Bool). if b then place_at ps k else place_at qs q) (sym e)

pub cells_back : (ps qs : Places) (k : Object ℕ) (w : Option (Option OwnedEntry)) → Changes ps qs k w → with_cell k (value_at by_number k (cells_of ps)) (cells_of qs) ≡ cells_of ps
cells_back ps qs k w c = ap (λ (o : Option (Object ℕ)). with_cell k o (cells_of qs)) (cells_found k ps) ∙ sym (cells_changed qs ps k (place_at ps k) (changes_back ps qs k w c))

-- a place that is there is seen
pub seen_place : (qs : Places) (k : Object ℕ) (w : Option (Option OwnedEntry)) (o : Option (Object ℕ)) → place_at qs k ≡ w → (is_some o ≡ true → is_some w ≡ true) → IsSuitedTo o k (cells_of qs)
seen_place qs k w None e h = tt
seen_place qs k w (Some c) e h = ap is_some (cells_found k qs ∙ ap (option_map cell) e) ∙ (kept w ∙ h refl)
  where
    kept : (w : Option (Option OwnedEntry)) → is_some (option_map cell w) ≡ is_some w
    kept None = refl
    kept (Some p) = refl

here : (ps qs : Places) (k : Object ℕ) (w : Option (Option OwnedEntry)) → Changes ps qs k w → place_at qs k ≡ w
here ps qs k w c = c.at k ∙ ap (λ (b : Bool). if b then w else place_at ps k) (same_itself k)

pub put_suited : (ps qs : Places) (k : Object ℕ) (p : Option OwnedEntry) (o : Option (Object ℕ)) → Changes ps qs k (Some p) → IsSuitedTo o k (cells_of qs)
put_suited ps qs k p o c = seen_place qs k (Some p) o (here ps qs k (Some p) c) (λ h. refl)

pub emptied_suited : (ps qs : Places) (k : Object ℕ) → Changes ps qs k (option_map (λ p. None) (place_at ps k)) → IsSuitedTo (value_at by_number k (cells_of ps)) k (cells_of qs)
emptied_suited ps qs k c = seen_place qs k (option_map (λ p. None) (place_at ps k)) (value_at by_number k (cells_of ps)) (here ps qs k (option_map (λ p. None) (place_at ps k)) c) (λ h. there (place_at ps k) (ap is_some (sym (cells_found k ps)) ∙ h))
  where
    emptier : Option OwnedEntry → Option OwnedEntry
    emptier p = None

    there : (w : Option (Option OwnedEntry)) → is_some (option_map cell w) ≡ true → is_some (option_map emptier w) ≡ true
    there None e = e
    there (Some p) e = refl

pub no_cells : (ps : Places) → ps ≡ [] → cells_of ps ≡ []
unfolding cells_of
no_cells ps e = ap cells_of e

-- where there is no place, nothing is emptied
pub empties_nothing : (ps : Places) (k : Object ℕ) → place_at ps k ≡ None → Changes ps ps k (option_map (λ p. None) (place_at ps k))
empties_nothing ps k e = record { at = λ q. go q (same_key k q) refl }
  where
    emptier : Option OwnedEntry → Option OwnedEntry
    emptier p = None

    go : (q : Object ℕ) (b : Bool) → same_key k q ≡ b → place_at ps q ≡ (if same_key k q then option_map emptier (place_at ps k) else place_at ps q)
    go q true h = ap (place_at ps) (sym (same_tells k q h)) ∙ (e ∙ (ap (option_map emptier) (sym e) ∙ ap (λ (b : Bool). if b then option_map emptier (place_at ps k) else place_at ps q) (sym h)))
    go q false h = ap (λ (b : Bool). if b then option_map emptier (place_at ps k) else place_at ps q) (sym h)

-- ---- one cell

tells_all : (p : Object ℕ × Object ℕ) (cs : Cells) → TellsFrom by_number same_number-Decides nat_cmp nat_cmp_total p cs
tells_all p [] = tt
tells_all p (q ∷ qs) = (object_exact nat_cmp exact_unsigned p.0 q.0, tells_all p qs)

-- what each key finds once a key has another cell
pub value_with : (q k : Object ℕ) (c : Option (Object ℕ)) (cs : Cells) → value_at by_number q (with_cell k c cs) ≡ (if same_key k q then c else value_at by_number q cs)
unfolding with_cell
value_with q k None cs = found_without q k cs
value_with q k (Some c) cs = value_put by_number same_number-Decides nat_cmp nat_cmp_total q (k, c) cs (tells_all (k, c) cs) ∙ ap (λ (b : Bool). if b then Some c else value_at by_number q cs) (same_equiv.symm q k)
