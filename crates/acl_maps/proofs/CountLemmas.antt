-- How many keys have a value.
use Rattle.std.specs.Prelude.{◌≡◌, ℕ, ◌+◌, ◌≤◌, [], ◌∷◌, length, Bool, true, false, Option, Some, None, refl, if◌then◌else◌}
use Rattle.std.proofs.Common.{ap, sym, ◌∙◌, arith}
use Rattle.std.specs.Option.{option_map, is_some}
use Rattle.std.specs.Ordering.{nat_cmp}
use Rattle.std.specs.declared.cmp.Ordering.{Ordering}
use Rattle.std.specs.declared.cmp.Ordering.TheVariants.{Less, Equal, Greater}
use Rattle.std.proofs.lemmas.Cmp.{nat_cmp_total}
use Rattle.std.proofs.lemmas.Map.Lookups.{exact_unsigned}
use Rattle.model_objects.specs.Object.{Object, object_cmp}
use Rattle.model_prims.specs.Kinds.{by_number}
use Rattle.model_prims.proofs.Same.{same_tells, same_itself}
use Rattle.model_lists.specs.Lists.{value_at, without_key, key_count}
use Rattle.model_lists.specs.Normal.{placed, put_in_order, normal_pairs}
use Rattle.model_lists_laws.proofs.AlikeLemmas.{same_number-Decides}
use Rattle.model_lists_laws.proofs.PairLemmas.{count_normal}
use Rattle.acl_hash.specs.Same.{same_key, same_equiv}
use Rattle.acl_maps.specs.Cells.{Places, place_at, Changes, Cells, cell, opened, opened_in, found_in, opened_pair, pairs_in, count_in, listing, cells_of, with_cell, one_of, value_of}
use Rattle.acl_maps.specs.declared.entry.OwnedEntry.{OwnedEntry}
use Rattle.acl_maps.proofs.CellLemmas.{cells_found, found_without, one_normal, cells_changed, value_with}

pub pairs_found : (q : Object ℕ) (cs : Cells) → value_at by_number q (pairs_in cs) ≡ found_in q cs
pairs_found q [] = refl
pairs_found q (c ∷ cs) = go (opened c.1) (same_key q c.0) refl refl (pairs_found q cs)
  where
    go : (o : Option (Object ℕ)) (b : Bool) → opened c.1 ≡ o → same_key q c.0 ≡ b → value_at by_number q (pairs_in cs) ≡ found_in q cs
        → value_at by_number q (opened_pair c.0 o (pairs_in cs)) ≡ opened_in (if b then Some c.1 else value_at by_number q cs)
    go None true e d i = found_without q c.0 (pairs_in cs) ∙ (ap (λ (b : Bool). if b then None else value_at by_number q (pairs_in cs)) (same_equiv.symm c.0 q ∙ d) ∙ sym e)
    go None false e d i = found_without q c.0 (pairs_in cs) ∙ (ap (λ (b : Bool). if b then None else value_at by_number q (pairs_in cs)) (same_equiv.symm c.0 q ∙ d) ∙ i)
    go (Some v) true e d i = ap (λ (b : Bool). if b then Some v else value_at by_number q (pairs_in cs)) d ∙ sym e
    go (Some v) false e d i = ap (λ (b : Bool). if b then Some v else value_at by_number q (pairs_in cs)) d ∙ i

-- how many keys there are is told by what each key finds
pub one_count : (ps qs : Cells) → ((q : Object ℕ) → value_at by_number q ps ≡ value_at by_number q qs) → key_count by_number ps ≡ key_count by_number qs
one_count ps qs e =
    count_normal by_number same_number-Decides nat_cmp nat_cmp_total exact_unsigned ps
    ∙ (ap length (one_normal ps qs e) ∙ sym (count_normal by_number same_number-Decides nat_cmp nat_cmp_total exact_unsigned qs))

-- a key more, or the same key once more
count_put : (k v : Object ℕ) (ps : Cells) → key_count by_number ((k, v) ∷ ps) + one_of (value_at by_number k ps) ≡ key_count by_number ps + 1
count_put k v ps = go (value_at by_number k ps)
  where
    go : (o : Option (Object ℕ)) → (if is_some o then key_count by_number ps else key_count by_number ps + 1) + one_of o ≡ key_count by_number ps + 1
    go None = omega arith
    go (Some w) = refl

count_gone : (k : Object ℕ) (ps : Cells) → key_count by_number (without_key by_number k ps) + one_of (value_at by_number k ps) ≡ key_count by_number ps
count_gone k ps = go (value_at by_number k ps) refl
  where
    none_there : value_at by_number k (without_key by_number k ps) ≡ None
    none_there = found_without k k ps ∙ ap (λ (b : Bool). if b then None else value_at by_number k ps) (same_itself k)

    same : value_at by_number k ps ≡ None → (q : Object ℕ) → value_at by_number q (without_key by_number k ps) ≡ value_at by_number q ps
    same e q = found_without q k ps ∙ by (same_key k q) refl
      where
        by : (b : Bool) → same_key k q ≡ b → (if b then None else value_at by_number q ps) ≡ value_at by_number q ps
        by true h = sym e ∙ ap (λ (x : Object ℕ). value_at by_number x ps) (same_tells k q h)
        by false h = refl

    again : (v : Object ℕ) → value_at by_number k ps ≡ Some v → (q : Object ℕ) → value_at by_number q ((k, v) ∷ without_key by_number k ps) ≡ value_at by_number q ps
    again v e q = ap (λ (b : Bool). if b then Some v else value_at by_number q (without_key by_number k ps)) (same_equiv.symm q k) ∙ by (same_key k q) refl (found_without q k ps)
      where
        by : (b : Bool) → same_key k q ≡ b → value_at by_number q (without_key by_number k ps) ≡ (if same_key k q then None else value_at by_number q ps)
            → (if b then Some v else value_at by_number q (without_key by_number k ps)) ≡ value_at by_number q ps
        by true h i = sym e ∙ ap (λ (x : Object ℕ). value_at by_number x ps) (same_tells k q h)
        by false h i = i ∙ ap (λ (b : Bool). if b then None else value_at by_number q ps) h

    go : (o : Option (Object ℕ)) → value_at by_number k ps ≡ o → key_count by_number (without_key by_number k ps) + one_of o ≡ key_count by_number ps
    go None e = let c = one_count (without_key by_number k ps) ps (same e) in omega (arith, c)
    go (Some v) e =
        let c : key_count by_number ((k, v) ∷ without_key by_number k ps) ≡ key_count by_number ps = one_count ((k, v) ∷ without_key by_number k ps) ps (again v e) in
        let p : key_count by_number ((k, v) ∷ without_key by_number k ps) + one_of (value_at by_number k (without_key by_number k ps)) ≡ key_count by_number (without_key by_number k ps) + 1 = count_put k v (without_key by_number k ps) in
        let z : one_of (value_at by_number k (without_key by_number k ps)) ≡ 0 = ap one_of none_there in
        omega (arith, c, p, z)

-- one cell changes
pub count_with : (k : Object ℕ) (c : Option (Object ℕ)) (cs : Cells) → count_in (with_cell k c cs) + one_of (found_in k cs) ≡ count_in cs + one_of (opened_in c)
unfolding count_in
count_with k c cs = go (opened_in c) refl
  where
    found : (q : Object ℕ) → value_at by_number q (pairs_in (with_cell k c cs)) ≡ opened_in (if same_key k q then c else value_at by_number q cs)
    found q = pairs_found q (with_cell k c cs) ∙ ap opened_in (value_with q k c cs)

    were : one_of (value_at by_number k (pairs_in cs)) ≡ one_of (found_in k cs)
    were = ap one_of (pairs_found k cs)

    go : (o : Option (Object ℕ)) → opened_in c ≡ o → key_count by_number (pairs_in (with_cell k c cs)) + one_of (found_in k cs) ≡ key_count by_number (pairs_in cs) + one_of o
    go None e =
        let a : key_count by_number (pairs_in (with_cell k c cs)) ≡ key_count by_number (without_key by_number k (pairs_in cs)) = one_count (pairs_in (with_cell k c cs)) (without_key by_number k (pairs_in cs)) (λ q. found q ∙ (by q (same_key k q) ∙ sym (found_without q k (pairs_in cs)))) in
        let b = count_gone k (pairs_in cs) in
        let w = were in omega (arith, a, b, w)
      where
        by : (q : Object ℕ) (b : Bool) → opened_in (if b then c else value_at by_number q cs) ≡ (if b then None else value_at by_number q (pairs_in cs))
        by q true = e
        by q false = sym (pairs_found q cs)
    go (Some v) e =
        let a : key_count by_number (pairs_in (with_cell k c cs)) ≡ key_count by_number ((k, v) ∷ pairs_in cs) = one_count (pairs_in (with_cell k c cs)) ((k, v) ∷ pairs_in cs)
        (λ q. found q ∙ (by q (same_key k q) ∙ ap (λ (b : Bool). if b then Some v else value_at by_number q (pairs_in cs)) (same_equiv.symm k q))) in
        let b = count_put k v (pairs_in cs) in
        let w = were in omega (arith, a, b, w)
      where
        by : (q : Object ℕ) (b : Bool) → opened_in (if b then c else value_at by_number q cs) ≡ (if b then Some v else value_at by_number q (pairs_in cs))
        by q true = e
        by q false = sym (pairs_found q cs)

-- ---- places

pub opened_cell : (w : Option (Option OwnedEntry)) → opened_in (option_map cell w) ≡ value_of w
opened_cell None = refl
opened_cell (Some None) = refl
opened_cell (Some (Some e)) = refl

-- the count after a change of one place
pub count_changed : (ps qs : Places) (k : Object ℕ) (w : Option (Option OwnedEntry)) → Changes ps qs k w → count_in (cells_of qs) + one_of (value_of (place_at ps k)) ≡ count_in (cells_of ps) + one_of (value_of w)
count_changed ps qs k w c =
    let a : count_in (cells_of qs) ≡ count_in (with_cell k (option_map cell w) (cells_of ps)) = ap count_in (cells_changed ps qs k w c) in
    let b = count_with k (option_map cell w) (cells_of ps) in
    let f : one_of (found_in k (cells_of ps)) ≡ one_of (value_of (place_at ps k)) = ap one_of (ap opened_in (cells_found k ps) ∙ opened_cell (place_at ps k)) in
    let g : one_of (opened_in (option_map cell w)) ≡ one_of (value_of w) = ap one_of (opened_cell w) in
    omega (arith, a, b, f, g)

-- ---- few keys

few_put : (p : Object ℕ × Object ℕ) (cs : Cells) → length (put_in_order nat_cmp p cs) ≤ length cs + 1
few_put p [] = omega arith
few_put p (q ∷ qs) = go (object_cmp nat_cmp p.0 q.0) (few_put p qs)
  where
    go : (o : Ordering) → length (put_in_order nat_cmp p qs) ≤ length qs + 1 → length (placed nat_cmp o p q qs (put_in_order nat_cmp p qs)) ≤ length (q ∷ qs) + 1
    go Less i = omega arith
    go Equal i = omega arith
    go Greater i = omega (arith, i)

few_normal : (cs : Cells) → length (normal_pairs nat_cmp cs) ≤ length cs
few_normal [] = omega arith
few_normal (c ∷ cs) = let a = few_put c (normal_pairs nat_cmp cs) in let b = few_normal cs in omega (arith, a, b)

few_without : (k : Object ℕ) (cs : Cells) → length (without_key by_number k cs) ≤ length cs
few_without k [] = omega arith
few_without k (c ∷ cs) = go (same_key k c.0) (few_without k cs)
  where
    go : (b : Bool) → length (without_key by_number k cs) ≤ length cs → length (if b then without_key by_number k cs else c ∷ without_key by_number k cs) ≤ length (c ∷ cs)
    go true i = omega (arith, i)
    go false i = omega (arith, i)

few_pairs : (cs : Cells) → length (pairs_in cs) ≤ length cs
few_pairs [] = omega arith
few_pairs (c ∷ cs) = go (opened c.1) (few_pairs cs)
  where
    go : (o : Option (Object ℕ)) → length (pairs_in cs) ≤ length cs → length (opened_pair c.0 o (pairs_in cs)) ≤ length (c ∷ cs)
    go None i = let w = few_without c.0 (pairs_in cs) in omega (arith, i, w)
    go (Some v) i = omega (arith, i)

few_keys : (ps : Cells) → key_count by_number ps ≤ length ps
few_keys [] = omega arith
few_keys (p ∷ ps) = go (value_at by_number p.0 ps) (few_keys ps)
  where
    go : (o : Option (Object ℕ)) → key_count by_number ps ≤ length ps → (if is_some o then key_count by_number ps else key_count by_number ps + 1) ≤ length (p ∷ ps)
    go None i = omega (arith, i)
    go (Some v) i = omega (arith, i)

few_listed : (ps : Places) → length (listing ps) ≡ length ps
few_listed [] = refl
few_listed (p ∷ ps) = let e = few_listed ps in omega (arith, e)

pub few_counted : (ps : Places) → count_in (cells_of ps) ≤ length ps
unfolding count_in cells_of
few_counted ps =
    let a = few_keys (pairs_in (normal_pairs nat_cmp (listing ps))) in
    let b = few_pairs (normal_pairs nat_cmp (listing ps)) in
    let c = few_normal (listing ps) in
    let d = few_listed ps in omega (arith, a, b, c, d)

pub count_nothing : (ps : Places) → ps ≡ [] → 0 ≡ count_in (cells_of ps)
unfolding count_in cells_of
count_nothing ps e = ap (λ (p : Places). key_count by_number (pairs_in (normal_pairs nat_cmp (listing p)))) (sym e)
