-- How many cells keys and values take.
use Rattle.std.specs.Prelude.{◌≡◌, ℕ, ◌+◌, ◌≤◌, ◌^◌, [], ◌∷◌, Bool, true, false, Option, Some, None, refl, if◌then◌else◌}
use Rattle.std.proofs.Common.{ap, sym, ◌∙◌, subst, arith}
use Rattle.std.specs.Option.{option_map}
use Rattle.std.specs.List.{IsDistinct}
use Rattle.std.specs.Map.{keys_of}
use Rattle.std.specs.Ordering.{nat_cmp}
use Rattle.std.specs.declared.cmp.Ordering.{Ordering}
use Rattle.std.specs.declared.cmp.Ordering.TheVariants.{Less, Equal, Greater}
use Rattle.std.proofs.lemmas.Map.Lookups.{exact_unsigned}
use Rattle.model_objects.specs.Object.{Object, object_cmp, cells}
use Rattle.model_objects.proofs.Ordered.{object_exact}
use Rattle.model_prims.specs.Kinds.{by_number, same_object}
use Rattle.model_prims.proofs.Same.{same_tells, same_itself}
use Rattle.model_lists.specs.Lists.{Pairs, value_at, without_key}
use Rattle.model_lists.specs.Normal.{placed, put_in_order, normal_pairs, pair_cells}
use Rattle.model_lists_laws.proofs.CanonicalLemmas.{canonical_lists}
use Rattle.acl_hash.specs.Same.{same_key, same_equiv}
use Rattle.acl_maps.specs.Cells.{Places, place_at, HasKey, AreKeyed, Cells, cell, opened_in, found_in, pairs_in, cells_of, with_cell, value_of}
use Rattle.acl_owned.specs.Owned.{IsSum}
use Rattle.acl_maps.specs.Held.{entry_cells, cells_held, place_cells, own_cells}
use Rattle.acl_maps.specs.Listing.{listed}
use Rattle.acl_maps.specs.declared.entry.OwnedEntry.{OwnedEntry}
use Rattle.acl_maps.proofs.CellLemmas.{found_without, one_normal, value_with, cells_found}
use Rattle.acl_maps.proofs.CountLemmas.{pairs_found}
use Rattle.acl_maps.proofs.ListLemmas.{rest_distinct, gone, first_keyed, rest_keyed, listed_finds, cells_find}

clash : {v : Object ℕ} {o : Option (Object ℕ)} → o ≡ None → o ≡ Some v → ⊥
clash e f = cc

-- ---- a key more

-- what a pair with another key takes
put_none : (p : Object ℕ × Object ℕ) (qs : Cells) → value_at by_number p.0 qs ≡ None → pair_cells (put_in_order nat_cmp p qs) ≡ cells p.0 + (cells p.1 + pair_cells qs)
put_none p [] e = refl
put_none p (q ∷ qs) e = go (object_cmp nat_cmp p.0 q.0) refl (put_none p qs (later (same_object by_number p.0 q.0) e))
  where
    later : (b : Bool) → (if b then Some q.1 else value_at by_number p.0 qs) ≡ None → value_at by_number p.0 qs ≡ None
    later true f = cc
    later false f = f

    first : p.0 ≡ q.0 → value_at by_number p.0 (q ∷ qs) ≡ Some q.1
    first f = subst (λ (x : Object ℕ). value_at by_number x (q ∷ qs) ≡ Some q.1) (sym f) (ap (λ (b : Bool). if b then Some q.1 else value_at by_number q.0 qs) (same_itself q.0))

    more : (a b n c d m : ℕ) → n ≡ c + (d + m) → a + (b + n) ≡ c + (d + (a + (b + m)))
    more a b n c d m e = omega (arith, e)

    go : (o : Ordering) → object_cmp nat_cmp p.0 q.0 ≡ o → pair_cells (put_in_order nat_cmp p qs) ≡ cells p.0 + (cells p.1 + pair_cells qs)
        → pair_cells (placed nat_cmp o p q qs (put_in_order nat_cmp p qs)) ≡ cells p.0 + (cells p.1 + pair_cells (q ∷ qs))
    go Less l i = refl
    go Equal l i = absurd (clash e (first (object_exact nat_cmp exact_unsigned p.0 q.0 l)))
    go Greater l i = more (cells q.0) (cells q.1) (pair_cells (put_in_order nat_cmp p qs)) (cells p.0) (cells p.1) (pair_cells qs) i

fresh_held : (k v : Object ℕ) (ps : Cells) → value_at by_number k ps ≡ None → pair_cells (normal_pairs nat_cmp ((k, v) ∷ ps)) ≡ cells k + (cells v + pair_cells (normal_pairs nat_cmp ps))
fresh_held k v ps e = put_none (k, v) (normal_pairs nat_cmp ps) (canonical_lists.values k (Pairs ps) ∙ e)

-- ---- a key less

gone_from : (k : Object ℕ) (ps : Cells) → value_at by_number k (without_key by_number k ps) ≡ None
gone_from k ps = found_without k k ps ∙ ap (λ (b : Bool). if b then None else value_at by_number k ps) (same_itself k)

gone_held : (k : Object ℕ) (ps : Cells) → pair_cells (normal_pairs nat_cmp (without_key by_number k ps)) + entry_cells k (value_at by_number k ps) ≡ pair_cells (normal_pairs nat_cmp ps)
gone_held k ps = go (value_at by_number k ps) refl
  where
    same : value_at by_number k ps ≡ None → (q : Object ℕ) → value_at by_number q (without_key by_number k ps) ≡ value_at by_number q ps
    same e q = found_without q k ps ∙ by (same_key k q) refl
      where
        by : (b : Bool) → same_key k q ≡ b → (if b then None else value_at by_number q ps) ≡ value_at by_number q ps
        by true h = sym e ∙ ap (λ (x : Object ℕ). value_at by_number x ps) (same_tells k q h)
        by false h = refl

    again : (v : Object ℕ) → value_at by_number k ps ≡ Some v → (q : Object ℕ) → value_at by_number q ((k, v) ∷ without_key by_number k ps) ≡ value_at by_number q ps
    again v e q = ap (λ (b : Bool). if b then Some v else value_at by_number q (without_key by_number k ps)) (same_equiv.symm q k) ∙ by (same_key k q) refl (found_without q k ps)
      where
        by : (b : Bool) → same_key k q ≡ b → value_at by_number q (without_key by_number k ps) ≡ (if same_key k q then None else value_at by_number q ps)
            → (if b then Some v else value_at by_number q (without_key by_number k ps)) ≡ value_at by_number q ps
        by true h i = sym e ∙ ap (λ (x : Object ℕ). value_at by_number x ps) (same_tells k q h)
        by false h i = i ∙ ap (λ (b : Bool). if b then None else value_at by_number q ps) h

    go : (o : Option (Object ℕ)) → value_at by_number k ps ≡ o → pair_cells (normal_pairs nat_cmp (without_key by_number k ps)) + entry_cells k o ≡ pair_cells (normal_pairs nat_cmp ps)
    go None e = let c = ap pair_cells (one_normal (without_key by_number k ps) ps (same e)) in omega (arith, c)
    go (Some v) e =
        let c = ap pair_cells (one_normal ((k, v) ∷ without_key by_number k ps) ps (again v e)) in
        let f = fresh_held k v (without_key by_number k ps) (gone_from k ps) in
        omega (arith, c, f)

-- ---- one cell changes

pub with_held : (k : Object ℕ) (c : Option (Object ℕ)) (cs : Cells) → cells_held (with_cell k c cs) + entry_cells k (found_in k cs) ≡ cells_held cs + entry_cells k (opened_in c)
unfolding cells_held
with_held k c cs = go (opened_in c) refl
  where
    found : (q : Object ℕ) → value_at by_number q (pairs_in (with_cell k c cs)) ≡ opened_in (if same_key k q then c else value_at by_number q cs)
    found q = pairs_found q (with_cell k c cs) ∙ ap opened_in (value_with q k c cs)

    were : entry_cells k (value_at by_number k (pairs_in cs)) ≡ entry_cells k (found_in k cs)
    were = ap (entry_cells k) (pairs_found k cs)

    go : (o : Option (Object ℕ)) → opened_in c ≡ o → pair_cells (normal_pairs nat_cmp (pairs_in (with_cell k c cs))) + entry_cells k (found_in k cs) ≡ pair_cells (normal_pairs nat_cmp (pairs_in cs)) + entry_cells k o
    go None e =
        let a = ap pair_cells (one_normal (pairs_in (with_cell k c cs)) (without_key by_number k (pairs_in cs)) (λ q. found q ∙ (by q (same_key k q) ∙ sym (found_without q k (pairs_in cs))))) in
        let b = gone_held k (pairs_in cs) in
        let w = were in omega (arith, a, b, w)
      where
        by : (q : Object ℕ) (b : Bool) → opened_in (if b then c else value_at by_number q cs) ≡ (if b then None else value_at by_number q (pairs_in cs))
        by q true = e
        by q false = sym (pairs_found q cs)
    go (Some v) e =
        let a = ap pair_cells (one_normal (pairs_in (with_cell k c cs)) ((k, v) ∷ without_key by_number k (pairs_in cs))
        (λ q. found q ∙ (by q (same_key k q) refl ∙ ap (λ (b : Bool). if b then Some v else value_at by_number q (without_key by_number k (pairs_in cs))) (same_equiv.symm k q)))) in
        let f = fresh_held k v (without_key by_number k (pairs_in cs)) (gone_from k (pairs_in cs)) in
        let b = gone_held k (pairs_in cs) in
        let w = were in omega (arith, a, f, b, w)
      where
        by : (q : Object ℕ) (b : Bool) → same_key k q ≡ b → opened_in (if b then c else value_at by_number q cs) ≡ (if b then Some v else value_at by_number q (without_key by_number k (pairs_in cs)))
        by q true h = e
        by q false h = sym (pairs_found q cs) ∙ sym (found_without q k (pairs_in cs) ∙ ap (λ (b : Bool). if b then None else value_at by_number q (pairs_in cs)) h)

pub nothing_held : cells_held [] ≡ 0
unfolding cells_held
nothing_held = refl

-- ---- places

pub place_held : (k : Object ℕ) (w : Option (Option OwnedEntry)) (n : ℕ) → HasKey k w → n ≡ own_cells w → n ≡ place_cells (k, option_map cell w)
place_held k None n h e = e
place_held k (Some None) n h e = e
place_held k (Some (Some x)) n h e = e ∙ ap (λ (y : Object ℕ). cells y + cells x.value) h

pub found_held : (ps : Places) (k : Object ℕ) (w : Option (Option OwnedEntry)) (n : ℕ) → AreKeyed ps → w ≡ place_at ps k → n ≡ own_cells w → n ≡ entry_cells k (found_in k (cells_of ps))
found_held ps k w n a e g =
    place_held k (place_at ps k) n (a.each k) (g ∙ ap own_cells e)
    ∙ ap (entry_cells k) (sym (ap opened_in (cells_found k ps)))

listed_normal : (ps : Places) → IsDistinct same_key (keys_of ps) → AreKeyed ps → pair_cells (normal_pairs nat_cmp (listed ps)) ≡ pair_cells (listed ps)
listed_normal [] d a = refl
listed_normal ((k, None) ∷ ps) d a = listed_normal ps (rest_distinct k None ps d) (rest_keyed k None ps d a)
listed_normal ((k, Some e) ∷ ps) d a =
    fresh_held e.key e.value (listed ps)
    (listed_finds ps (rest_distinct k (Some e) ps d) (rest_keyed k (Some e) ps d a) e.key ∙ ap value_of (ap (place_at ps) (first_keyed k (Some e) ps a) ∙ gone k (Some e) ps d))
    ∙ ap (λ (n : ℕ). cells e.key + (cells e.value + n)) (listed_normal ps (rest_distinct k (Some e) ps d) (rest_keyed k (Some e) ps d a))

listed_is : (ps : Places) → IsDistinct same_key (keys_of ps) → AreKeyed ps → cells_held (cells_of ps) ≡ pair_cells (listed ps)
unfolding cells_held
listed_is ps d a = ap pair_cells (one_normal (pairs_in (cells_of ps)) (listed ps) (λ q. sym (cells_find ps d a q))) ∙ listed_normal ps d a

pub held_listed : (ps : Places) (start : ℕ) (r : Option ℕ) → IsDistinct same_key (keys_of ps) → AreKeyed ps → IsSum r (start + pair_cells (listed ps)) → IsSum r (start + cells_held (cells_of ps))
held_listed ps start r d a e = subst (λ (m : ℕ). IsSum r (start + m)) (sym (listed_is ps d a)) e

-- ---- counting under way

pub record IsCounting (all left : Places) (start total : ℕ) : Type 0 where
  pub same : total + pair_cells (listed left) ≡ start + pair_cells (listed all)

pub count_begins : (ps left : Places) (start total : ℕ) → left ≡ ps → total ≡ start → IsCounting ps left start total
count_begins ps left start total e g = record { same = ap (λ (n : ℕ). n + pair_cells (listed left)) g ∙ ap (λ (xs : Places). start + pair_cells (listed xs)) e }

first_cells : (k : Object ℕ) (o : Option OwnedEntry) (rest : Places) → pair_cells (listed ((k, o) ∷ rest)) ≡ own_cells (Some o) + pair_cells (listed rest)
first_cells k None rest = omega arith
first_cells k (Some e) rest = omega arith

pub count_takes : (all left rest : Places) (start total more : ℕ) (k : Object ℕ) (o : Option OwnedEntry) → IsCounting all left start total → left ≡ (k, o) ∷ rest → more ≡ total + own_cells (Some o) → IsCounting all rest start more
count_takes all left rest start total more k o c e g =
    let s = c.same in
    let f : pair_cells (listed left) ≡ own_cells (Some o) + pair_cells (listed rest) = ap (λ (xs : Places). pair_cells (listed xs)) e ∙ first_cells k o rest in
    record { same = omega (arith, s, f, g) }

pub count_over : (all left rest : Places) (start total : ℕ) (k : Object ℕ) (o : Option OwnedEntry) → IsCounting all left start total → left ≡ (k, o) ∷ rest → 2 ^ 64 ≤ total + own_cells (Some o) → 2 ^ 64 ≤ start + pair_cells (listed all)
count_over all left rest start total k o c e g =
    let s = c.same in
    let f : pair_cells (listed left) ≡ own_cells (Some o) + pair_cells (listed rest) = ap (λ (xs : Places). pair_cells (listed xs)) e ∙ first_cells k o rest in
    omega (arith, s, f, g)

pub count_ends : (all left : Places) (start total : ℕ) → IsCounting all left start total → left ≡ [] → total ≡ start + pair_cells (listed all)
count_ends all left start total c e =
    let s = c.same in
    let f : pair_cells (listed left) ≡ 0 = ap (λ (xs : Places). pair_cells (listed xs)) e in
    omega (arith, s, f)
