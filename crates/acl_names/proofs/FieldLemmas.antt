-- What the fields are once a name is put last, and once the last is taken away.
use Rattle.std.specs.Prelude.{◌≡◌, ℕ, zero, suc, ◌+◌, ◌-◌, ◌≤◌, List, [], ◌∷◌, ◌++◌, length, take, Bool, true, false, Option, Some, None, IsSome, nat_eq, slice_get, option_map, refl, cond, if◌then◌else◌}
use Rattle.std.specs.Option.{option_or, option_flatten}
use Rattle.std.specs.Map.{lookup}
use Rattle.std.specs.HashMap.{HashMap, Updates, WritesThrough}
use Rattle.std.proofs.Common.{sym, ap, ◌∙◌, arith, ◌⊎◌, inl, inr}
use Rattle.std.proofs.lemmas.Bool.Decides.{eqb_tells, nat_tests}
use Rattle.std.proofs.lemmas.List.{length-map, map-append}
use Rattle.acl_names.specs.declared.named.Named.{Named}
use Rattle.acl_names.specs.Places.{last_place}
use Rattle.acl_names.specs.Fields.{names_of, Sets, AreFields}

-- ---- lists

pub names_length : (ns : List Named) → length ns ≡ length (names_of ns)
names_length ns = sym (length-map ns _)

pub take_all : {X : Type 0} (xs : List X) → take (length xs) xs ≡ xs
take_all [] = refl
take_all (x ∷ xs) = ap (λ ys. x ∷ ys) (take_all xs)

take_left : {X : Type 0} (xs : List X) (x : X) → take (length xs) (xs ++ x ∷ []) ≡ xs
take_left [] x = refl
take_left (y ∷ xs) x = ap (λ ys. y ∷ ys) (take_left xs x)

get_last : {X : Type 0} (xs : List X) (x : X) → slice_get (xs ++ x ∷ []) (length xs) ≡ Some x
get_last [] x = refl
get_last (y ∷ xs) x = get_last xs x

-- what stands in a list stands there also once one more is put last, behind the same
get_left : {X : Type 0} (xs : List X) (x m : X) (i : ℕ) → slice_get xs i ≡ Some m → (slice_get (xs ++ x ∷ []) i ≡ Some m) × (take i (xs ++ x ∷ []) ≡ take i xs)
get_left [] x m i h = cc
get_left (y ∷ xs) x m zero h = (h, refl)
get_left (y ∷ xs) x m (suc i) h = let r = get_left xs x m i h in (r.0, ap (λ ys. y ∷ ys) r.1)

get_pushed : {X : Type 0} (xs : List X) (x m : X) (i : ℕ) → slice_get (xs ++ x ∷ []) i ≡ Some m
    → ((slice_get xs i ≡ Some m) × (take i (xs ++ x ∷ []) ≡ take i xs)) ⊎ ((m ≡ x) × (take i (xs ++ x ∷ []) ≡ xs))
get_pushed [] x m zero h = inr (cc, refl)
get_pushed [] x m (suc i) h = cc
get_pushed (y ∷ xs) x m zero h = inl (h, refl)
get_pushed (y ∷ xs) x m (suc i) h = elim (get_pushed xs x m i h) [
  | inl p ↦ inl (p.0, ap (λ ys. y ∷ ys) p.1)
  | inr q ↦ inr (q.0, ap (λ ys. y ∷ ys) q.1)
]

-- ---- last places

pub last_push : (x y : ℕ) (ys : List ℕ) → last_place x (ys ++ y ∷ []) ≡ (if nat_eq x y then Some (length ys) else last_place x ys)
last_push x y [] = refl
last_push x y (z ∷ zs) =
    ap (λ o. option_or (option_map suc o) (if nat_eq x z then Some 0 else None)) (last_push x y zs) ∙ go (nat_eq x y)
  where
    go : (b : Bool) → option_or (option_map suc (cond b (Some (length zs)) (last_place x zs))) (if nat_eq x z then Some 0 else None)
        ≡ cond b (Some (suc (length zs))) (option_or (option_map suc (last_place x zs)) (if nat_eq x z then Some 0 else None))
    go true = refl
    go false = refl

either_order : (x y : ℕ) → nat_eq x y ≡ nat_eq y x
either_order x y = grind (arith, nat_tests)

names_push : (ns : List Named) (n : Named) → names_of (ns ++ n ∷ []) ≡ names_of ns ++ n.name ∷ []
names_push ns n = map-append _ ns (n ∷ [])

-- the last place once a name is put last
pushed : (x : ℕ) (ns : List Named) (n : Named) → last_place x (names_of (ns ++ n ∷ [])) ≡ (if nat_eq n.name x then Some (length ns) else last_place x (names_of ns))
pushed x ns n =
    ap (last_place x) (names_push ns n) ∙ (last_push x n.name (names_of ns)
    ∙ (ap (λ (b : Bool). if b then Some (length (names_of ns)) else last_place x (names_of ns)) (either_order x n.name)
    ∙ ap (λ k. if nat_eq n.name x then Some k else last_place x (names_of ns)) (sym (names_length ns))))

-- ---- the table

pub sets_put : {S : Type 0} (m n : HashMap ℕ (Option ℕ) S) (x : ℕ) (place : Option ℕ) → Updates nat_eq m n x (Some place) → Sets m.entries n.entries x place
sets_put m n x place u = u.0

pub sets_written : {S : Type 0} (m n : HashMap ℕ (Option ℕ) S) (x : ℕ) (place : Option ℕ) → WritesThrough nat_eq (nat_eq x) m place n → IsSome (lookup (nat_eq x) m.entries)
    → Sets m.entries n.entries x place
sets_written m n x place h s = (h.3 s).0

-- ---- fields

pub fields_new : AreFields [] []
fields_new = record { found = λ x. refl; earlier = λ i n h. cc }

pub found_there : (ns : List Named) (latest : List (ℕ × Option ℕ)) (x : ℕ) (place : Option ℕ) → AreFields ns latest → Some place ≡ lookup (nat_eq x) latest → place ≡ last_place x (names_of ns)
found_there ns latest x place f e = ap option_flatten e ∙ f.found x

pub found_nowhere : (ns : List Named) (latest : List (ℕ × Option ℕ)) (x : ℕ) → AreFields ns latest → None ≡ lookup (nat_eq x) latest → None ≡ last_place x (names_of ns)
found_nowhere ns latest x f e = ap option_flatten e ∙ f.found x

pub fields_push : (ns : List Named) (old new : List (ℕ × Option ℕ)) (n : Named) → AreFields ns old → n.earlier ≡ last_place n.name (names_of ns) → Sets old new n.name (Some (length ns))
    → AreFields (ns ++ n ∷ []) new
fields_push ns old new n f e s = record {
  found = λ x.
      ap option_flatten (s x) ∙ (go x (nat_eq n.name x) (f.found x) ∙ sym (pushed x ns n));
  earlier = λ i m h. elim (get_pushed ns n m i h) [
    | inl p ↦ f.earlier i m p.0 ∙ ap (λ ks. last_place m.name (names_of ks)) (sym p.1)
    | inr q ↦ ap (λ (k : Named). k.earlier) q.0 ∙ (e ∙ (ap (λ ks. last_place n.name (names_of ks)) (sym q.1) ∙ ap (λ (k : Named). last_place k.name (names_of (take i (ns ++ n ∷ [])))) (sym q.0)))
  ];
}
  where
    go : (x : ℕ) (b : Bool) → option_flatten (lookup (nat_eq x) old) ≡ last_place x (names_of ns)
        → option_flatten (if b then Some (Some (length ns)) else lookup (nat_eq x) old) ≡ (if b then Some (length ns) else last_place x (names_of ns))
    go x true h = refl
    go x false h = h

-- a name that stands last has a place
pub place_there : (ns : List Named) (latest : List (ℕ × Option ℕ)) (n : Named) → AreFields (ns ++ n ∷ []) latest → IsSome (lookup (nat_eq n.name) latest)
place_there ns latest n f = go (lookup (nat_eq n.name) latest) (f.found n.name ∙ (pushed n.name ns n ∙ same (nat_eq n.name n.name) (grind (arith, nat_tests))))
  where
    same : (b : Bool) → b ≡ true → (if b then Some (length ns) else last_place n.name (names_of ns)) ≡ Some (length ns)
    same true h = refl
    same false h = cc

    go : (o : Option (Option ℕ)) → option_flatten o ≡ Some (length ns) → IsSome o
    go None h = absurd cc
    go (Some place) h = refl

pub fields_pop : (ns : List Named) (old new : List (ℕ × Option ℕ)) (n : Named) → AreFields (ns ++ n ∷ []) old → Sets old new n.name n.earlier → AreFields ns new
fields_pop ns old new n f s = record {
  found = λ x. ap option_flatten (s x) ∙ elim (eqb_tells n.name x) [
    | inl p ↦ ap (λ (b : Bool). option_flatten (if b then Some n.earlier else lookup (nat_eq x) old)) p.0
        ∙ (f.earlier (length ns) n (get_last ns n) ∙ (ap (λ ks. last_place n.name (names_of ks)) (take_left ns n) ∙ ap (λ y. last_place y (names_of ns)) p.1))
    | inr q ↦ ap (λ (b : Bool). option_flatten (if b then Some n.earlier else lookup (nat_eq x) old)) q.0
        ∙ (f.found x ∙ (pushed x ns n ∙ ap (λ (b : Bool). if b then Some (length ns) else last_place x (names_of ns)) q.0))
  ];
  earlier = λ i m h. let r = get_left ns n m i h in f.earlier i m r.0 ∙ ap (λ ks. last_place m.name (names_of ks)) r.1;
}

-- ---- cutting

pub take_less : {X : Type 0} (k n : ℕ) (xs : List X) → k ≤ n → take k (take n xs) ≡ take k xs
take_less zero n xs l = refl
take_less (suc k) zero xs l = absurd (omega (arith, l))
take_less (suc k) (suc n) [] l = refl
take_less (suc k) (suc n) (x ∷ xs) l = ap (λ ys. x ∷ ys) (take_less k n xs (omega (arith, l)))

pub take_enough : {X : Type 0} (k : ℕ) (xs : List X) → length xs ≤ k → take k xs ≡ xs
take_enough zero [] l = refl
take_enough (suc k) [] l = refl
take_enough zero (x ∷ xs) l = absurd (omega (arith, l))
take_enough (suc k) (x ∷ xs) l = ap (λ ys. x ∷ ys) (take_enough k xs (omega (arith, l)))

-- the names without the last
pub names_popped : (ns : List Named) (n : Named) → names_of ns ≡ take (length (names_of (ns ++ n ∷ [])) - 1) (names_of (ns ++ n ∷ []))
names_popped ns n =
    let l : length (names_of (ns ++ n ∷ [])) - 1 ≡ length (names_of ns) = length_less (names_of ns) n.name ∙ refl in
    sym (ap (λ k. take k (names_of (ns ++ n ∷ []))) l ∙ (ap (take (length (names_of ns))) (names_push ns n) ∙ take_left (names_of ns) n.name))
  where
    length_less : (xs : List ℕ) (x : ℕ) → length (names_of (ns ++ n ∷ [])) - 1 ≡ length (names_of ns)
    length_less xs x = let e : length (names_of (ns ++ n ∷ [])) ≡ length (names_of ns ++ n.name ∷ []) = ap length (names_push ns n) in
        let d : length (names_of ns ++ n.name ∷ []) ≡ length (names_of ns) + 1 = one_more (names_of ns) n.name in omega (arith, e, d)
      where
        one_more : (ys : List ℕ) (y : ℕ) → length (ys ++ y ∷ []) ≡ length ys + 1
        one_more [] y = omega arith
        one_more (z ∷ ys) y = omega (arith, one_more ys y)
