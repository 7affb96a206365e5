-- Places in a list and behind it.
use Rattle.std.specs.Prelude.{◌≡◌, ℕ, zero, suc, ◌+◌, ◌<◌, ◌≤◌, List, [], ◌∷◌, ◌++◌, length, map, Bool, true, false, Some, None, nat_eq, slice_get, position, cond, refl}
use Rattle.std.specs.List.{position_from, AllByRecursion}
use Rattle.std.proofs.Common.{sym, ap, ◌∙◌, arith}
use Rattle.std.proofs.lemmas.Iterator.Adapters.{position_from-zero}
use Rattle.std.proofs.lemmas.List.{map-append, length-map}
use Rattle.model_terms.specs.Worlds.{World, definition_name}
use Rattle.model_slots.specs.Resolved.{number_in}

some_same : {A : Type 0} {a b : A} → Some a ≡ Some b → a ≡ b
some_same e = cc

pub get_left : {A : Type 0} (xs ys : List A) (n : ℕ) → n < length xs → slice_get (xs ++ ys) n ≡ slice_get xs n
get_left [] ys n l = absurd (omega (arith, l))
get_left (x ∷ xs) ys zero l = refl
get_left (x ∷ xs) ys (suc n) l = get_left xs ys n (omega (arith, l))

pub get_right : {A : Type 0} (xs ys : List A) (n k : ℕ) → n ≡ length xs + k → slice_get (xs ++ ys) n ≡ slice_get ys k
get_right [] ys n k e = let same : n ≡ k = omega (arith, e) in ap (slice_get ys) same
get_right (x ∷ xs) ys zero k e = absurd (omega (arith, e))
get_right (x ∷ xs) ys (suc n) k e = get_right xs ys n k (omega (arith, e))

within_from : (p : ℕ → Bool) (i n : ℕ) (xs : List ℕ) → position_from p i xs ≡ Some n → n < i + length xs
within_from p i n [] h = absurd (cc)
within_from p i n (x ∷ xs) h = go (p x) h (within_from p (i + 1) n xs)
  where
    go : (b : Bool) → cond b (Some i) (position_from p (i + 1) xs) ≡ Some n → (position_from p (i + 1) xs ≡ Some n → n < i + 1 + length xs) → n < i + length (x ∷ xs)
    go true h rest = let same : i ≡ n = some_same h in omega (arith, same)
    go false h rest = let l = rest h in omega (arith, l)

behind_from : (p : ℕ → Bool) (i n : ℕ) (xs ys : List ℕ) → position_from p i xs ≡ None → position_from p i (xs ++ ys) ≡ Some n → i + length xs ≤ n
behind_from p i n [] [] none h = absurd (cc)
behind_from p i n [] (y ∷ ys) none h = from_start p i n (y ∷ ys) h
  where
    from_start : (p : ℕ → Bool) (i n : ℕ) (ys : List ℕ) → position_from p i ys ≡ Some n → i + 0 ≤ n
    from_start p i n [] h = absurd (cc)
    from_start p i n (y ∷ ys) h = go (p y) h (from_start p (i + 1) n ys)
      where
        go : (b : Bool) → cond b (Some i) (position_from p (i + 1) ys) ≡ Some n → (position_from p (i + 1) ys ≡ Some n → i + 1 + 0 ≤ n) → i + 0 ≤ n
        go true h rest = let same : i ≡ n = some_same h in omega (arith, same)
        go false h rest = let l = rest h in omega (arith, l)
behind_from p i n (x ∷ xs) ys none h = go (p x) none h (behind_from p (i + 1) n xs ys)
  where
    go : (b : Bool) → cond b (Some i) (position_from p (i + 1) xs) ≡ None → cond b (Some i) (position_from p (i + 1) (xs ++ ys)) ≡ Some n
        → (position_from p (i + 1) xs ≡ None → position_from p (i + 1) (xs ++ ys) ≡ Some n → i + 1 + length xs ≤ n) → i + length (x ∷ xs) ≤ n
    go true none h rest = absurd (cc)
    go false none h rest = let l = rest none h in omega (arith, l)

pub number_within : (w : World) (x n : ℕ) → number_in w x ≡ Some n → n < length w
number_within w x n h =
    let l : n < 0 + length (map definition_name w) = within_from (nat_eq x) 0 n (map definition_name w) (sym (position_from-zero (nat_eq x) (map definition_name w)) ∙ h) in
    let m : length (map definition_name w) ≡ length w = length-map w definition_name in
    omega (arith, l, m)

pub number_behind : (w added : World) (x n : ℕ) → number_in w x ≡ None → number_in (w ++ added) x ≡ Some n → length w ≤ n
number_behind w added x n none h =
    let l : 0 + length (map definition_name w) ≤ n =
    behind_from (nat_eq x) 0 n (map definition_name w) (map definition_name added) (sym (position_from-zero (nat_eq x) (map definition_name w)) ∙ none)
    (sym (position_from-zero (nat_eq x) (map definition_name w ++ map definition_name added)) ∙ (sym (ap (position (nat_eq x)) (map-append definition_name w added)) ∙ h)) in
    let m : length (map definition_name w) ≡ length w = length-map w definition_name in
    omega (arith, l, m)

pub all_joined : {A : Type 0} (P : A → Type 0) (xs ys : List A) → AllByRecursion P xs → AllByRecursion P ys → AllByRecursion P (xs ++ ys)
all_joined P [] ys a b = b
all_joined P (x ∷ xs) ys a b = (a.0, all_joined P xs ys a.1 b)
