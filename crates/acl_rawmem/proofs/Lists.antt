-- Lists that are written one element at a time.
use Rattle.std.proofs.Common.{◌≡◌, ℕ, ◌+◌, ◌-◌, ◌<◌, ◌≤◌, List, [], ◌∷◌, ◌++◌, length, suc, take, drop, replicate, min, max, slice_index_or, slice_set, sym, ap, ◌∙◌, arith, add-one, length-append, length-take-le}
use Rattle.std.proofs.lemmas.List.{append_assoc, take-append-le, take_all, drop_all, replicate-append-replicate, append-nil, take_more, set-append_right, replicate_more, length-replicate}
use Rattle.std.proofs.Math.Seq.{drop-cons, take-set-lt}
use lib.Dec.{T, ltb, ltb→lt, nltb→le}
use mathlib.Core.Bool.{Bool, true, false, not}

-- one element more was copied
pub copied_more : {X : Type 0} (xs : List X) (i : ℕ) (v : X) → i < length xs → ((d : X) → v ≡ slice_index_or xs i d) → take (i + 1) xs ≡ take i xs ++ v ∷ []
copied_more xs i v within is = take_more xs i v within ∙ ap (λ x. take i xs ++ x ∷ []) (sym (is v))

-- one element more was overwritten, from s on
pub overwritten_more : {X : Type 0} (xs : List X) (s i : ℕ) (v : X) → s ≤ i → i < length xs
    → slice_set (take s xs ++ replicate (i - s) v ++ drop i xs) i v ≡ take s xs ++ replicate (i + 1 - s) v ++ drop (i + 1) xs
overwritten_more xs s i v from within =
    let k = i - s in let front = take s xs in let more : k + 1 ≡ i + 1 - s = omega arith in
    let long : length (front ++ replicate k v) ≡ i = length-append front (replicate k v) ∙ ap (λ m. m + length (replicate k v)) (length-take-le s xs (omega arith)) ∙ ap (λ m. s + m) (length-replicate k v) ∙ omega arith in
    set-append_right (front ++ replicate k v) (drop i xs) i i v long (omega arith)
    ∙ ap (λ j. front ++ replicate k v ++ slice_set (drop i xs) j v) (omega arith)
    ∙ ap (λ ys. front ++ replicate k v ++ slice_set ys 0 v) (drop-cons xs i v within)
    ∙ sym (append_assoc (front ++ replicate k v) (v ∷ []) (drop (suc i) xs))
    ∙ ap (λ ys. ys ++ drop (suc i) xs) (append_assoc front (replicate k v) (v ∷ []) ∙ ap (λ ys. front ++ ys) (replicate_more k v))
    ∙ ap (λ j. front ++ replicate (k + 1) v ++ drop j xs) (sym (add-one i))
    ∙ ap (λ j. front ++ replicate j v ++ drop (i + 1) xs) more

-- a write below the cut is a write into what is cut
pub cut_of_written : {X : Type 0} (xs : List X) (n i : ℕ) (v : X) → i < length (take n xs) → n ≤ length xs → take n (slice_set xs i v) ≡ slice_set (take n xs) i v
cut_of_written xs n i v within small = take-set-lt n xs i v (omega (arith, length-take-le n xs small))

-- the first n of what begins with n elements
begins : {X : Type 0} (a b c d : List X) (n : ℕ) → length (a ++ b) ≡ n → take n ((a ++ b ++ c) ++ d) ≡ a ++ b
begins a b c d n long =
    ap (take n) (append_assoc (a ++ b) c d) ∙ take-append-le n (a ++ b) (c ++ d) (omega arith) ∙ take_all n (a ++ b) (omega arith)

-- the first n elements once the places from len on were overwritten and the others filled
pub stretched : {X : Type 0} (xs : List X) (len used n : ℕ) (v : X) → len ≤ used → len ≤ n → used ≡ length xs
    → take n ((take len xs ++ replicate (min used n - len) v ++ drop (min used n) xs) ++ replicate (max used n - used) v) ≡ take len xs ++ replicate (n - len) v
stretched {X} xs len used n v within grows all = go (ltb n used) (ltb→lt n used) (nltb→le n used)
  where
    front : List X
    front = take len xs

    begin : length front ≡ len
    begin = length-take-le len xs (omega arith)

    go : (b : Bool) → (T b → n < used) → (T (not b) → used ≤ n) → take n ((front ++ replicate (min used n - len) v ++ drop (min used n) xs) ++ replicate (max used n - used) v) ≡ front ++ replicate (n - len) v
    go true small large =
        let fewer : n < used = small tt in let least : min used n ≡ n = omega arith in
        ap (λ m. take n ((front ++ replicate (m - len) v ++ drop m xs) ++ replicate (max used n - used) v)) least
        ∙ begins front (replicate (n - len) v) (drop n xs) (replicate (max used n - used) v) n (length-append front (replicate (n - len) v) ∙ ap (λ k. length front + k) (length-replicate (n - len) v) ∙ omega (arith, begin))
    go false small large =
        let more : used ≤ n = large tt in let least : min used n ≡ used = omega arith in let most : max used n - used ≡ n - used = omega arith in
        let together : (front ++ replicate (used - len) v ++ drop used xs) ++ replicate (n - used) v ≡ front ++ replicate (n - len) v =
        ap (λ ys. (front ++ replicate (used - len) v ++ ys) ++ replicate (n - used) v) (drop_all used xs (omega arith))
        ∙ ap (λ ys. ys ++ replicate (n - used) v) (append-nil (front ++ replicate (used - len) v))
        ∙ append_assoc front (replicate (used - len) v) (replicate (n - used) v)
        ∙ ap (λ ys. front ++ ys) (replicate-append-replicate (used - len) (n - used) v)
        ∙ ap (λ k. front ++ replicate k v) (omega arith) in
        let long : length (front ++ replicate (n - len) v) ≤ n = omega (arith, begin, length-append front (replicate (n - len) v), length-replicate (n - len) v) in
        ap (λ m. take n ((front ++ replicate (m - len) v ++ drop m xs) ++ replicate (max used n - used) v)) least
        ∙ ap (λ k. take n ((front ++ replicate (used - len) v ++ drop used xs) ++ replicate k v)) most
        ∙ ap (take n) together ∙ take_all n (front ++ replicate (n - len) v) long
