-- The cells of all elements.
use Rattle.std.proofs.Common.{◌≡◌, ℕ, zero, suc, ◌+◌, ◌<◌, ◌≤◌, List, [], ◌∷◌, length, take, get_or, refl, sym, ap, ◌∙◌, arith}
use Rattle.std.specs.List.{sum_by}
use Rattle.std.specs.Prelude.{◌^◌}
use Rattle.std.proofs.lemmas.List.Sums.{sum_by-cons, sum_by-take-le}

take_sum : {X : Type 0} (f : X → ℕ) (xs : List X) (i : ℕ) (x : X) → i < length xs → x ≡ get_or xs i x → sum_by f (take (suc i) xs) ≡ sum_by f (take i xs) + f x
take_sum f [] i x h e = absurd (omega (arith, h))
take_sum f (y ∷ xs) zero x h e = let a = sum_by-cons f y [] in let b = ap f e in omega (arith, a, b)
take_sum f (y ∷ xs) (suc i) x h e =
    let l : i < length xs = omega (arith, h) in
    let a = sum_by-cons f y (take (suc i) xs) in
    let b = sum_by-cons f y (take i xs) in
    let c = take_sum f xs i x l e in omega (arith, a, b, c)

pub count_step : {X : Type 0} (f : X → ℕ) (xs : List X) (start m n i : ℕ) (x : X) → i < length xs → x ≡ get_or xs i x → m ≡ start + sum_by f (take i xs) → n ≡ m + f x → n ≡ start + sum_by f (take (i + 1) xs)
count_step f xs start m n i x h e g k =
    let s : suc i ≡ i + 1 = omega arith in
    let t : sum_by f (take (i + 1) xs) ≡ sum_by f (take i xs) + f x = ap (λ (j : ℕ). sum_by f (take j xs)) (sym s) ∙ take_sum f xs i x h e in omega (arith, t, g, k)

-- too much so far is too much in all
pub count_over : {X : Type 0} (f : X → ℕ) (xs : List X) (start m i : ℕ) (x : X) → i < length xs → x ≡ get_or xs i x → m ≡ start + sum_by f (take i xs) → 2 ^ 64 ≤ m + f x → 2 ^ 64 ≤ start + sum_by f xs
count_over f xs start m i x h e g k =
    let t = take_sum f xs i x h e in
    let l = sum_by-take-le f xs (suc i) in omega (arith, t, l, g, k)

take_long : {X : Type 0} (xs : List X) (n : ℕ) → length xs ≤ n → take n xs ≡ xs
take_long [] zero h = refl
take_long [] (suc n) h = refl
take_long (x ∷ xs) zero h = absurd (omega (arith, h))
take_long (x ∷ xs) (suc n) h = let l : length xs ≤ n = omega (arith, h) in ap (λ (ws : List _). x ∷ ws) (take_long xs n l)

pub count_end : {X : Type 0} (f : X → ℕ) (xs : List X) (start m n : ℕ) → length xs ≤ n → m ≡ start + sum_by f (take n xs) → m ≡ start + sum_by f xs
count_end f xs start m n h g = g ∙ ap (λ (ys : List _). start + sum_by f ys) (take_long xs n h)
