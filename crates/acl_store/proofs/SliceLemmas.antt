-- What is left of a list from a place on.
use Rattle.std.proofs.Common.{◌≡◌, ℕ, zero, suc, ◌-◌, ◌≤◌, List, [], ◌∷◌, length, take, drop, refl, ap, arith}

take_long : {X : Type 0} (xs : List X) (n : ℕ) → length xs ≤ n → take n xs ≡ xs
take_long [] zero h = refl
take_long [] (suc n) h = refl
take_long (x ∷ xs) zero h = absurd (omega (arith, h))
take_long (x ∷ xs) (suc n) h = let l : length xs ≤ n = omega (arith, h) in ap (λ (ws : List _). x ∷ ws) (take_long xs n l)

drop_short : {X : Type 0} (xs : List X) (m : ℕ) → length (drop m xs) ≤ length xs - m
drop_short xs zero = omega arith
drop_short [] (suc m) = omega arith
drop_short (x ∷ xs) (suc m) = let i = drop_short xs m in omega (arith, i)

pub slice_end : {X : Type 0} (xs : List X) (m : ℕ) → take (length xs - m) (drop m xs) ≡ drop m xs
slice_end xs m = take_long (drop m xs) (length xs - m) (drop_short xs m)
