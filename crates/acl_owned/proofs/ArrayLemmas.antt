-- Lists of copies.
use Rattle.std.proofs.Common.{◌≡◌, ℕ, zero, suc, ◌+◌, ◌-◌, ◌<◌, ◌≤◌, List, [], ◌∷◌, ◌++◌, length, take, replicate, get_or, refl, sym, ap, ◌∙◌, arith, inl, inr}
use Rattle.std.specs.Prelude.{◌⊎◌}
use Rattle.std.proofs.lemmas.List.{append-nil}

append_assoc : {X : Type 0} (xs ys zs : List X) → (xs ++ ys) ++ zs ≡ xs ++ (ys ++ zs)
append_assoc [] ys zs = refl
append_assoc (x ∷ xs) ys zs = ap (λ (ws : List _). x ∷ ws) (append_assoc xs ys zs)

one_more : {X : Type 0} (n : ℕ) (x : X) → replicate n x ++ x ∷ [] ≡ replicate (n + 1) x
one_more zero x = refl
one_more (suc n) x = let e : suc (n + 1) ≡ suc n + 1 = omega arith in ap (λ (ws : List _). x ∷ ws) (one_more n x) ∙ ap (λ (k : ℕ). replicate k x) e

pub more_start : {X : Type 0} (xs : List X) (x : X) → xs ≡ xs ++ replicate 0 x
more_start xs x = sym (append-nil xs)

pub more_step : {X : Type 0} (xs ys zs : List X) (n : ℕ) (x : X) → ys ≡ xs ++ replicate n x → zs ≡ ys ++ x ∷ [] → zs ≡ xs ++ replicate (n + 1) x
more_step xs ys zs n x e g = g ∙ (ap (λ (ws : List _). ws ++ x ∷ []) e ∙ (append_assoc xs (replicate n x) (x ∷ []) ∙ ap (λ (ws : List _). xs ++ ws) (one_more n x)))

take_first : {X : Type 0} (xs ys : List X) → take (length xs) (xs ++ ys) ≡ xs
take_first [] ys = refl
take_first (x ∷ xs) ys = ap (λ (ws : List _). x ∷ ws) (take_first xs ys)

pub more_kept : {X : Type 0} (xs ys : List X) (n : ℕ) (x : X) → ys ≡ xs ++ replicate n x → take (length xs) ys ≡ xs
more_kept xs ys n x e = ap (take (length xs)) e ∙ take_first xs (replicate n x)

take_one : {X : Type 0} (xs : List X) (i : ℕ) (x : X) → i < length xs → x ≡ get_or xs i x → take i xs ++ x ∷ [] ≡ take (suc i) xs
take_one [] i x h e = absurd (omega (arith, h))
take_one (y ∷ xs) zero x h e = ap (λ (z : _). z ∷ []) e
take_one (y ∷ xs) (suc i) x h e = let l : i < length xs = omega (arith, h) in ap (λ (ws : List _). y ∷ ws) (take_one xs i x l e)

pub copies_step : {X : Type 0} (xs ys zs : List X) (i : ℕ) (x : X) → i < length xs → ys ≡ take i xs → x ≡ get_or xs i x → zs ≡ ys ++ x ∷ [] → zs ≡ take (i + 1) xs
copies_step xs ys zs i x h e g q = let n : suc i ≡ i + 1 = omega arith in q ∙ (ap (λ (ws : List _). ws ++ x ∷ []) e ∙ (take_one xs i x h g ∙ ap (λ (k : ℕ). take k xs) n))

-- the first elements, and more behind them
pub shared_then : {X : Type 0} (xs : List X) (n k : ℕ) (x : X) → k ≤ n → k ≤ length xs → (k ≡ n) ⊎ (k ≡ length xs) → take k xs ++ replicate (n - k) x ≡ take n xs ++ replicate (n - length xs) x
shared_then xs zero zero x u v o = let e : 0 - length xs ≡ 0 = omega arith in let g : 0 - 0 ≡ 0 = omega arith in ap (λ (j : ℕ). replicate j x) (g ∙ sym e)
shared_then xs zero (suc k) x u v o = absurd (omega (arith, u))
shared_then [] (suc n) zero x u v o = refl
shared_then [] (suc n) (suc k) x u v o = absurd (omega (arith, v))
shared_then (y ∷ xs) (suc n) zero x u v (inl e) = absurd (omega (arith, e))
shared_then (y ∷ xs) (suc n) zero x u v (inr e) = absurd (omega (arith, e))
shared_then (y ∷ xs) (suc n) (suc k) x u v o =
    let low : k ≤ n = omega (arith, u) in let fits : k ≤ length xs = omega (arith, v) in let e : suc n - suc (length xs) ≡ n - length xs = omega arith in let g : suc n - suc k ≡ n - k = omega arith in
    ap (λ (zs : List _). y ∷ zs) (ap (λ (j : ℕ). take k xs ++ replicate j x) g ∙ (shared_then xs n k x low fits (less o) ∙ ap (λ (j : ℕ). take n xs ++ replicate j x) (sym e)))
  where
    less : (suc k ≡ suc n) ⊎ (suc k ≡ suc (length xs)) → (k ≡ n) ⊎ (k ≡ length xs)
    less (inl e) = inl (omega (arith, e))
    less (inr e) = inr (omega (arith, e))

pub cut_only : {X : Type 0} (xs : List X) (n : ℕ) (x : X) → n < length xs → take n xs ≡ take n xs ++ replicate (n - length xs) x
cut_only xs n x h = let e : n - length xs ≡ 0 = omega (arith, h) in sym (append-nil (take n xs)) ∙ ap (λ (k : ℕ). take n xs ++ replicate k x) (sym e)

take_long : {X : Type 0} (xs : List X) (n : ℕ) → length xs ≤ n → take n xs ≡ xs
take_long [] zero h = refl
take_long [] (suc n) h = refl
take_long (x ∷ xs) zero h = absurd (omega (arith, h))
take_long (x ∷ xs) (suc n) h = let l : length xs ≤ n = omega (arith, h) in ap (λ (ws : List _). x ∷ ws) (take_long xs n l)

pub long_only : {X : Type 0} (xs : List X) (n : ℕ) (x : X) → length xs ≤ n → xs ++ replicate (n - length xs) x ≡ take n xs ++ replicate (n - length xs) x
long_only xs n x h = ap (λ (ws : List _). ws ++ replicate (n - length xs) x) (sym (take_long xs n h))
