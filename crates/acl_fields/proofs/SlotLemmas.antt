-- Arrays of bytes as arrays of integers.
use Rattle.std.proofs.Common.{◌≡◌, ℕ, zero, suc, ◌+◌, ◌-◌, ◌<◌, ◌≤◌, ℤ, pos, negsuc, nat_abs, ◌≤ℤ◌, List, [], ◌∷◌, ◌++◌, map, length, take, drop, replicate, set, get_or, slice_index_or, refl, sym, ap, ◌∙◌, arith, inl, inr}
use Rattle.std.specs.Prelude.{◌⊎◌}
use Rattle.std.proofs.lemmas.List.{map-set, length-map}
use Rattle.std.specs.List.{take-map}
use Rattle.acl_base.specs.declared.layout.Kind.TheVariants.{Byte}
use Rattle.acl_nodes.specs.Nodes.{Own}
use Rattle.acl_fields.specs.Fields.{Many}

got : (vs : List ℕ) (i : ℕ) → get_or (map pos vs) i (pos 0) ≡ pos (get_or vs i 0)
got [] i = refl
got (v ∷ vs) zero = refl
got (v ∷ vs) (suc i) = got vs i

pub byte_got : (vs : List ℕ) (i r : ℕ) → ((d : ℕ) → r ≡ slice_index_or vs i d) → pos r ≡ get_or (map pos vs) i (pos 0)
byte_got vs i r h = ap pos (h 0) ∙ sym (got vs i)

pub int_got : (vs : List ℤ) (i : ℕ) (r : ℤ) → ((d : ℤ) → r ≡ slice_index_or vs i d) → r ≡ get_or vs i (pos 0)
int_got vs i r h = h (pos 0)

pub byte_put : (vs new : List ℕ) (i n : ℕ) (v : ℤ) → new ≡ set vs i n → pos n ≡ v → map pos new ≡ set (map pos vs) i v
byte_put vs new i n v e f = ap (map pos) e ∙ (map-set pos vs i n ∙ ap (set (map pos vs) i) f)

replicated : (n v : ℕ) → map pos (replicate n v) ≡ replicate n (pos v)
replicated zero v = refl
replicated (suc n) v = ap (λ (vs : List ℤ). pos v ∷ vs) (replicated n v)

appended : (xs ys : List ℕ) → map pos (xs ++ ys) ≡ map pos xs ++ map pos ys
appended [] ys = refl
appended (x ∷ xs) ys = ap (λ (vs : List ℤ). pos x ∷ vs) (appended xs ys)

pub bytes_sized : (vs : List ℕ) (n v : ℕ) → map pos (take n vs ++ replicate (n - length vs) v) ≡ take n (map pos vs) ++ replicate (n - length (map pos vs)) (pos v)
bytes_sized vs n v =
    appended (take n vs) (replicate (n - length vs) v)
    ∙ (ap (λ (xs : List ℤ). xs ++ map pos (replicate (n - length vs) v)) (sym (take-map pos n vs))
    ∙ (ap (λ (xs : List ℤ). take n (map pos vs) ++ xs) (replicated (n - length vs) v)
    ∙ ap (λ (k : ℕ). take n (map pos vs) ++ replicate (n - k) (pos v)) (sym (length-map vs pos))))

pub whole_byte : (v : ℤ) → pos 0 ≤ℤ v → pos (nat_abs v) ≡ v
whole_byte (pos n) h = refl
whole_byte (negsuc n) h = absurd (omega (arith, h))

pub byte_array : (v : ℤ) (n x i : ℕ) (vs : List ℕ) → pos x ≡ v → i ≡ x → vs ≡ replicate n x → Own (Many Byte (pos i) (map pos vs)) ≡ Own (Many Byte v (replicate n v))
byte_array v n x i vs e f g = same (ap pos f ∙ e) (ap (map pos) g ∙ (replicated n x ∙ ap (replicate n) e))
  where
    same : {w : ℤ} {xs ys : List ℤ} → w ≡ v → xs ≡ ys → Own (Many Byte w xs) ≡ Own (Many Byte v ys)
    same b c = cc

-- ---- arrays copied

copied_suc : {X : Type 0} (xs ys : List X) (i : ℕ) (v : X) → i < length xs → i < length ys → v ≡ get_or xs i v → set (take i xs ++ drop i ys) i v ≡ take (suc i) xs ++ drop (suc i) ys
copied_suc [] ys i v h k e = absurd (omega (arith, h))
copied_suc (x ∷ xs) [] i v h k e = absurd (omega (arith, k))
copied_suc (x ∷ xs) (y ∷ ys) zero v h k e = ap (λ (z : _). z ∷ ys) e
copied_suc (x ∷ xs) (y ∷ ys) (suc i) v h k e = let l : i < length xs = omega (arith, h) in let m : i < length ys = omega (arith, k) in ap (λ (zs : List _). x ∷ zs) (copied_suc xs ys i v l m e)

-- one more element is copied
pub copied_step : {X : Type 0} (xs ys : List X) (i : ℕ) (v : X) → i < length xs → i < length ys → v ≡ get_or xs i v → set (take i xs ++ drop i ys) i v ≡ take (i + 1) xs ++ drop (i + 1) ys
copied_step xs ys i v h k e = let g : suc i ≡ i + 1 = omega arith in copied_suc xs ys i v h k e ∙ ap (λ (n : ℕ). take n xs ++ drop n ys) g

-- the first elements over so many of one
pub copied_all : {X : Type 0} (xs : List X) (n k : ℕ) (x : X) → k ≤ n → k ≤ length xs → (k ≡ n) ⊎ (k ≡ length xs) → take k xs ++ drop k (replicate n x) ≡ take n xs ++ replicate (n - length xs) x
copied_all xs zero zero x u v o = let e : 0 - length xs ≡ 0 = omega arith in ap (λ (j : ℕ). replicate j x) (sym e)
copied_all xs zero (suc k) x u v o = absurd (omega (arith, u))
copied_all [] (suc n) zero x u v o = let e : suc n - 0 ≡ suc n = omega arith in ap (λ (j : ℕ). replicate j x) (sym e)
copied_all [] (suc n) (suc k) x u v o = absurd (omega (arith, v))
copied_all (y ∷ xs) (suc n) zero x u v (inl e) = absurd (omega (arith, e))
copied_all (y ∷ xs) (suc n) zero x u v (inr e) = absurd (omega (arith, e))
copied_all (y ∷ xs) (suc n) (suc k) x u v o =
    let low : k ≤ n = omega (arith, u) in let fits : k ≤ length xs = omega (arith, v) in let e : suc n - suc (length xs) ≡ n - length xs = omega arith in
    ap (λ (zs : List _). y ∷ zs) (copied_all xs n k x low fits (less o) ∙ ap (λ (j : ℕ). take n xs ++ replicate j x) (sym e))
  where
    less : (suc k ≡ suc n) ⊎ (suc k ≡ suc (length xs)) → (k ≡ n) ⊎ (k ≡ length xs)
    less (inl e) = inl (omega (arith, e))
    less (inr e) = inr (omega (arith, e))
