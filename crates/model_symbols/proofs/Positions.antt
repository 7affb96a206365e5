-- The first place in a list at which a test passes.
use Rattle.std.specs.Prelude.{◌≡◌, ℕ, zero, suc, ◌+◌, List, [], ◌∷◌, ◌++◌, length, map, Bool, true, false, Option, Some, None, slice_get, position, refl, cond}
use Rattle.std.proofs.Common.{get_or, sym, ap, ◌∙◌, arith, true≢false, ◌⊎◌, inl, inr}
use Rattle.std.specs.List.{position_from}
use Rattle.std.specs.Option.{option_or}
use Rattle.std.proofs.lemmas.Iterator.Adapters.{position_from-zero}
use Rattle.std.proofs.lemmas.List.Quantifiers.{position-Some}
use Rattle.std.proofs.lemmas.Option.{slice_get-get_or}

none_is_some : {X : Type 0} {x : X} → Some x ≡ None → ⊥
none_is_some h = cc

some_is : {X : Type 0} {x y : X} → Some x ≡ Some y → x ≡ y
some_is h = cc

module _ {X : Type 0} where
  -- ---- one more element

  pub slice_get-left : (xs ys : List X) (n : ℕ) (x : X) → slice_get xs n ≡ Some x → slice_get (xs ++ ys) n ≡ Some x
  slice_get-left [] ys n x h = cc
  slice_get-left (y ∷ xs) ys zero x h = h
  slice_get-left (y ∷ xs) ys (suc n) x h = slice_get-left xs ys n x h

  pub slice_get-last : (xs : List X) (y : X) → slice_get (xs ++ y ∷ []) (length xs) ≡ Some y
  slice_get-last [] y = refl
  slice_get-last (x ∷ xs) y = slice_get-last xs y

  pub slice_get-push : (xs : List X) (y : X) (n : ℕ) (x : X) → slice_get (xs ++ y ∷ []) n ≡ Some x → (slice_get xs n ≡ Some x) ⊎ ((n ≡ length xs) × (x ≡ y))
  slice_get-push [] y zero x h = inr (refl, cc)
  slice_get-push [] y (suc n) x h = cc
  slice_get-push (z ∷ xs) y zero x h = inl h
  slice_get-push (z ∷ xs) y (suc n) x h = elim (slice_get-push xs y n x h) [ inl a ↦ inl a | inr b ↦ inr (ap suc b.0, b.1) ]

  module _ (p : X → Bool) where
    -- ---- what a place tells

    pub found : (xs : List X) (i : ℕ) → position p xs ≡ Some i → (x : X) × (slice_get xs i ≡ Some x) × (p x ≡ true)
    found [] i h = cc
    found (x ∷ xs) i h =
        let s = position-Some p (x ∷ xs) i x h in
        (get_or (x ∷ xs) i x, slice_get-get_or (x ∷ xs) i x s.0, s.1)

    from_none : (i : ℕ) (xs : List X) (k : ℕ) (x : X) → position_from p i xs ≡ None → slice_get xs k ≡ Some x → p x ≡ false
    from_none i [] k x h g = cc
    from_none i (y ∷ xs) k x h g = go k (p y) refl g h (λ j. from_none (i + 1) xs j x)
      where
        go : (k : ℕ) (b : Bool) → p y ≡ b → slice_get (y ∷ xs) k ≡ Some x → cond (p y) (Some i) (position_from p (i + 1) xs) ≡ None
            → ((j : ℕ) → position_from p (i + 1) xs ≡ None → slice_get xs j ≡ Some x → p x ≡ false) → p x ≡ false
        go k true e g h rest = absurd (none_is_some (sym (ap (λ c. cond c (Some i) (position_from p (i + 1) xs)) e) ∙ h))
        go zero false e g h rest = ap p (sym (some_is g)) ∙ e
        go (suc k) false e g h rest = rest k (sym (ap (λ c. cond c (Some i) (position_from p (i + 1) xs)) e) ∙ h) g

    pub unfound : (xs : List X) (k : ℕ) (x : X) → position p xs ≡ None → slice_get xs k ≡ Some x → p x ≡ false
    unfound xs k x h g = from_none 0 xs k x (sym (position_from-zero p xs) ∙ h) g

    from_later : (i j : ℕ) (xs : List X) → position_from p i xs ≡ None → position_from p j xs ≡ None
    from_later i j [] h = refl
    from_later i j (x ∷ xs) h = go (p x) h (from_later (i + 1) (j + 1) xs)
      where
        go : (b : Bool) → cond b (Some i) (position_from p (i + 1) xs) ≡ None → (position_from p (i + 1) xs ≡ None → position_from p (j + 1) xs ≡ None) → cond b (Some j) (position_from p (j + 1) xs) ≡ None
        go true h rest = cc
        go false h rest = rest h

    -- what is nowhere in a list is nowhere in its rest
    pub none_later : (x : X) (xs : List X) → p x ≡ false → position p (x ∷ xs) ≡ None → position p xs ≡ None
    none_later x xs e h =
        position_from-zero p xs
        ∙ from_later 1 0 xs (sym (ap (λ b. cond b (Some 0) (position_from p 1 xs)) e) ∙ (sym (position_from-zero p (x ∷ xs)) ∙ h))

    -- ---- one more element

    from_push : (i : ℕ) (xs : List X) (y : X) → position_from p i (xs ++ y ∷ []) ≡ option_or (position_from p i xs) (cond (p y) (Some (i + length xs)) None)
    from_push i [] y = let e : i ≡ i + 0 = omega arith in ap (λ n. cond (p y) (Some n) None) e
    from_push i (x ∷ xs) y = go (p x) (from_push (i + 1) xs y)
      where
        go : (b : Bool) → position_from p (i + 1) (xs ++ y ∷ []) ≡ option_or (position_from p (i + 1) xs) (cond (p y) (Some ((i + 1) + length xs)) None)
            → cond b (Some i) (position_from p (i + 1) (xs ++ y ∷ [])) ≡ option_or (cond b (Some i) (position_from p (i + 1) xs)) (cond (p y) (Some (i + suc (length xs))) None)
        go true h = refl
        go false h = let e : (i + 1) + length xs ≡ i + suc (length xs) = omega arith in h ∙ ap (λ n. option_or (position_from p (i + 1) xs) (cond (p y) (Some n) None)) e

    pub position-push : (xs : List X) (y : X) → position p (xs ++ y ∷ []) ≡ option_or (position p xs) (cond (p y) (Some (length xs)) None)
    position-push xs y =
        let e : 0 + length xs ≡ length xs = omega arith in
        position_from-zero p (xs ++ y ∷ []) ∙ (from_push 0 xs y
        ∙ (ap (λ n. option_or (position_from p 0 xs) (cond (p y) (Some n) None)) e
        ∙ ap (λ o. option_or o (cond (p y) (Some (length xs)) None)) (sym (position_from-zero p xs))))

    -- ---- the only place

    pub only_place : (xs : List X) (i : ℕ) (x : X) → slice_get xs i ≡ Some x → p x ≡ true → ((j : ℕ) (y : X) → slice_get xs j ≡ Some y → p y ≡ true → j ≡ i) → position p xs ≡ Some i
    only_place xs i x at passes only = go (position p xs) refl
      where
        go : (o : Option ℕ) → position p xs ≡ o → position p xs ≡ Some i
        go None e = absurd (true≢false (sym passes ∙ unfound xs i x e at))
        go (Some j) e = let f = found xs j e in e ∙ ap Some (only j f.0 f.1 f.2)

-- ---- among the values of a function

module _ {X Y : Type 0} (f : X → Y) (q : Y → Bool) where
  from_map : (i : ℕ) (xs : List X) → position_from (λ x. q (f x)) i xs ≡ position_from q i (map f xs)
  from_map i [] = refl
  from_map i (x ∷ xs) = ap (cond (q (f x)) (Some i)) (from_map (i + 1) xs)

  pub position-map : (xs : List X) → position (λ x. q (f x)) xs ≡ position q (map f xs)
  position-map xs = position_from-zero (λ (x : X). q (f x)) xs ∙ (from_map 0 xs ∙ sym (position_from-zero q (map f xs)))
