-- Names that do not stand twice, by those that stand before.
use Rattle.std.specs.Prelude.{◌≡◌, ℕ, suc, List, [], ◌∷◌, ◌++◌, Bool, true, false, not, ◌&&◌, ◌||◌, nat_eq, Option, Some, None, option_map, is_some, refl, if◌then◌else◌}
use Rattle.std.specs.Option.{option_or}
use Rattle.std.proofs.Common.{sym, ap, ◌∙◌, arith}
use Rattle.std.proofs.lemmas.Bool.Decides.{nat_tests}
use Rattle.model_terms.specs.Classes.{has}
use Rattle.model_expansion.specs.Forms.{are_different}
use Rattle.acl_base.specs.declared.SymId.{SymId}
use Rattle.acl_names.specs.Places.{last_place}
use Rattle.acl_terms.specs.Forms.{numbers}

-- ---- a table

place_there : (o : Option ℕ) (b : Bool) → is_some (option_or (option_map suc o) (if b then Some 0 else None)) ≡ (b || is_some o)
place_there None true = refl
place_there None false = refl
place_there (Some i) true = refl
place_there (Some i) false = refl

is_placed : (x : ℕ) (ns : List ℕ) → is_some (last_place x ns) ≡ has ns x
is_placed x [] = refl
is_placed x (n ∷ ns) = place_there (last_place x ns) (nat_eq x n) ∙ ap (λ b. nat_eq x n || b) (is_placed x ns)

pub is_there : (x i : ℕ) (ns : List ℕ) → Some i ≡ last_place x ns → has ns x ≡ true
is_there x i ns e = sym (is_placed x ns) ∙ ap is_some (sym e)

pub is_nowhere : (x : ℕ) (ns : List ℕ) → None ≡ last_place x ns → has ns x ≡ false
is_nowhere x ns e = sym (is_placed x ns) ∙ ap is_some (sym e)

-- ---- names behind others

-- none of these stands among those before, and none twice
abbrev pub apart_from : List ℕ → List ℕ → Bool
apart_from before [] = true
apart_from before (x ∷ xs) = not (has before x) && apart_from (before ++ x ∷ []) xs

-- none of these stands among those before
abbrev free_of : List ℕ → List ℕ → Bool
free_of before [] = true
free_of before (x ∷ xs) = not (has before x) && free_of before xs

has_push : (ns : List ℕ) (x y : ℕ) → has (ns ++ x ∷ []) y ≡ (nat_eq x y || has ns y)
has_push [] x y = ap (λ b. b || false) either_order
  where
    either_order : nat_eq y x ≡ nat_eq x y
    either_order = grind (arith, nat_tests)
has_push (n ∷ ns) x y = ap (λ b. nat_eq y n || b) (has_push ns x y) ∙ swapped (nat_eq y n) (nat_eq x y) (has ns y)
  where
    swapped : (a b c : Bool) → (a || (b || c)) ≡ (b || (a || c))
    swapped true true c = refl
    swapped true false c = refl
    swapped false true c = refl
    swapped false false c = refl

free_push : (ns : List ℕ) (x : ℕ) (xs : List ℕ) → free_of (ns ++ x ∷ []) xs ≡ (not (has xs x) && free_of ns xs)
free_push ns x [] = refl
free_push ns x (y ∷ ys) = rw (has_push ns x y, free_push ns x ys) (swapped (nat_eq x y) (has ns y) (has ys x) (free_of ns ys))
  where
    swapped : (a b c d : Bool) → (not (a || b) && (not c && d)) ≡ (not (a || c) && (not b && d))
    swapped true b c d = refl
    swapped false true true d = refl
    swapped false true false d = refl
    swapped false false true d = refl
    swapped false false false d = refl

apart_split : (ns xs : List ℕ) → apart_from ns xs ≡ (are_different xs && free_of ns xs)
apart_split ns [] = refl
apart_split ns (x ∷ xs) = rw (apart_split (ns ++ x ∷ []) xs, free_push ns x xs) (swapped (has ns x) (has xs x) (are_different xs) (free_of ns xs))
  where
    swapped : (a b c d : Bool) → (not a && (c && (not b && d))) ≡ ((not b && c) && (not a && d))
    swapped true true c d = refl
    swapped true false true d = refl
    swapped true false false d = refl
    swapped false true true d = refl
    swapped false true false d = refl
    swapped false false true d = refl
    swapped false false false d = refl

free_of_none : (xs : List ℕ) → free_of [] xs ≡ true
free_of_none [] = refl
free_of_none (x ∷ xs) = free_of_none xs

pub apart_from_none : (xs : List ℕ) → are_different xs ≡ apart_from [] xs
apart_from_none xs = sym (apart_split [] xs ∙ (ap (λ b. are_different xs && b) (free_of_none xs) ∙ whole (are_different xs)))
  where
    whole : (b : Bool) → (b && true) ≡ b
    whole true = refl
    whole false = refl

pub apart_other : (ns : List ℕ) (x : SymId) (rest others : List SymId) → rest ≡ x ∷ others → has ns x.0 ≡ false → apart_from ns (numbers rest) ≡ apart_from (ns ++ x.0 ∷ []) (numbers others)
apart_other ns x rest others e f = rw (e, f) refl

pub apart_found : (ns : List ℕ) (x : SymId) (rest others : List SymId) → rest ≡ x ∷ others → has ns x.0 ≡ true → apart_from ns (numbers rest) ≡ false
apart_found ns x rest others e f = rw (e, f) refl

pub apart_end : (ns : List ℕ) (rest : List SymId) → rest ≡ [] → apart_from ns (numbers rest) ≡ true
apart_end ns rest e = rw e refl
