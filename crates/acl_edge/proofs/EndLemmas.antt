-- One call after another.
use Rattle.std.specs.Prelude.{◌≡◌, ℕ, ◌+◌, ◌≤◌, List, [], ◌++◌, length, take, drop, Option, Some, None, refl}
use Rattle.std.proofs.Common.{sym, ap, ◌∙◌, subst, arith}
use Rattle.std.proofs.lemmas.List.{append_assoc, append-nil, drop-drop, length-append, take-take, drop-take, take-append-drop}
use Rattle.acl_edge.specs.Outside.{Gives, Takes, TakesPart}

pub Takes-nothing : (a : Option (List ℕ)) → Takes a a []
Takes-nothing None = refl
Takes-nothing (Some w) = ap Some (sym (append-nil w))

pub Takes-then : (a b c : Option (List ℕ)) (x y : List ℕ) → Takes a b x → Takes b c y → Takes a c (x ++ y)
Takes-then None None c x y p q = q
Takes-then None (Some w) c x y p q = cc
Takes-then (Some v) None c x y p q = cc
Takes-then (Some v) (Some w) c x y p q = q ∙ ap Some (ap (λ (l : List ℕ). l ++ y) (some_same w (v ++ x) p) ∙ append_assoc v x y) where
  some_same : (l m : List ℕ) → (let o : Option (List ℕ) = Some l in o) ≡ Some m → l ≡ m
  some_same l m e = cc

pub Gives-nothing : (a : Option (List ℕ)) → Gives a a []
Gives-nothing None = refl
Gives-nothing (Some l) = (refl, refl)

pub Gives-then : (a b c : Option (List ℕ)) (x y : List ℕ) → Gives a b x → Gives b c y → Gives a c (x ++ y)
Gives-then None None c x y p q = q
Gives-then None (Some w) c x y p q = cc
Gives-then (Some v) None c x y p q = cc
Gives-then (Some v) (Some w) c x y p q =
    let at : w ≡ drop (length x) v = cc in
    let rest : drop (length y) w ≡ drop (length (x ++ y)) v =
    ap (drop (length y)) at ∙ (drop-drop (length y) (length x) v ∙ ap (λ n. drop n v) (sym (length-append x y))) in (
      q.0 ∙ ap Some rest,
      p.1 ∙ (ap (λ (l : List ℕ). x ++ l) (sym at ∙ q.1) ∙ (sym (append_assoc x y (drop (length y) w)) ∙ ap (λ (l : List ℕ). (x ++ y) ++ l) rest)),
    )

-- a first part, and a first part of what is left
pub take_sum : {A : Type 0} (n m : ℕ) (xs : List A) → take (n + m) xs ≡ take n xs ++ take m (drop n xs)
take_sum {A} n m xs =
    sym (take-append-drop n (take (n + m) xs)) ∙ (ap (λ (l : List A). l ++ drop n (take (n + m) xs)) (take-take n (n + m) xs (omega arith)) ∙ ap (λ (l : List A). take n xs ++ l) (drop-take n m xs))

pub Takes-more : (a b c : Option (List ℕ)) (bytes : List ℕ) (at n m k : ℕ) → m ≡ k → n ≤ k → Takes a b (take at bytes) → Takes b c (take n (take m (drop at bytes))) → Takes a c (take (at + n) bytes)
Takes-more a b c bytes at n m k e l p q =
    let P : List ℕ → Type 0 = λ x. Takes a c x in
    subst P (ap (λ (x : List ℕ). take at bytes ++ x) (take-take n m (drop at bytes) (omega arith)) ∙ sym (take_sum at n bytes)) (Takes-then a b c (take at bytes) (take n (take m (drop at bytes))) p q)

-- what was written before a refused write
pub stopped_part : (a b c : Option (List ℕ)) (bytes : List ℕ) (at : ℕ) → Takes a b (take at bytes) → c ≡ b → TakesPart a c bytes
stopped_part a b c bytes at t e =
    let P : Option (List ℕ) → Type 0 = λ o. Takes a o (take at bytes) in
    record { part = take at bytes; rest = drop at bytes; split = sym (take-append-drop at bytes); takes = subst P (sym e) t }
