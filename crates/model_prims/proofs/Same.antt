-- The test for equal objects tells whether they are equal.
use Rattle.std.specs.Prelude.{◌≡◌, ℕ, Bool, true, false, IsTrue, ◌↔◌, ◌&&◌, refl}
use Rattle.std.proofs.Common.{ap, sym, ◌∙◌}
use Rattle.std.proofs.lemmas.Bool.Decides.{Decides-eqb, Decides-int_eq}
use Rattle.std.proofs.lemmas.Slice.Eq.{bytes_eq-Decides}
use Rattle.model_objects.specs.Object.{Object, Integer, Symbol, Text, Pair}
use Rattle.model_prims.specs.Kinds.{by_number, same_object}

pub same_itself : (x : Object ℕ) → same_object by_number x x ≡ true
same_itself (Integer n) = (Decides-int_eq n n).1 refl
same_itself (Symbol s) = (Decides-eqb s s).1 refl
same_itself (Text bytes) = (bytes_eq-Decides bytes bytes).1 refl
same_itself (Pair a d) = rw (same_itself a, same_itself d) refl

both : (a b : Bool) → (a && b) ≡ true → (a ≡ true) × (b ≡ true)
both true b e = (refl, e)
both false b e = cc

pub same_tells : (x y : Object ℕ) → same_object by_number x y ≡ true → x ≡ y
same_tells (Integer m) (Integer n) e = ap Integer ((Decides-int_eq m n).0 e)
same_tells (Integer m) (Symbol t) e = cc
same_tells (Integer m) (Text b) e = cc
same_tells (Integer m) (Pair b f) e = cc
same_tells (Symbol s) (Integer n) e = cc
same_tells (Symbol s) (Symbol t) e = ap Symbol ((Decides-eqb s t).0 e)
same_tells (Symbol s) (Text b) e = cc
same_tells (Symbol s) (Pair b f) e = cc
same_tells (Text a) (Integer n) e = cc
same_tells (Text a) (Symbol t) e = cc
same_tells (Text a) (Text b) e = ap Text ((bytes_eq-Decides a b).0 e)
same_tells (Text a) (Pair b f) e = cc
same_tells (Pair a d) (Integer n) e = cc
same_tells (Pair a d) (Symbol t) e = cc
same_tells (Pair a d) (Text b) e = cc
same_tells (Pair a d) (Pair b f) e =
    let parts : (same_object by_number a b ≡ true) × (same_object by_number d f ≡ true) = both (same_object by_number a b) (same_object by_number d f) e in
    rw (same_tells a b parts.0, same_tells d f parts.1) refl

unless : (x y : Object ℕ) → ((x ≡ y) → false ≡ true) → (r : Bool) → same_object by_number x y ≡ r → false ≡ r
unless x y h false e = refl
unless x y h true e = h (same_tells x y e)

pub same_objects : (x y : Object ℕ) (b : Bool) → (IsTrue b ↔ (x ≡ y)) → b ≡ same_object by_number x y
same_objects x y true h = sym (ap (same_object by_number x) (sym (h.0 refl)) ∙ same_itself x)
same_objects x y false h = unless x y h.1 (same_object by_number x y) refl
