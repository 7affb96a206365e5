-- Tables of names.
use Rattle.std.specs.Prelude.{◌≡◌, ℕ, zero, suc, ◌+◌, ◌<◌, List, [], ◌∷◌, ◌++◌, length, drop, Bool, true, false, not, ◌||◌, nat_eq, Option, Some, None, option_map, is_some, refl, if◌then◌else◌}
use Rattle.std.specs.Option.{option_or}
use Rattle.std.proofs.Common.{sym, ap, ◌∙◌, append_assoc, get_or, arith}
use Rattle.std.proofs.lemmas.List.{append-nil}
use Rattle.std.proofs.lemmas.Bool.Decides.{nat_tests}
use Rattle.model_terms.specs.Classes.{has}
use Rattle.model_expansion.specs.Faults.{DuplicateFormal}
use Rattle.model_events.specs.Declarations.{repeated_among}
use Rattle.acl_base.specs.declared.SymId.{SymId}
use Rattle.acl_terms.specs.Forms.{numbers}
use Rattle.acl_names.specs.Places.{last_place}
use Rattle.acl_declare.specs.Places.{is_at}

place_there : (o : Option ℕ) (b : Bool) → is_some (option_or (option_map suc o) (if b then Some 0 else None)) ≡ (b || is_some o)
place_there None true = refl
place_there None false = refl
place_there (Some i) true = refl
place_there (Some i) false = refl

pub is_placed : (x : ℕ) (ns : List ℕ) → is_some (last_place x ns) ≡ has ns x
is_placed x [] = refl
is_placed x (n ∷ ns) = place_there (last_place x ns) (nat_eq x n) ∙ ap (λ b. nat_eq x n || b) (is_placed x ns)

pub is_there : (x i : ℕ) (ns : List ℕ) → Some i ≡ last_place x ns → has ns x ≡ true
is_there x i ns e = sym (is_placed x ns) ∙ ap is_some (sym e)

pub is_nowhere : (x : ℕ) (ns : List ℕ) → None ≡ last_place x ns → has ns x ≡ false
is_nowhere x ns e = sym (is_placed x ns) ∙ ap is_some (sym e)

-- ---- names that come again

has_push : (ns : List ℕ) (x y : ℕ) → has (ns ++ x ∷ []) y ≡ has (x ∷ ns) y
has_push [] x y = refl
has_push (n ∷ ns) x y = ap (λ b. nat_eq y n || b) (has_push ns x y) ∙ swapped (nat_eq y n) (nat_eq y x) (has ns y)
  where
    swapped : (a b c : Bool) → (a || (b || c)) ≡ (b || (a || c))
    swapped true true c = refl
    swapped true false c = refl
    swapped false true c = refl
    swapped false false c = refl

alike : (xs ns ms : List ℕ) → ((y : ℕ) → has ns y ≡ has ms y) → repeated_among ns xs ≡ repeated_among ms xs
alike [] ns ms e = refl
alike (x ∷ xs) ns ms e = rw (e x) (ap (λ r. if has ms x then Some (DuplicateFormal x) else r) (alike xs (x ∷ ns) (x ∷ ms) (λ y. ap (λ b. nat_eq y x || b) (e y))))

pub repeated_other : (ns : List ℕ) (x : SymId) (rest others : List SymId) → rest ≡ x ∷ others → has ns x.0 ≡ false → repeated_among ns (numbers rest) ≡ repeated_among (ns ++ x.0 ∷ []) (numbers others)
repeated_other ns x rest others e f = rw (e, f) (alike (numbers others) (x.0 ∷ ns) (ns ++ x.0 ∷ []) (λ y. sym (has_push ns x.0 y)))

pub repeated_found : (ns : List ℕ) (x : SymId) (rest others : List SymId) → rest ≡ x ∷ others → has ns x.0 ≡ true → repeated_among ns (numbers rest) ≡ Some (DuplicateFormal x.0)
repeated_found ns x rest others e f = rw (e, f) refl

pub repeated_end : (ns : List ℕ) (rest : List SymId) → rest ≡ [] → repeated_among ns (numbers rest) ≡ None
repeated_end ns rest e = rw e refl

-- ---- a table of all

pub table_more : (ns : List ℕ) (x : SymId) (rest others : List SymId) → rest ≡ x ∷ others → ns ++ numbers rest ≡ (ns ++ x.0 ∷ []) ++ numbers others
table_more ns x rest others e = rw e (sym (append_assoc ns (x.0 ∷ []) (numbers others)))

pub table_end : (ns : List ℕ) (rest : List SymId) → rest ≡ [] → ns ++ numbers rest ≡ ns
table_end ns rest e = rw e (append-nil ns)

-- ---- whether a name comes again behind its place

last_of : (x : ℕ) (n : ℕ) (ns : List ℕ) (i : ℕ) → last_place x ns ≡ Some i → last_place x (n ∷ ns) ≡ Some (suc i)
last_of x n ns i e = rw e refl

some_place : (x i d : ℕ) (ns : List ℕ) → i < length ns → get_or ns i d ≡ x → (j : ℕ) × (last_place x ns ≡ Some j)
some_place x i d [] l e = let no : ⊥ = omega (arith, l) in elim no [ ]
some_place x zero d (n ∷ ns) l e = by (last_place x ns) refl
  where
    by : (o : Option ℕ) → last_place x ns ≡ o → (j : ℕ) × (last_place x (n ∷ ns) ≡ Some j)
    by None f = let t : nat_eq x n ≡ true = grind (arith, nat_tests) in (0, rw (f, t) refl)
    by (Some j) f = (suc j, last_of x n ns j f)
some_place x (suc i) d (n ∷ ns) l e = let s = some_place x i d ns (omega arith) e in (suc s.0, last_of x n ns s.0 s.1)

both_more : (a b : ℕ) → nat_eq (suc a) (suc b) ≡ nat_eq a b
both_more a b = by (nat_eq a b) refl
  where
    by : (c : Bool) → nat_eq a b ≡ c → nat_eq (suc a) (suc b) ≡ nat_eq a b
    by true e = let g : nat_eq (suc a) (suc b) ≡ true = grind (arith, nat_tests) in rw (g, e) refl
    by false e = let g : nat_eq (suc a) (suc b) ≡ false = grind (arith, nat_tests) in rw (g, e) refl

pub again : (x i d : ℕ) (ns : List ℕ) → i < length ns → get_or ns i d ≡ x → has (drop (suc i) ns) x ≡ not (is_at i (last_place x ns))
again x i d [] l e = let no : ⊥ = omega (arith, l) in elim no [ ]
again x zero d (n ∷ ns) l e = sym (is_placed x ns) ∙ by (last_place x ns)
  where
    by : (o : Option ℕ) → is_some o ≡ not (is_at 0 (option_or (option_map suc o) (if nat_eq x n then Some 0 else None)))
    by None = let t : nat_eq x n ≡ true = grind (arith, nat_tests) in rw t refl
    by (Some j) = let f : nat_eq (suc j) 0 ≡ false = grind (arith, nat_tests) in rw f refl
again x (suc i) d (n ∷ ns) l e =
    let s = some_place x i d ns (omega arith) e in
    again x i d ns (omega arith) e ∙ (ap (λ o. not (is_at i o)) s.1 ∙ (ap not (sym (both_more s.0 i)) ∙ sym (ap (λ o. not (is_at (suc i) o)) (last_of x n ns s.0 s.1))))
