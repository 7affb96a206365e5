-- The table of primitives, computed.
use Rattle.std.specs.Prelude.{◌≡◌, ℕ, zero, suc, ◌≤◌, List, [], ◌∷◌, length, map, Bool, true, false, not, ◌&&◌, Option, Some, None, nat_eq, slice_get, unwrap_or, refl}
use Rattle.std.specs.List.{AllByRecursion, IsDistinct}
use Rattle.std.proofs.Common.{ap, sym, ◌∙◌, arith}
use Rattle.acl_base.specs.declared.SymId.{SymId}
use Rattle.acl_heap.specs.Objects.{Objects}
use Rattle.acl_terms.specs.Definitions.{seen_definitions, definitions_reach}
use Rattle.acl_worlds.specs.Contents.{primitives_from, names_in}
use Rattle.model_prims.specs.Rows.{Row, table, no_row}
use Rattle.model_books.specs.Opening.{primitive_numbers, primitives_named}
use Rattle.acl_opening.specs.Opened.{AreOpening}

-- ---- names that are different, by a test

abbrev pub differs : ℕ → List ℕ → Bool
differs x [] = true
differs x (y ∷ ys) = not (nat_eq x y) && differs x ys

abbrev pub all_differ : List ℕ → Bool
all_differ [] = true
all_differ (x ∷ xs) = differs x xs && all_differ xs

not_true : (b : Bool) → not b ≡ true → b ≡ false
not_true true h = cc
not_true false h = refl

both_true : {A : Type 0} (a b : Bool) → (a && b) ≡ true → (a ≡ true → b ≡ true → A) → A
both_true true b h go = go refl h
both_true false b h go = cc

all_other : (x : ℕ) (ys : List ℕ) → differs x ys ≡ true → AllByRecursion (λ y. nat_eq x y ≡ false) ys
all_other x [] h = tt
all_other x (y ∷ ys) h = both_true (not (nat_eq x y)) (differs x ys) h (λ a b. (not_true (nat_eq x y) a, all_other x ys b))

pub distinct_by_test : (xs : List ℕ) → all_differ xs ≡ true → IsDistinct nat_eq xs
unfolding IsDistinct
distinct_by_test [] h = tt
distinct_by_test (x ∷ xs) h = both_true (differs x xs) (all_differ xs) h (λ a b. (all_other x xs a, distinct_by_test xs b))

-- ---- numbers of arguments

none_some : {A : Type 0} {x : A} → None ≡ Some x → ⊥
none_some h = cc

some_is : {A : Type 0} {x y : A} → Some x ≡ Some y → x ≡ y
some_is h = cc

first_same : {m n : ℕ} {ms ns : List ℕ} → m ∷ ms ≡ n ∷ ns → m ≡ n
first_same h = cc

rest_same : {m n : ℕ} {ms ns : List ℕ} → m ∷ ms ≡ n ∷ ns → ms ≡ ns
rest_same h = cc

no_cons : {m : ℕ} {ms : List ℕ} → m ∷ ms ≡ [] → ⊥
no_cons h = cc

pub arities_by_list : (ps : List (SymId × ℕ)) (rows : List Row) → map (λ p. p.1) ps ≡ map (λ (r : Row). r.arity) rows
    → (n : ℕ) (p : SymId × ℕ) → slice_get ps n ≡ Some p → p.1 ≡ (unwrap_or (slice_get rows n) no_row).arity
arities_by_list [] rows e n p h = absurd (none_some h)
arities_by_list (q ∷ ps) [] e n p h = absurd (no_cons e)
arities_by_list (q ∷ ps) (r ∷ rows) e zero p h = sym (ap (λ (x : SymId × ℕ). x.1) (some_is h)) ∙ first_same e
arities_by_list (q ∷ ps) (r ∷ rows) e (suc n) p h = arities_by_list ps rows (rest_same e) n p h

-- ---- all of it

pub are_opening : (ps : List (SymId × ℕ)) → all_differ (map (λ p. p.0.0) ps) ≡ true → length ps ≡ length table → map (λ p. p.1) ps ≡ map (λ (r : Row). r.arity) table
    → ((h : Objects) → seen_definitions h (primitives_from 0 ps) ≡ primitives_named primitive_numbers table) → names_in (primitives_from 0 ps) ≡ primitive_numbers
    → definitions_reach (primitives_from 0 ps) ≡ 0 → AreOpening ps
are_opening ps differ count arities seen names reach = record {
  primitives = record { distinct = distinct_by_test (map (λ p. p.0.0) ps) differ; rows = omega (arith, count); arities = arities_by_list ps table arities };
  seen = seen;
  names = names;
  reach = reach;
}
