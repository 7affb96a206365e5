-- How deep tests of declared types are.
use Rattle.std.specs.Prelude.{◌≡◌, ℕ, ◌-◌, ◌≤◌, ◌<◌, List, [], ◌∷◌, Bool, true, false, nat_le, Option, Some, None, option_and_then, is_some, refl, if◌then◌else◌}
use Rattle.std.proofs.Common.{sym, ap, ◌∙◌, arith}
use Rattle.std.proofs.lemmas.Bool.Decides.{nat_tests}
use Rattle.model_objects.specs.Object.{Object}
use Rattle.model_terms.specs.Cores.{Core, Var}
use Rattle.model_expansion.specs.TypeTerms.{depth_of, joined_tests, plain_test, shallow, type_term, declared_test}
use Rattle.acl_types.specs.declared.shape.Join.{Join}
use Rattle.acl_types.specs.declared.shape.Join.TheVariants as join
use Rattle.acl_types.specs.Shapes.{type_in, tested, within, join_test}
use Rattle.acl_types.proofs.DepthLemmas.{within_joined, type_test_is}
use Rattle.acl_declare.specs.Tests.{one_test, list_test, empty_test, predicate_test}

-- ---- types as fields have them

no_test : (n : ℕ) (t : Option Core) → is_some (within n t) ≡ false → within n t ≡ None
no_test n t e = go (within n t) e
  where
    go : (s : Option Core) → is_some s ≡ false → s ≡ None
    go None e = refl
    go (Some f) e = cc

pub plain_none : (n x : ℕ) (o : Object ℕ) → is_some (within n (tested x (type_in o))) ≡ false → within n (plain_test (Var x) o) ≡ None
plain_none n x o e = no_test n (tested x (type_in o)) e

at_most : (n : ℕ) (t : Option Core) → is_some (within n t) ≡ true → n ≤ 200 → within n t ≡ within 200 t
at_most n None e l = refl
at_most n (Some f) e l = by (nat_le (depth_of f) n) refl
  where
    by : (b : Bool) → nat_le (depth_of f) n ≡ b → within n (Some f) ≡ within 200 (Some f)
    by true g = let k : nat_le (depth_of f) 200 ≡ true = grind (arith, nat_tests) in rw (g, k) refl
    by false g = let no : false ≡ true = rw g at e in cc

pub plain_some : (n x : ℕ) (o : Object ℕ) (t : Option Core) → is_some (within n (tested x (type_in o))) ≡ true → n ≤ 200 → t ≡ type_term o (Var x) → t ≡ within n (plain_test (Var x) o)
plain_some n x o t e l f = f ∙ (sym (type_test_is o x) ∙ sym (at_most n (tested x (type_in o)) e l))

-- ---- small tests

pub predicate_none : (n x p : ℕ) → n < 2 → within n (Some (predicate_test x p)) ≡ None
predicate_none n x p l = let g : nat_le 2 n ≡ false = grind (arith, nat_tests) in rw g refl

pub predicate_some : (n x p : ℕ) → 2 ≤ n → within n (Some (predicate_test x p)) ≡ Some (predicate_test x p)
predicate_some n x p l = let g : nat_le 2 n ≡ true = grind (arith, nat_tests) in rw g refl

pub within_empty : (n : ℕ) (j : Join) → 0 < n → within n (Some (empty_test j)) ≡ Some (empty_test j)
within_empty n join.Either l = let g : nat_le 1 n ≡ true = grind (arith, nat_tests) in rw g refl
within_empty n join.Both l = let g : nat_le 1 n ≡ true = grind (arith, nat_tests) in rw g refl

-- ---- whole types

pub shallow_is : (x : ℕ) (t : Option Core) → within 200 t ≡ option_and_then (shallow (Var x)) t
shallow_is x None = refl
shallow_is x (Some f) = refl

-- the join of two tests that were made one after the other
pub joined_made : (n x : ℕ) (j : Join) (a d d' : Object ℕ) (first later second s t : Option Core) (made : Option Core)
    → 0 < n → later ≡ first → first ≡ within (n - 1) s → s ≡ one_test x a
    → second ≡ within (n - 1) t → t ≡ list_test x j d' → d' ≡ d → made ≡ joined_tests (join_test j) later second
    → made ≡ within n (joined_tests (join_test j) (one_test x a) (list_test x j d))
joined_made n x j a d d' first later second s t made l kept f is g it same m =
    m ∙ (rw (kept, f, is, g, it, same) (sym (within_joined n j (one_test x a) (list_test x j d) l)))
