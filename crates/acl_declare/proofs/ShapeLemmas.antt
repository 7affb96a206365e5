-- What an object is as a type of a declaration, by its parts.
use Rattle.std.specs.Prelude.{◌≡◌, ℕ, List, [], ◌∷◌, ℤ, Bool, true, false, nat_eq, Option, Some, None, option_map, refl}
use Rattle.std.proofs.Common.{sym, ap, ◌∙◌}
use Rattle.model_objects.specs.Object.{Object, Integer, Symbol, Text, Pair}
use Rattle.model_lists.specs.Types.{only_element}
use Rattle.model_terms.specs.Cores.{Core, Var}
use Rattle.model_expansion.specs.TypeTerms.{not_core, joined_tests, either_test, both_test, false_core, true_core, predicate_in, denied_test}
use Rattle.acl_heap.specs.Objects.{Objects}
use Rattle.acl_types.specs.declared.shape.Join.{Join}
use Rattle.acl_types.specs.declared.shape.Join.TheVariants as join
use Rattle.acl_types.specs.Shapes.{join_test}
use Rattle.acl_declare.specs.Tests.{one_test, list_test, empty_test, predicate_test}

-- ---- predicates

pub predicate_none : (x : ℕ) (d : Object ℕ) → only_element d ≡ None → option_map (predicate_test x) (predicate_in (only_element d)) ≡ None
predicate_none x d e = rw e refl

pub predicate_is : (x p : ℕ) (d a : Object ℕ) → d ≡ Pair a (Symbol 1) → a ≡ Symbol p → option_map (predicate_test x) (predicate_in (only_element d)) ≡ Some (predicate_test x p)
predicate_is x p d a e f = rw (e, f) refl

pub predicate_integer : (x : ℕ) (d a : Object ℕ) (n : ℤ) → d ≡ Pair a (Symbol 1) → a ≡ Integer n → option_map (predicate_test x) (predicate_in (only_element d)) ≡ None
predicate_integer x d a n e f = rw (e, f) refl

pub predicate_text : (x : ℕ) (d a : Object ℕ) (bytes : List ℕ) → d ≡ Pair a (Symbol 1) → a ≡ Text bytes → option_map (predicate_test x) (predicate_in (only_element d)) ≡ None
predicate_text x d a bytes e f = rw (e, f) refl

pub predicate_pair : (x : ℕ) (d a b c : Object ℕ) → d ≡ Pair a (Symbol 1) → a ≡ Pair b c → option_map (predicate_test x) (predicate_in (only_element d)) ≡ None
predicate_pair x d a b c e f = rw (e, f) refl

-- ---- lists of types

either_one : (t : Option Core) → joined_tests (either_test true) t (Some false_core) ≡ t
either_one None = refl
either_one (Some f) = refl

both_one : (t : Option Core) → joined_tests (both_test true) t (Some true_core) ≡ t
both_one None = refl
both_one (Some f) = refl

pub joined_last : (x : ℕ) (j : Join) (a d : Object ℕ) → d ≡ Symbol 1 → list_test x j (Pair a d) ≡ one_test x a
joined_last x join.Either a d e = rw e (either_one (one_test x a))
joined_last x join.Both a d e = rw e (both_one (one_test x a))

pub not_is : (x : ℕ) (d a : Object ℕ) → d ≡ Pair a (Symbol 1) → option_map not_core (one_test x a) ≡ denied_test (Var x) (only_element d) (list_test x join.Either d)
not_is x d a e = rw e (ap (option_map not_core) (sym (either_one (one_test x a))))

pub not_none : (x : ℕ) (d : Object ℕ) → only_element d ≡ None → denied_test (Var x) (only_element d) (list_test x join.Either d) ≡ None
not_none x d e = rw e refl

pub joined_more : (x : ℕ) (j : Join) (a d b e : Object ℕ) → d ≡ Pair b e → joined_tests (join_test j) (one_test x a) (list_test x j d) ≡ list_test x j (Pair a d)
joined_more x join.Either a d b e f = rw f refl
joined_more x join.Both a d b e f = rw f refl

none_left : (f : Core → Core → Core) (t : Option Core) → joined_tests f t None ≡ None
none_left f None = refl
none_left f (Some t) = refl

bad : (x : ℕ) (j : Join) (a d : Object ℕ) → list_test x j d ≡ None → list_test x j (Pair a d) ≡ None
bad x join.Either a d e = rw e (none_left _ (one_test x a))
bad x join.Both a d e = rw e (none_left _ (one_test x a))

no_integers : (x : ℕ) (j : Join) (n : ℤ) → list_test x j (Integer n) ≡ None
no_integers x join.Either n = refl
no_integers x join.Both n = refl

no_texts : (x : ℕ) (j : Join) (bytes : List ℕ) → list_test x j (Text bytes) ≡ None
no_texts x join.Either bytes = refl
no_texts x join.Both bytes = refl

no_symbols : (x : ℕ) (j : Join) (s : ℕ) → nat_eq s 1 ≡ false → list_test x j (Symbol s) ≡ None
no_symbols x join.Either s e = rw e refl
no_symbols x join.Both s e = rw e refl

pub bad_integer : (x : ℕ) (j : Join) (a d : Object ℕ) (n : ℤ) → d ≡ Integer n → list_test x j (Pair a d) ≡ None
bad_integer x j a d n e = bad x j a d (ap (list_test x j) e ∙ no_integers x j n)

pub bad_text : (x : ℕ) (j : Join) (a d : Object ℕ) (bytes : List ℕ) → d ≡ Text bytes → list_test x j (Pair a d) ≡ None
bad_text x j a d bytes e = bad x j a d (ap (list_test x j) e ∙ no_texts x j bytes)

pub bad_symbol : (x : ℕ) (j : Join) (a d : Object ℕ) (s : ℕ) → d ≡ Symbol s → nat_eq s 1 ≡ false → list_test x j (Pair a d) ≡ None
bad_symbol x j a d s e f = bad x j a d (ap (list_test x j) e ∙ no_symbols x j s f)

pub list_none : (x : ℕ) (j : Join) (d : Object ℕ) (s : ℕ) → d ≡ Symbol s → s ≡ 1 → list_test x j d ≡ Some (empty_test j)
list_none x join.Either d s e f = rw (e, f) refl
list_none x join.Both d s e f = rw (e, f) refl

pub list_symbol : (x : ℕ) (j : Join) (d : Object ℕ) (s : ℕ) → d ≡ Symbol s → nat_eq s 1 ≡ false → list_test x j d ≡ None
list_symbol x j d s e f = ap (list_test x j) e ∙ no_symbols x j s f

pub list_integer : (x : ℕ) (j : Join) (d : Object ℕ) (n : ℤ) → d ≡ Integer n → list_test x j d ≡ None
list_integer x j d n e = ap (list_test x j) e ∙ no_integers x j n

pub list_text : (x : ℕ) (j : Join) (d : Object ℕ) (bytes : List ℕ) → d ≡ Text bytes → list_test x j d ≡ None
list_text x j d bytes e = ap (list_test x j) e ∙ no_texts x j bytes
