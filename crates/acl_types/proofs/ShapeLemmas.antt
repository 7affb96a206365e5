-- What an object is as a type, by its parts.
use Rattle.std.specs.Prelude.{◌≡◌, ℕ, zero, suc, ◌+◌, ◌-◌, ◌^◌, ◌≤◌, ◌<◌, List, [], ◌∷◌, length, max, ℤ, pos, negsuc, neg_ℤ, ◌+ℤ◌, int_lt, Bool, true, false, nat_eq, nat_le, Option, Some, None, option_map, refl, if◌then◌else◌}
use Rattle.std.proofs.Common.{sym, ap, ◌∙◌, subst, arith}
use Rattle.std.proofs.lemmas.Bool.Decides.{nat_tests}
use Rattle.std.proofs.Math.Pow.{pow_mono}
use Rattle.std.proofs.lemmas.Nat.{pow_pos}
use Rattle.model_objects.specs.Object.{Object, Integer, Symbol, Text, Pair, weight}
use Rattle.model_lists.specs.Types.{ValueType, Nothing, Anything, Integers, Either, Both, Other, reading, only_element, bound_of, bits_of, range_of, range_between, unsigned_type, signed_type, denied, joined}
use Rattle.model_terms.specs.Cores.{Core, Var, Const}
use Rattle.model_expansion.specs.TypeTerms.{not_core, range_test, test_of, joined_tests, either_test, both_test}
use Rattle.acl_heap.specs.Objects.{Objects}
use Rattle.acl_types.specs.declared.shape.Join.{Join}
use Rattle.acl_types.specs.declared.shape.Join.TheVariants as join
use Rattle.acl_types.specs.Shapes.{type_in, joined_in, tested, join_test, none_of, seen_leaf}

-- ---- ranges

pub range_many : (x : ℕ) (low d : Object ℕ) → only_element d ≡ None → tested x (range_of (Pair low d)) ≡ None
range_many x low d e = rw e refl

pub range_low : (x : ℕ) (low d a : Object ℕ) → d ≡ Pair a (Symbol 1) → bound_of low ≡ None → tested x (range_of (Pair low d)) ≡ None
range_low x low d a e f = rw (e, f) refl

pub range_high : (x : ℕ) (low d a : Object ℕ) (m : Option ℤ) → d ≡ Pair a (Symbol 1) → bound_of low ≡ Some m → bound_of a ≡ None → tested x (range_of (Pair low d)) ≡ None
range_high x low d a m e f g = rw (e, f, g) refl

pub range_is : (x : ℕ) (low d a : Object ℕ) (m n : Option ℤ) → d ≡ Pair a (Symbol 1) → bound_of low ≡ Some m → bound_of a ≡ Some n → tested x (range_of (Pair low d)) ≡ Some (range_test m n (Var x))
range_is x low d a m n e f g = rw (e, f, g) refl

-- ---- bits

pub few_bits : (n : ℤ) (most : ℕ) → int_lt n (pos 1) ≡ true → bits_of most (Some (Integer n)) ≡ None
few_bits (pos zero) most e = refl
few_bits (pos (suc k)) most e = grind (arith, nat_tests)
few_bits (negsuc k) most e = refl

pub many_bits : (n : ℤ) (most : ℕ) → int_lt (pos most) n ≡ true → bits_of most (Some (Integer n)) ≡ None
many_bits (pos k) most e = grind (arith, nat_tests)
many_bits (negsuc k) most e = refl

pub so_many_bits : (k most : ℕ) → 1 ≤ k → k ≤ most → bits_of most (Some (Integer (pos k))) ≡ Some k
so_many_bits k most l m = grind (arith, nat_tests)

pub no_bits : (most : ℕ) (d : Object ℕ) → only_element d ≡ None → bits_of most (only_element d) ≡ None
no_bits most d e = rw e refl

pub only_is : (d a : Object ℕ) → d ≡ Pair a (Symbol 1) → only_element d ≡ Some a
only_is d a e = rw e refl

pub power_fits : (k : ℕ) → k < 128 → 2 ^ k ≤ 2 ^ 127
power_fits k l = let m : k ≤ 127 = omega arith in pow_mono {j = 127} m

pub ones_fit : (k : ℕ) → 0 < 2 ^ k
ones_fit k = pow_pos k

pub unsigned_none : (x : ℕ) (b : Option ℕ) → b ≡ None → tested x (unsigned_type b) ≡ None
unsigned_none x b e = rw e refl

pub unsigned_some : (x : ℕ) (b : Option ℕ) (k : ℕ) → b ≡ Some k → tested x (unsigned_type b) ≡ Some (range_test (Some (pos 0)) (Some (pos (2 ^ k - 1))) (Var x))
unsigned_some x b k e = rw e refl

pub signed_none : (x : ℕ) (b : Option ℕ) → b ≡ None → tested x (signed_type b) ≡ None
signed_none x b e = rw e refl

pub signed_some : (x : ℕ) (b : Option ℕ) (k : ℕ) → b ≡ Some k
    → tested x (signed_type b) ≡ Some (range_test (Some (neg_ℤ (pos (2 ^ (k - 1) - 1) +ℤ pos 1))) (Some (pos (2 ^ (k - 1) - 1))) (Var x))
signed_some x b k e =
    let p = pow_pos (k - 1) in let back : 2 ^ (k - 1) - 1 + 1 ≡ 2 ^ (k - 1) = omega (arith, p) in rw (e, back) refl

-- ---- lists of types

either_one : (t : Option (ValueType ℕ)) (x : ℕ) → tested x (joined Either t (Some Nothing)) ≡ tested x t
either_one None x = refl
either_one (Some t) x = refl

both_one : (t : Option (ValueType ℕ)) (x : ℕ) → tested x (joined Both t (Some Anything)) ≡ tested x t
both_one None x = refl
both_one (Some t) x = refl

other_one : (t : Option (ValueType ℕ)) (x : ℕ) → tested x (denied (Some (Symbol 1)) (joined Either t (Some Nothing))) ≡ option_map not_core (tested x t)
other_one None x = refl
other_one (Some t) x = refl

denied_alike : (a b : Object ℕ) (t : Option (ValueType ℕ)) → denied (Some a) t ≡ denied (Some b) t
denied_alike a b None = refl
denied_alike a b (Some t) = refl

pub not_is : (x : ℕ) (d a : Object ℕ) → d ≡ Pair a (Symbol 1) → option_map not_core (tested x (type_in a)) ≡ tested x (denied (only_element d) (joined_in join.Either d))
not_is x d a e = rw e (sym (ap (tested x) (denied_alike a (Symbol 1) (joined Either (type_in a) (Some Nothing))) ∙ other_one (type_in a) x))

pub not_none : (x : ℕ) (d : Object ℕ) → only_element d ≡ None → tested x (denied (only_element d) (joined_in join.Either d)) ≡ None
not_none x d e = rw e refl

pub joined_last : (x : ℕ) (j : Join) (a d : Object ℕ) → d ≡ Symbol 1 → tested x (joined_in j (Pair a d)) ≡ tested x (type_in a)
joined_last x join.Either a d e = rw e (either_one (type_in a) x)
joined_last x join.Both a d e = rw e (both_one (type_in a) x)

-- a list of two or more is a join of types itself
either_more : (x : ℕ) (t s r : Option (ValueType ℕ)) → tested x (joined Either t (joined Either s r)) ≡ joined_tests (either_test false) (tested x t) (tested x (joined Either s r))
either_more x None s r = refl
either_more x (Some t) None r = refl
either_more x (Some t) (Some s) None = refl
either_more x (Some t) (Some s) (Some r) = refl

both_more : (x : ℕ) (t s r : Option (ValueType ℕ)) → tested x (joined Both t (joined Both s r)) ≡ joined_tests (both_test false) (tested x t) (tested x (joined Both s r))
both_more x None s r = refl
both_more x (Some t) None r = refl
both_more x (Some t) (Some s) None = refl
both_more x (Some t) (Some s) (Some r) = refl

pub joined_more : (x : ℕ) (j : Join) (a d b e : Object ℕ) → d ≡ Pair b e → joined_tests (join_test j) (tested x (type_in a)) (tested x (joined_in j d)) ≡ tested x (joined_in j (Pair a d))
joined_more x join.Either a d b e f = rw f (sym (either_more x (type_in a) (type_in b) (joined_in join.Either e)))
joined_more x join.Both a d b e f = rw f (sym (both_more x (type_in a) (type_in b) (joined_in join.Both e)))

bad : (x : ℕ) (j : Join) (a d : Object ℕ) → joined_in j d ≡ None → tested x (joined_in j (Pair a d)) ≡ None
bad x join.Either a d e = rw e (none_left (type_in a))
  where
    none_left : (t : Option (ValueType ℕ)) → tested x (joined Either t None) ≡ None
    none_left None = refl
    none_left (Some t) = refl
bad x join.Both a d e = rw e (none_left (type_in a))
  where
    none_left : (t : Option (ValueType ℕ)) → tested x (joined Both t None) ≡ None
    none_left None = refl
    none_left (Some t) = refl

no_integers : (j : Join) (n : ℤ) → joined_in j (Integer n) ≡ None
no_integers join.Either n = refl
no_integers join.Both n = refl

no_texts : (j : Join) (bytes : List ℕ) → joined_in j (Text bytes) ≡ None
no_texts join.Either bytes = refl
no_texts join.Both bytes = refl

no_symbols : (j : Join) (s : ℕ) → nat_eq s 1 ≡ false → joined_in j (Symbol s) ≡ None
no_symbols join.Either s e = rw e refl
no_symbols join.Both s e = rw e refl

pub bad_integer : (x : ℕ) (j : Join) (a d : Object ℕ) (n : ℤ) → d ≡ Integer n → tested x (joined_in j (Pair a d)) ≡ None
bad_integer x j a d n e = bad x j a d (ap (joined_in j) e ∙ no_integers j n)

pub bad_text : (x : ℕ) (j : Join) (a d : Object ℕ) (bytes : List ℕ) → d ≡ Text bytes → tested x (joined_in j (Pair a d)) ≡ None
bad_text x j a d bytes e = bad x j a d (ap (joined_in j) e ∙ no_texts j bytes)

pub bad_symbol : (x : ℕ) (j : Join) (a d : Object ℕ) (s : ℕ) → d ≡ Symbol s → nat_eq s 1 ≡ false → tested x (joined_in j (Pair a d)) ≡ None
bad_symbol x j a d s e f = bad x j a d (ap (joined_in j) e ∙ no_symbols j s f)

pub joined_none : (x : ℕ) (j : Join) (h : Objects) (d : Object ℕ) (s : ℕ) → d ≡ Symbol s → s ≡ 1 → tested x (joined_in j d) ≡ Some (seen_leaf x h (none_of j))
joined_none x join.Either h d s e f = rw (e, f) refl
joined_none x join.Both h d s e f = rw (e, f) refl

pub joined_integer : (x : ℕ) (j : Join) (d : Object ℕ) (n : ℤ) → d ≡ Integer n → tested x (joined_in j d) ≡ None
joined_integer x join.Either d n e = rw e refl
joined_integer x join.Both d n e = rw e refl

pub joined_text : (x : ℕ) (j : Join) (d : Object ℕ) (bytes : List ℕ) → d ≡ Text bytes → tested x (joined_in j d) ≡ None
joined_text x join.Either d bytes e = rw e refl
joined_text x join.Both d bytes e = rw e refl

pub joined_symbol : (x : ℕ) (j : Join) (d : Object ℕ) (s : ℕ) → d ≡ Symbol s → nat_eq s 1 ≡ false → tested x (joined_in j d) ≡ None
joined_symbol x join.Either d s e f = rw (e, f) refl
joined_symbol x join.Both d s e f = rw (e, f) refl
