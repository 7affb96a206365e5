-- The test of a type: a core form over the argument that is tested (ACL2's manual, topic TYPE-SPEC).
use Rattle.std.specs.Prelude.{ℕ, ◌+◌, List, [], ◌∷◌, ℤ, Bool, true, false, max, nat_le, nat_eq, ◌&&◌, Option, Some, None, option_map, option_and_then, if◌then◌else◌}
use Rattle.model_objects.specs.Object.{Object, Integer, Symbol, Text, Pair}
use Rattle.model_symbols.specs.Opening.{truth, nil}
use Rattle.model_prims.specs.declared.prim.Recognizer.{Recognizer}
use Rattle.model_prims.specs.declared.prim.Recognizer.TheVariants as recognizer
use Rattle.model_lists.specs.Types.{ValueType, Anything, Nothing, Integers, Recognized, OneOf, Either, Both, Other, type_of, null_word, cons_word, atom_word, not_word, or_word, and_word, Reading, word_type, only_element}
use Rattle.model_terms.specs.Cores.{Core, Cores, Var, Const, If, Let, Mv, MvLet, StobjLet, WithLocal, MustBeEqual, Call, none, more, cores}
use Rattle.model_expansion.specs.Words.{symbolp_word, stringp_word, integerp_word, below_word, member_equal_word, satisfies_word, booleanp_word}

-- ---- core forms that tests are made of

abbrev pub true_core : Core
true_core = Const (Symbol truth)

abbrev pub false_core : Core
false_core = Const (Symbol nil)

abbrev pub call_core : ℕ → List Core → Core
call_core f actuals = Call f (cores actuals)

-- (IF a b 'NIL)
abbrev pub and_core : Core → Core → Core
and_core a b = If a b false_core

abbrev pub not_core : Core → Core
not_core a = call_core not_word (a ∷ [])

-- neither is below the other's end: (NOT (< a b))
abbrev pub not_below : Core → Core → Core
not_below a b = not_core (call_core below_word (a ∷ b ∷ []))

-- ---- the depth of a core form

-- the nodes on the longest way down, with what a `STOBJ-LET` binds
abbrev mutual
  pub depth_of : Core → ℕ
  depth_of (Var x) = 1
  depth_of (Const o) = 1
  depth_of (If a b c) = max (depth_of a) (max (depth_of b) (depth_of c)) + 1
  depth_of (Let names bound body) = max (depth_of_all bound) (depth_of body) + 1
  depth_of (Mv parts) = depth_of_all parts + 1
  depth_of (MvLet names bound body) = max (depth_of bound) (depth_of body) + 1
  depth_of (StobjLet names bound vars producer consumer) = max (depth_of_all bound) (max (depth_of producer) (depth_of consumer)) + 1
  depth_of (WithLocal stobj names producer body) = max (depth_of producer) (depth_of body) + 1
  depth_of (MustBeEqual logic exec) = max (depth_of logic) (depth_of exec) + 1
  depth_of (Call f actuals) = depth_of_all actuals + 1

  pub depth_of_all : Cores → ℕ
  depth_of_all none = 0
  depth_of_all (more f fs) = max (depth_of f) (depth_of_all fs)

-- ---- tests

-- the predicate of a word
abbrev pub predicate : Recognizer → ℕ
predicate recognizer.Symbolp = symbolp_word
predicate recognizer.Stringp = stringp_word
predicate recognizer.Consp = cons_word + 1
predicate recognizer.Atom = atom_word
predicate recognizer.Null = null_word
predicate recognizer.Booleanp = booleanp_word
predicate r = integerp_word

abbrev pub integer_test : Core → Core
integer_test x = call_core integerp_word (x ∷ [])

abbrev pub low_test : ℤ → Core → Core
low_test low x = not_below x (Const (Integer low))

abbrev pub high_test : ℤ → Core → Core
high_test high x = not_below (Const (Integer high)) x

-- an integer between two ends, of which any may be left out
abbrev pub range_test : Option ℤ → Option ℤ → Core → Core
range_test None None x = integer_test x
range_test (Some low) None x = and_core (integer_test x) (low_test low x)
range_test None (Some high) x = and_core (integer_test x) (high_test high x)
range_test (Some low) (Some high) x = and_core (integer_test x) (and_core (low_test low x) (high_test high x))

abbrev pub is_nothing : ValueType ℕ → Bool
is_nothing Nothing = true
is_nothing t = false

abbrev pub is_anything : ValueType ℕ → Bool
is_anything Anything = true
is_anything t = false

-- (IF a 'T b), but a alone where nothing else is left to be met
abbrev pub either_test : Bool → Core → Core → Core
either_test true a b = a
either_test false a b = If a true_core b

-- (IF a b 'NIL), but a alone where nothing more is asked
abbrev pub both_test : Bool → Core → Core → Core
both_test true a b = a
both_test false a b = and_core a b

-- the test of a type over an argument
abbrev pub test_of : Core → ValueType ℕ → Core
test_of x Anything = true_core
test_of x Nothing = false_core
test_of x (Integers low high) = range_test low high x
test_of x (Recognized r) = call_core (predicate r) (x ∷ [])
test_of x (OneOf l) = call_core member_equal_word (x ∷ Const l ∷ [])
test_of x (Either a b) = either_test (is_nothing b) (test_of x a) (test_of x b)
test_of x (Both a b) = both_test (is_anything b) (test_of x a) (test_of x b)
test_of x (Other a) = not_core (test_of x a)

-- how deep the test of a type may be as a core form
abbrev pub deepest_test : ℕ
deepest_test = 200

abbrev pub not_too_deep : ValueType ℕ → Option (ValueType ℕ)
not_too_deep t = if nat_le (depth_of (test_of (Var 0) t)) deepest_test then Some t else None

-- the type that an object is written for, where it is one and its test is not too deep
abbrev pub accepted_type : Object ℕ → Option (ValueType ℕ)
accepted_type written = option_and_then not_too_deep (type_of (λ (o : Object ℕ). o) written)

-- the test of a type as it is written
abbrev pub type_term : Object ℕ → Core → Option Core
type_term written x = option_map (test_of x) (accepted_type written)

-- ---- types of declarations, where `(SATISFIES p)` may stand

-- the test of an object as a type, and as a list of types of which any is to be met, or all are
pub record DeclaredTest : Type 0 where
  pub one : Option Core
  pub any : Option Core
  pub all : Option Core

-- `(p)` with p a symbol
abbrev pub predicate_in : Option (Object ℕ) → Option ℕ
predicate_in None = None
predicate_in (Some (Symbol p)) = Some p
predicate_in (Some o) = None

abbrev pub is_end : Object ℕ → Bool
is_end (Pair a d) = false
is_end o = true

-- both, where each is a test
abbrev pub joined_tests : (Core → Core → Core) → Option Core → Option Core → Option Core
joined_tests join None b = None
joined_tests join (Some a) None = None
joined_tests join (Some a) (Some b) = Some (join a b)

module _ (x : Core) where
  abbrev pub plain_test : Object ℕ → Option Core
  plain_test written = option_map (test_of x) (type_of (λ (o : Object ℕ). o) written)

  abbrev pub denied_test : Option (Object ℕ) → Option Core → Option Core
  denied_test None t = None
  denied_test (Some o) t = option_map not_core t

  -- a list with this head; `listed` is what the list after it is
  abbrev pub headed_test : ℕ → Object ℕ → DeclaredTest → Option Core
  headed_test s d listed =
      if nat_eq s satisfies_word then option_map (λ p. call_core p (x ∷ [])) (predicate_in (only_element d))
      else if nat_eq s or_word then listed.any
      else if nat_eq s and_word then listed.all
      else if nat_eq s not_word then denied_test (only_element d) listed.any
      else plain_test (Pair (Symbol s) d)

  abbrev pub listed_test : Object ℕ → Object ℕ → DeclaredTest → Option Core
  listed_test (Integer n) d listed = None
  listed_test (Symbol s) d listed = headed_test s d listed
  listed_test (Text bytes) d listed = None
  listed_test (Pair a b) d listed = None

  abbrev pub declared : Object ℕ → DeclaredTest
  declared (Integer n) = record { one = None; any = None; all = None }
  declared (Symbol s) = record {
    one = plain_test (Symbol s);
    any = if nat_eq s nil then Some false_core else None;
    all = if nat_eq s nil then Some true_core else None;
  }
  declared (Text bytes) = record { one = None; any = None; all = None }
  declared (Pair a d) = record {
    one = listed_test a d (declared d);
    any = joined_tests (either_test (is_end d)) (declared a).one (declared d).any;
    all = joined_tests (both_test (is_end d)) (declared a).one (declared d).all;
  }

  abbrev pub shallow : Core → Option Core
  shallow f = if nat_le (depth_of f) deepest_test then Some f else None

  -- the test of what may stand as a type in a declaration
  abbrev pub declared_test : Object ℕ → Option Core
  declared_test written = option_and_then shallow (declared written).one
