-- The test of a type says of an object what the type does.
use Rattle.std.specs.Prelude.{◌≡◌, ℕ, ◌-◌, ◌^◌, [], ◌∷◌, ℤ, pos, neg_ℤ, Bool, true, false, not, ◌&&◌, ◌||◌, nat_eq, int_lt, Option, Some, None, refl, if◌then◌else◌}
use Rattle.std.proofs.Common.{sym, ap, ◌∙◌}
use Rattle.model_objects.specs.Object.{Object, Integer, Symbol, Text, Pair}
use Rattle.model_symbols.specs.Opening.{truth, nil}
use Rattle.model_prims.specs.Kinds.{by_number, is_integer, is_nil}
use Rattle.model_prims.specs.Numbers.{fix}
use Rattle.model_prims.specs.Lists.{is_true_list}
use Rattle.model_prims.specs.Values.{recognized}
use Rattle.model_prims.specs.declared.prim.Recognizer.TheVariants as recognizer
use Rattle.model_lists.specs.Types.{ValueType, Anything, Nothing, Integers, Recognized, OneOf, Either, Both, Other, is_least, is_greatest, word_type, bound_of, range_between, range_of, only_element, bits_of, unsigned_type, signed_type, Reading, joined, denied, headed_type, listed_type, reading, integer_word, signed_byte_word, unsigned_byte_word, bit_word, symbol_word, string_word, cons_word, atom_word, null_word, boolean_word, or_word, and_word, not_word, member_word}
use Rattle.model_terms.specs.Cores.{Var}
use Rattle.model_expansion.specs.TypeTerms.{call_core, range_test}
use Rattle.acl_types.specs.Shapes.{type_in, tested}
use Rattle.acl_meets.specs.Tests.{predicate_holds, holds, shown, met_by}
use Rattle.acl_meets.proofs.Shows.{Shows, IsShown, ShowsAll}

-- ---- what two truth values make

with_none : (i : Bool) → i ≡ (i && (true && true))
with_none true = refl
with_none false = refl

with_low : (i l : Bool) → (if i then l else false) ≡ (i && (l && true))
with_low true true = refl
with_low true false = refl
with_low false l = refl

with_high : (i h : Bool) → (if i then h else false) ≡ (i && (true && h))
with_high true h = refl
with_high false h = refl

with_both : (i l h : Bool) → (if i then (if l then h else false) else false) ≡ (i && (l && h))
with_both true true h = refl
with_both true false h = refl
with_both false l h = refl

or_is : (p q p' q' : Bool) → p ≡ p' → q ≡ q' → (if p then true else q) ≡ (p' || q')
or_is true q p' q' e f = rw (sym e) refl
or_is false q p' q' e f = rw (sym e) f

and_is : (p q p' q' : Bool) → p ≡ p' → q ≡ q' → (if p then q else false) ≡ (p' && q')
and_is true q p' q' e f = rw (sym e) f
and_is false q p' q' e f = rw (sym e) refl

or_none : (p p' : Bool) → p ≡ p' → p ≡ (p' || false)
or_none true p' e = rw (sym e) refl
or_none false p' e = rw (sym e) refl

and_all : (p p' : Bool) → p ≡ p' → p ≡ (p' && true)
and_all true p' e = rw (sym e) refl
and_all false p' e = rw (sym e) refl

-- ---- each type

range_shows : (low high : Option ℤ) → Shows (Integers low high)
range_shows None None x = with_none (is_integer x)
range_shows (Some low) None x = with_low (is_integer x) (not (int_lt (fix x) low))
range_shows None (Some high) x = with_high (is_integer x) (not (int_lt high (fix x)))
range_shows (Some low) (Some high) x = with_both (is_integer x) (not (int_lt (fix x) low)) (not (int_lt high (fix x)))

either_shows : (a b : ValueType ℕ) → Shows a → Shows b → Shows (Either a b)
either_shows a Anything h i x = or_is _ _ _ _ (h x) (i x)
either_shows a Nothing h i x = or_none _ _ (h x)
either_shows a (Integers low high) h i x = or_is _ _ _ _ (h x) (i x)
either_shows a (Recognized r) h i x = or_is _ _ _ _ (h x) (i x)
either_shows a (OneOf l) h i x = or_is _ _ _ _ (h x) (i x)
either_shows a (Either b c) h i x = or_is _ _ _ _ (h x) (i x)
either_shows a (Both b c) h i x = or_is _ _ _ _ (h x) (i x)
either_shows a (Other b) h i x = or_is _ _ _ _ (h x) (i x)

both_shows : (a b : ValueType ℕ) → Shows a → Shows b → Shows (Both a b)
both_shows a Anything h i x = and_all _ _ (h x)
both_shows a Nothing h i x = and_is _ _ _ _ (h x) (i x)
both_shows a (Integers low high) h i x = and_is _ _ _ _ (h x) (i x)
both_shows a (Recognized r) h i x = and_is _ _ _ _ (h x) (i x)
both_shows a (OneOf l) h i x = and_is _ _ _ _ (h x) (i x)
both_shows a (Either b c) h i x = and_is _ _ _ _ (h x) (i x)
both_shows a (Both b c) h i x = and_is _ _ _ _ (h x) (i x)
both_shows a (Other b) h i x = and_is _ _ _ _ (h x) (i x)

-- ---- what may be no type

choose : (b : Bool) (s t : Option (ValueType ℕ)) → IsShown s → IsShown t → IsShown (if b then s else t)
choose true s t h i = h
choose false s t h i = i

symbol_shows : IsShown (Some (Recognized recognizer.Symbolp))
unfolding recognized
symbol_shows = λ x. refl

string_shows : IsShown (Some (Recognized recognizer.Stringp))
unfolding recognized
string_shows = λ x. refl

pair_shows : IsShown (Some (Recognized recognizer.Consp))
unfolding recognized
pair_shows = λ x. refl

atom_shows : IsShown (Some (Recognized recognizer.Atom))
unfolding recognized
atom_shows = λ x. refl

null_shows : IsShown (Some (Recognized recognizer.Null))
unfolding recognized
null_shows = λ x. refl

boolean_shows : IsShown (Some (Recognized recognizer.Booleanp))
unfolding recognized
boolean_shows = λ x. refl

word_shows : (s : ℕ) → IsShown (word_type s)
word_shows s =
    choose (nat_eq s truth) _ _ (λ x. refl) (
    choose (nat_eq s integer_word) _ _ (range_shows None None) (
    choose (nat_eq s signed_byte_word) _ _ (range_shows None None) (
    choose (nat_eq s unsigned_byte_word) _ _ (range_shows (Some (pos 0)) None) (
    choose (nat_eq s bit_word) _ _ (range_shows (Some (pos 0)) (Some (pos 1))) (
    choose (nat_eq s symbol_word) _ _ symbol_shows (
    choose (nat_eq s string_word) _ _ string_shows (
    choose (nat_eq s cons_word) _ _ pair_shows (
    choose (nat_eq s atom_word) _ _ atom_shows (
    choose (nat_eq s null_word) _ _ null_shows (
    choose (nat_eq s boolean_word) _ _ boolean_shows tt))))))))))

between_shows : (low high : Option (Option ℤ)) → IsShown (range_between low high)
between_shows None high = tt
between_shows (Some low) None = tt
between_shows (Some low) (Some high) = range_shows low high

pair_range_shows : (low : Object ℕ) (high : Option (Object ℕ)) (d : Object ℕ) → only_element d ≡ high → IsShown (range_of (Pair low d))
pair_range_shows low None d e = rw e tt
pair_range_shows low (Some high) d e = rw e (between_shows (bound_of low) (bound_of high))

range_of_shows : (d : Object ℕ) → IsShown (range_of d)
range_of_shows (Integer n) = tt
range_of_shows (Symbol s) = tt
range_of_shows (Text bytes) = tt
range_of_shows (Pair low d) = pair_range_shows low (only_element d) d refl

unsigned_shows : (n : Option ℕ) → IsShown (unsigned_type n)
unsigned_shows None = tt
unsigned_shows (Some n) = range_shows (Some (pos 0)) (Some (pos (2 ^ n - 1)))

signed_shows : (n : Option ℕ) → IsShown (signed_type n)
signed_shows None = tt
signed_shows (Some n) = range_shows (Some (neg_ℤ (pos (2 ^ (n - 1))))) (Some (pos (2 ^ (n - 1) - 1)))

either_is_shown : (s t : Option (ValueType ℕ)) → IsShown s → IsShown t → IsShown (joined Either s t)
either_is_shown None t h i = tt
either_is_shown (Some a) None h i = tt
either_is_shown (Some a) (Some b) h i = either_shows a b h i

both_is_shown : (s t : Option (ValueType ℕ)) → IsShown s → IsShown t → IsShown (joined Both s t)
both_is_shown None t h i = tt
both_is_shown (Some a) None h i = tt
both_is_shown (Some a) (Some b) h i = both_shows a b h i

denied_shows : (element : Option (Object ℕ)) (t : Option (ValueType ℕ)) → IsShown t → IsShown (denied element t)
denied_shows None t h = tt
denied_shows (Some o) None h = tt
denied_shows (Some o) (Some t) h = λ x. ap not (h x)

-- ---- each object as a type

headed_shows : (s : ℕ) (d : Object ℕ) (r : Reading ℕ) → ShowsAll r → IsShown (headed_type (λ (o : Object ℕ). o) s d r)
headed_shows s d r h =
    choose (nat_eq s or_word) _ _ h.any (
    choose (nat_eq s and_word) _ _ h.all (
    choose (nat_eq s not_word) _ _ (denied_shows (only_element d) r.any h.any) (
    choose (nat_eq s integer_word) _ _ (range_of_shows d) (
    choose (nat_eq s unsigned_byte_word) _ _ (unsigned_shows (bits_of 127 (only_element d))) (
    choose (nat_eq s signed_byte_word) _ _ (signed_shows (bits_of 128 (only_element d))) (
    choose (nat_eq s member_word) _ _ (choose (is_true_list by_number d) _ _ (λ x. refl) tt) tt))))))

listed_shows : (a d : Object ℕ) (r : Reading ℕ) → ShowsAll r → IsShown (listed_type (λ (o : Object ℕ). o) a d r)
listed_shows (Integer n) d r h = tt
listed_shows (Symbol s) d r h = headed_shows s d r h
listed_shows (Text bytes) d r h = tt
listed_shows (Pair a b) d r h = tt

reading_shows : (o : Object ℕ) → ShowsAll (reading (λ (x : Object ℕ). x) o)
reading_shows (Integer n) = record { one = tt; any = tt; all = tt }
reading_shows (Symbol s) = record {
  one = word_shows s;
  any = choose (nat_eq s nil) (Some Nothing) None (λ x. refl) tt;
  all = choose (nat_eq s nil) (Some Anything) None (λ x. refl) tt;
}
reading_shows (Text bytes) = record { one = tt; any = tt; all = tt }
reading_shows (Pair a d) = record {
  one = listed_shows a d _ (reading_shows d);
  any = either_is_shown _ _ (reading_shows a).one (reading_shows d).any;
  all = both_is_shown _ _ (reading_shows a).one (reading_shows d).all;
}

shown_is : (t : Option (ValueType ℕ)) (x : Object ℕ) → IsShown t → shown (tested 0 t) x ≡ met_by t x
shown_is None x h = refl
shown_is (Some t) x h = h x

pub type_shown : (o x : Object ℕ) → shown (tested 0 (type_in o)) x ≡ met_by (type_in o) x
type_shown o x = shown_is (type_in o) x (reading_shows o).one

pub range_holds : (low high : Option ℤ) (x : Object ℕ) (b : Bool) → b ≡ (is_integer x && (is_least low (fix x) && is_greatest high (fix x))) → b ≡ holds (range_test low high (Var 0)) x
range_holds low high x b e = e ∙ sym (range_shows low high x)

twice : (b : Bool) → b ≡ not (not b)
twice true = refl
twice false = refl

pub leaf_holds : (p : ℕ) (x : Object ℕ) (b : Bool) → b ≡ predicate_holds p x → b ≡ holds (call_core p (Var 0 ∷ [])) x
leaf_holds p x b e = e ∙ by (nat_eq p not_word) refl
  where
    by : (c : Bool) → nat_eq p not_word ≡ c → predicate_holds p x ≡ holds (call_core p (Var 0 ∷ [])) x
    by true f = rw f (twice (is_nil by_number x))
    by false f = rw f refl
