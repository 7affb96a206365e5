-- What a checked primitive gives of values is a value.
use Rattle.std.specs.Prelude.{◌≡◌, ℕ, zero, suc, ◌+◌, ◌-◌, ◌≤◌, ◌*ℤ◌, ◌^◌, List, Bool, true, false, ◌&&◌, ◌||◌, not, Option, Some, None, IfSome, ℤ, pos, negsuc, nat_eq, nat_lt, nat_le, int_lt, unsigned_abs, if◌then◌else◌, refl}
use Rattle.std.proofs.Common.{arith, sym, subst}
use Rattle.std.proofs.lemmas.Bool.Decides.{nat_tests}
use Rattle.std.specs.Int.{int_pow, int_shr}
use Rattle.model_objects.specs.Object.{Object, Integer, Symbol, Text, Pair, weight, max_weight, fits_128, has_narrow_integers, is_value}
use Rattle.model_symbols.specs.Symbols.{QualifiedName, Table, interned, is_one_too_many, symbol_at}
use Rattle.model_prims.specs.Kinds.{by_number, truth_of, same_object, is_natural, is_integer}
use Rattle.model_prims.specs.Numbers.{fix, natural_of, in_range, power_in_range, shift_in_range, raised_by, lowered_by}
use Rattle.model_prims.specs.Lists.{car, cdr, element, padded, updated, member, is_member, assoc, union, appended, revappended}
use Rattle.model_prims.specs.Guards.{guard}
use Rattle.model_prims.specs.Values.{Wanted, Old, Number, Made, Power, Shift, Update, Interned, wanted, recognized, related, computed, without_sign, listed, named_by, name_of, interned_beside}
use Rattle.model_prims.specs.Applied.{Applied, Large, Gives, Stops, number_or, updated_by, number_then, beside, bounded, guarded, applied_to}
use Rattle.model_prims.specs.Applied.{Symbols as NoRoom}
use Rattle.model_prims.specs.Laws.{GivesValues}
use Rattle.model_prims.proofs.AtOnce.{is_at_once}
use Rattle.model_prims.specs.declared.prim.Prim.{Prim}
use Rattle.model_prims.specs.declared.prim.Prim.TheVariants as prim
use Rattle.model_prims.specs.declared.prim.Arithmetic.{Arithmetic}
use Rattle.model_prims.specs.declared.prim.Arithmetic.TheVariants as arithmetic
use Rattle.model_prims.specs.declared.prim.Listing.{Listing}
use Rattle.model_prims.specs.declared.prim.Listing.TheVariants as listing
use Rattle.model_prims.specs.declared.prim.Naming.{Naming}
use Rattle.model_prims.specs.declared.prim.Naming.TheVariants as naming

and_left : (a b : Bool) → (a && b) ≡ true → a ≡ true
and_left true b e = refl
and_left false b e = cc

and_right : (a b : Bool) → (a && b) ≡ true → b ≡ true
and_right true b e = e
and_right false b e = cc

and_true : (a b : Bool) → a ≡ true → b ≡ true → (a && b) ≡ true
and_true true b e f = f
and_true false b e f = cc

le_true : (m n : ℕ) → m ≤ n → nat_le m n ≡ true
le_true m n l = grind (arith, nat_tests)

true_le : (m n : ℕ) → nat_le m n ≡ true → m ≤ n
true_le m n e = grind (arith, nat_tests)

abbrev IsNarrow : Object ℕ → Type 0
IsNarrow o = has_narrow_integers o ≡ true

abbrev IsValue : Object ℕ → Type 0
IsValue o = IsNarrow o × (weight o ≤ max_weight)

value_is : (o : Object ℕ) → IsValue o → is_value o ≡ true
value_is o v = and_true (has_narrow_integers o) (nat_le (weight o) max_weight) v.0 (le_true (weight o) max_weight v.1)

is_a_value : (o : Object ℕ) → is_value o ≡ true → IsValue o
is_a_value o e =
    (and_left (has_narrow_integers o) (nat_le (weight o) max_weight) e, true_le (weight o) max_weight (and_right (has_narrow_integers o) (nat_le (weight o) max_weight) e))

either : (P : Object ℕ → Type 0) (b : Bool) (x y : Object ℕ) → P x → P y → P (if b then x else y)
either P true x y p q = p
either P false x y p q = q

-- ---- parts of objects, for a property that a pair hands to its parts

module _ (P : Object ℕ → Type 0) (at_symbol : (s : ℕ) → P (Symbol s)) (left : (a d : Object ℕ) → P (Pair a d) → P a) (right : (a d : Object ℕ) → P (Pair a d) → P d) where
  car_part : (x : Object ℕ) → P x → P (car by_number x)
  car_part (Integer n) p = at_symbol 1
  car_part (Symbol s) p = at_symbol 1
  car_part (Text bytes) p = at_symbol 1
  car_part (Pair a d) p = left a d p

  cdr_part : (x : Object ℕ) → P x → P (cdr by_number x)
  cdr_part (Integer n) p = at_symbol 1
  cdr_part (Symbol s) p = at_symbol 1
  cdr_part (Text bytes) p = at_symbol 1
  cdr_part (Pair a d) p = right a d p

  element_part : (n : ℕ) (x : Object ℕ) → P x → P (element by_number n x)
  element_part n (Integer m) p = at_symbol 1
  element_part n (Symbol s) p = at_symbol 1
  element_part n (Text bytes) p = at_symbol 1
  element_part n (Pair a d) p = either P (nat_eq n 0) a (element by_number (n - 1) d) (left a d p) (element_part (n - 1) d (right a d p))

  member_part : (x l : Object ℕ) → P l → P (member by_number x l)
  member_part x (Integer m) p = at_symbol 1
  member_part x (Symbol s) p = at_symbol 1
  member_part x (Text bytes) p = at_symbol 1
  member_part x (Pair a d) p = either P (same_object by_number x a) (Pair a d) (member by_number x d) p (member_part x d (right a d p))

  assoc_part : (x l : Object ℕ) → P l → P (assoc by_number x l)
  assoc_part x (Integer m) p = at_symbol 1
  assoc_part x (Symbol s) p = at_symbol 1
  assoc_part x (Text bytes) p = at_symbol 1
  assoc_part x (Pair a d) p = either P (same_object by_number x (car by_number a)) a (assoc by_number x d) (left a d p) (assoc_part x d (right a d p))

narrow_left : (a d : Object ℕ) → IsNarrow (Pair a d) → IsNarrow a
narrow_left a d n = and_left (has_narrow_integers a) (has_narrow_integers d) n

narrow_right : (a d : Object ℕ) → IsNarrow (Pair a d) → IsNarrow d
narrow_right a d n = and_right (has_narrow_integers a) (has_narrow_integers d) n

narrow_pair : (a d : Object ℕ) → IsNarrow a → IsNarrow d → IsNarrow (Pair a d)
narrow_pair a d m n = and_true (has_narrow_integers a) (has_narrow_integers d) m n

symbol_value : (s : ℕ) → IsValue (Symbol s)
symbol_value s = (refl, omega arith)

value_left : (a d : Object ℕ) → IsValue (Pair a d) → IsValue a
value_left a d v = (narrow_left a d v.0, omega (arith, v.1))

value_right : (a d : Object ℕ) → IsValue (Pair a d) → IsValue d
value_right a d v = (narrow_right a d v.0, omega (arith, v.1))

-- ---- objects made of narrow ones are narrow

padded_narrow : (n : ℕ) (o : Object ℕ) → IsNarrow o → IsNarrow (padded by_number n o)
padded_narrow zero o m = narrow_pair o (Symbol 1) m refl
padded_narrow (suc n) o m = padded_narrow n o m

updated_narrow : (n : ℕ) (o x : Object ℕ) → IsNarrow o → IsNarrow x → IsNarrow (updated by_number n o x)
updated_narrow n o (Integer m) p q = padded_narrow n o p
updated_narrow n o (Symbol s) p q = padded_narrow n o p
updated_narrow n o (Text bytes) p q = padded_narrow n o p
updated_narrow n o (Pair a d) p q =
    either IsNarrow (nat_eq n 0) (Pair o d) (Pair a (updated by_number (n - 1) o d)) (narrow_pair o d p (narrow_right a d q))
    (narrow_pair a (updated by_number (n - 1) o d) (narrow_left a d q) (updated_narrow (n - 1) o d p (narrow_right a d q)))

appended_narrow : (x y : Object ℕ) → IsNarrow x → IsNarrow y → IsNarrow (appended x y)
appended_narrow (Integer m) y p q = q
appended_narrow (Symbol s) y p q = q
appended_narrow (Text bytes) y p q = q
appended_narrow (Pair a d) y p q = narrow_pair a (appended d y) (narrow_left a d p) (appended_narrow d y (narrow_right a d p) q)

revappended_narrow : (x y : Object ℕ) → IsNarrow x → IsNarrow y → IsNarrow (revappended x y)
revappended_narrow (Integer m) y p q = q
revappended_narrow (Symbol s) y p q = q
revappended_narrow (Text bytes) y p q = q
revappended_narrow (Pair a d) y p q = revappended_narrow d (Pair a y) (narrow_right a d p) (narrow_pair a y (narrow_left a d p) q)

union_narrow : (x y : Object ℕ) → IsNarrow x → IsNarrow y → IsNarrow (union by_number x y)
union_narrow (Integer m) y p q = q
union_narrow (Symbol s) y p q = q
union_narrow (Text bytes) y p q = q
union_narrow (Pair a d) y p q =
    let rest : IsNarrow (union by_number d y) = union_narrow d y (narrow_right a d p) q in
    either IsNarrow (is_member by_number a y) (union by_number d y) (Pair a (union by_number d y)) rest (narrow_pair a (union by_number d y) (narrow_left a d p) rest)

name_narrow : (see : ℕ → List ℕ) (x : Object ℕ) → IsNarrow (name_of by_number see x)
name_narrow see (Integer n) = refl
name_narrow see (Symbol s) = refl
name_narrow see (Text bytes) = refl
name_narrow see (Pair a d) = refl

-- ---- what a primitive is to give

abbrev WantedValue : Wanted ℕ → Type 0
WantedValue (Old o) = IsValue o
WantedValue (Number n) = Unit {0}
WantedValue (Made o) = IsNarrow o
WantedValue (Power b n) = Unit {0}
WantedValue (Shift i c) = Unit {0}
WantedValue (Update n o l) = IsNarrow o × IsNarrow l
WantedValue (Interned name s) = Unit {0}

truth_value : (b : Bool) → IsValue (truth_of by_number b)
truth_value true = symbol_value 0
truth_value false = symbol_value 1

zero_value : IsValue (Integer (pos 0))
zero_value = (refl, omega arith)

without_sign_value : (x : Object ℕ) → IsValue x → WantedValue (without_sign by_number x)
without_sign_value (Integer (pos n)) v = v
without_sign_value (Integer (negsuc n)) v = tt
without_sign_value (Symbol s) v = v
without_sign_value (Text bytes) v = v
without_sign_value (Pair a d) v = v

computed_value : (a : Arithmetic) (x y : Object ℕ) → IsValue x → IsValue y → WantedValue (computed by_number a x y)
unfolding computed
computed_value arithmetic.Plus x y v w = tt
computed_value arithmetic.Times x y v w = tt
computed_value arithmetic.Minus x y v w = tt
computed_value arithmetic.Nfix x y v w = either IsValue (is_natural x) x (Integer (pos 0)) v zero_value
computed_value arithmetic.Ifix x y v w = either IsValue (is_integer x) x (Integer (pos 0)) v zero_value
computed_value arithmetic.Abs x y v w = without_sign_value x v
computed_value arithmetic.Min x y v w = either IsValue (int_lt (fix x) (fix y)) x y v w
computed_value arithmetic.Max x y v w = either IsValue (int_lt (fix y) (fix x)) x y v w
computed_value arithmetic.Floor x y v w = tt
computed_value arithmetic.Mod x y v w = tt
computed_value arithmetic.Truncate x y v w = tt
computed_value arithmetic.Rem x y v w = tt
computed_value arithmetic.Expt x y v w = tt
computed_value arithmetic.Ash x y v w = tt
computed_value arithmetic.Lognot x y v w = tt
computed_value arithmetic.Logand x y v w = tt
computed_value arithmetic.Logior x y v w = tt
computed_value arithmetic.Logxor x y v w = tt

listed_value : (l : Listing) (x y z : Object ℕ) → IsValue x → IsValue y → IsValue z → WantedValue (listed by_number l x y z)
unfolding listed
listed_value listing.Car x y z u v w = car_part IsValue symbol_value value_left value_right x u
listed_value listing.Cdr x y z u v w = cdr_part IsValue symbol_value value_left value_right x u
listed_value listing.Cons x y z u v w = narrow_pair x y u.0 v.0
listed_value listing.Len x y z u v w = tt
listed_value listing.Length x y z u v w = tt
listed_value listing.Nth x y z u v w = element_part IsValue symbol_value value_left value_right (natural_of x) y v
listed_value listing.UpdateNth x y z u v w = (v.0, w.0)
listed_value listing.Append x y z u v w = appended_narrow x y u.0 v.0
listed_value listing.Revappend x y z u v w = revappended_narrow x y u.0 v.0
listed_value listing.Member x y z u v w = member_part IsValue symbol_value value_left value_right x y v
listed_value listing.Assoc x y z u v w = assoc_part IsValue symbol_value value_left value_right x y v
listed_value listing.Union x y z u v w = union_narrow x y u.0 v.0

beside_value : (x y : Object ℕ) → WantedValue (interned_beside by_number x y)
beside_value (Text bytes) (Symbol s) = tt
beside_value (Text bytes) (Integer n) = symbol_value 1
beside_value (Text bytes) (Text b) = symbol_value 1
beside_value (Text bytes) (Pair b e) = symbol_value 1
beside_value (Integer n) y = symbol_value 1
beside_value (Symbol s) y = symbol_value 1
beside_value (Pair a d) y = symbol_value 1

named_value : (see : ℕ → QualifiedName) (n : Naming) (x y : Object ℕ) → WantedValue (named_by by_number see n x y)
unfolding named_by
named_value see naming.SymbolName x y = name_narrow (λ s. (see s).name) x
named_value see naming.SymbolPackageName x y = name_narrow (λ s. (see s).home) x
named_value see naming.Intern x y = beside_value x y
named_value see naming.StringAppend x y = refl

wanted_value : (see : ℕ → QualifiedName) (f : Prim) (x y z : Object ℕ) → IsValue x → IsValue y → IsValue z → WantedValue (wanted by_number see f x y z)
unfolding wanted
wanted_value see (prim.Recognizer t) x y z u v w = truth_value (recognized by_number t x)
wanted_value see (prim.Relation t) x y z u v w = truth_value (related by_number t x y)
wanted_value see (prim.Arithmetic a) x y z u v w = computed_value a x y u v
wanted_value see (prim.Listing l) x y z u v w = listed_value l x y z u v w
wanted_value see (prim.Naming n) x y z u v w = named_value see n x y
wanted_value see prim.TheCheck x y z u v w = w

-- ---- what it gives

abbrev HasValue : Applied → Type 0
HasValue (Gives o symbols) = is_value o ≡ true
HasValue (Stops s) = Unit {0}

abbrev IsInRange : Option ℤ → Type 0
IsInRange r = IfSome r (λ n. fits_128 n ≡ true)

kept_in_range : (b : Bool) (z : ℤ) → fits_128 z ≡ b → IsInRange (if b then Some z else None)
kept_in_range true z e = e
kept_in_range false z e = tt

in_range_is : (z : ℤ) → IsInRange (in_range z)
in_range_is z = kept_in_range (fits_128 z) z refl

power_is : (b : ℤ) (n : ℕ) → IsInRange (power_in_range b n)
power_is b n = subst IsInRange (sym (is_at_once.power b n)) (in_range_is (int_pow b n))

sign_is : (b : Bool) → fits_128 (if b then negsuc 0 else pos 0) ≡ true
sign_is true = refl
sign_is false = refl

raised_is : (b short : Bool) (i : ℤ) (c : ℕ) → IsInRange (raised_by b short i c)
raised_is true short i c = refl
raised_is false true i c = in_range_is (i *ℤ pos (2 ^ c))
raised_is false false i c = tt

lowered_is : (b : Bool) (i : ℤ) (c : ℕ) → IsInRange (lowered_by b i c)
lowered_is true i c = in_range_is (int_shr i c)
lowered_is false i c = sign_is (int_lt i (pos 0))

shift_is : (i c : ℤ) → IsInRange (shift_in_range i c)
shift_is i (pos c) = raised_is (nat_eq (unsigned_abs i) 0) (nat_lt c 128) i c
shift_is i (negsuc c) = lowered_is (nat_lt c 127 || not (fits_128 i)) i (c + 1)

number_value : (ss : List QualifiedName) (r : Option ℤ) → IsInRange r → HasValue (number_or ss r)
number_value ss (Some n) f = value_is (Integer n) (f, omega arith)
number_value ss None f = tt

weighed_value : (b : Bool) (ss : List QualifiedName) (o : Object ℕ) → nat_le (weight o) max_weight ≡ b → IsNarrow o → HasValue (if b then Gives o ss else Stops Large)
weighed_value true ss o e n = and_true (has_narrow_integers o) (nat_le (weight o) max_weight) n e
weighed_value false ss o e n = tt

updated_value : (b : Bool) (ss : List QualifiedName) (n : ℕ) (o l : Object ℕ) → IsNarrow o → IsNarrow l → HasValue (updated_by b ss n o l)
updated_value true ss n o l p q = weighed_value (nat_le (weight (updated by_number n o l)) max_weight) ss (updated by_number n o l) refl (updated_narrow n o l p q)
updated_value false ss n o l p q = tt

interned_value : (b : Bool) (ss : List QualifiedName) (q : QualifiedName) → HasValue (if b then Stops NoRoom else Gives (Symbol (number_then ss q)) (interned ss q))
interned_value true ss q = tt
interned_value false ss q = refl

bounded_value : (t : Table) (w : Wanted ℕ) → WantedValue w → HasValue (bounded t w)
unfolding bounded
bounded_value t (Old o) v = value_is o v
bounded_value t (Number n) v = number_value t.symbols (in_range n) (in_range_is n)
bounded_value t (Made o) v = weighed_value (nat_le (weight o) max_weight) t.symbols o refl v
bounded_value t (Power b n) v = number_value t.symbols (power_in_range b n) (power_is b n)
bounded_value t (Shift i c) v = number_value t.symbols (shift_in_range i c) (shift_is i c)
bounded_value t (Update n o l) v = updated_value (nat_le n max_weight) t.symbols n o l v.0 v.1
bounded_value t (Interned name s) v = interned_value (is_one_too_many t.symbols (beside t name s)) t.symbols (beside t name s)

guarded_value : (b : Bool) (t : Table) (w : Wanted ℕ) → WantedValue w → HasValue (guarded b t w)
guarded_value true t w v = bounded_value t w v
guarded_value false t w v = tt

applied_value : (t : Table) (p : Prim) (x y z : Object ℕ) → IsValue x → IsValue y → IsValue z → HasValue (applied_to t p x y z)
unfolding applied_to
applied_value t p x y z u v w =
    guarded_value (guard by_number p x y z) t (wanted by_number (symbol_at t.symbols) p x y z) (wanted_value (symbol_at t.symbols) p x y z u v w)

pub gives_values : GivesValues
gives_values = record { value = λ t p x y z o symbols u v w e. subst HasValue e (applied_value t p x y z (is_a_value x u) (is_a_value y v) (is_a_value z w)) }
