-- The value of each primitive, at any objects and without a bound (ACL2's manual, topic PROGRAMMING).
use Rattle.std.specs.Prelude.{ℕ, List, [], ◌++◌, Bool, not, ◌||◌, ℤ, pos, negsuc, ◌+ℤ◌, ◌*ℤ◌, neg_ℤ, int_lt, if◌then◌else◌}
use Rattle.model_objects.specs.Object.{Object, Integer, Symbol, Text, Pair}
use Rattle.model_symbols.specs.Symbols.{QualifiedName}
use Rattle.model_prims.specs.Kinds.{SymbolKind, truth_of, nil_of, is_integer, is_symbol, is_string, is_pair, is_natural, is_positive, is_nil, is_boolean, same_object}
use Rattle.model_prims.specs.Numbers.{fix, natural_of, floor_of, mod_of, truncate_of, rem_of, lognot, logand, logior, logxor}
use Rattle.model_prims.specs.Lists.{len, size_of, appended, revappended, car, cdr, is_true_list, is_alist, element, member, assoc, union}
use Rattle.model_prims.specs.declared.prim.Prim.{Prim}
use Rattle.model_prims.specs.declared.prim.Prim.TheVariants as prim
use Rattle.model_prims.specs.declared.prim.Recognizer.{Recognizer}
use Rattle.model_prims.specs.declared.prim.Recognizer.TheVariants as recognizer
use Rattle.model_prims.specs.declared.prim.Relation.{Relation}
use Rattle.model_prims.specs.declared.prim.Relation.TheVariants as relation
use Rattle.model_prims.specs.declared.prim.Arithmetic.{Arithmetic}
use Rattle.model_prims.specs.declared.prim.Arithmetic.TheVariants as arithmetic
use Rattle.model_prims.specs.declared.prim.Listing.{Listing}
use Rattle.model_prims.specs.declared.prim.Listing.TheVariants as listing
use Rattle.model_prims.specs.declared.prim.Naming.{Naming}
use Rattle.model_prims.specs.declared.prim.Naming.TheVariants as naming

-- what a primitive is to give. What can be too much to compute, and a symbol, are said and not yet made
pub data Wanted (S : Type 0) : Type 0 where
  Old : Object S → Wanted S  -- an argument, a part of one, or a truth value
  Number : ℤ → Wanted S
  Made : Object S → Wanted S  -- an object that is heavier than each argument may be
  Power : ℤ → ℕ → Wanted S  -- the first to the second
  Shift : ℤ → ℤ → Wanted S  -- the first times 2 to the second, rounded down
  Update : ℕ → Object S → Object S → Wanted S  -- the list with another element of this number
  Interned : List ℕ → S → Wanted S  -- the symbol of this name in the package of that symbol

abbrev pub bytes_of : {S : Type 0} → Object S → List ℕ
bytes_of (Integer n) = []
bytes_of (Symbol s) = []
bytes_of (Text bytes) = bytes
bytes_of (Pair a d) = []

-- a power; 1 where the exponent is no natural number
abbrev pub power_of : {S : Type 0} → ℤ → Object S → Wanted S
power_of b n = Power b (natural_of n)

module _ {S : Type 0} (k : SymbolKind S) where
  abbrev pub is_zero : Object S → Bool
  is_zero x = same_object k x (Integer (pos 0))

  unfoldable pub recognized : Recognizer → Object S → Bool
  recognized recognizer.Consp x = is_pair x
  recognized recognizer.Atom x = not (is_pair x)
  recognized recognizer.Null x = is_nil k x
  recognized recognizer.Not x = is_nil k x
  recognized recognizer.Symbolp x = is_symbol x
  recognized recognizer.Stringp x = is_string x
  recognized recognizer.Integerp x = is_integer x
  recognized recognizer.Natp x = is_natural x
  recognized recognizer.Posp x = is_positive x
  recognized recognizer.Booleanp x = is_boolean k x
  recognized recognizer.TrueListp x = is_true_list k x
  recognized recognizer.Alistp x = is_alist k x
  recognized recognizer.Endp x = not (is_pair x)
  recognized recognizer.Zerop x = is_zero x
  recognized recognizer.Zp x = not (is_positive x)
  recognized recognizer.Zip x = not (is_integer x) || is_zero x

  unfoldable pub related : Relation → Object S → Object S → Bool
  related relation.Eq x y = same_object k x y
  related relation.Eql x y = same_object k x y
  related relation.Equal x y = same_object k x y
  related relation.Below x y = int_lt (fix x) (fix y)
  related relation.Same x y = same_object k x y
  related relation.Different x y = not (same_object k x y)
  related relation.Implies x y = is_nil k x || not (is_nil k y)
  related relation.Iff x y = if is_nil k x then is_nil k y else not (is_nil k y)

  -- the object without its sign
  abbrev pub without_sign : Object S → Wanted S
  without_sign (Integer (pos n)) = Old (Integer (pos n))
  without_sign (Integer (negsuc n)) = Number (neg_ℤ (negsuc n))
  without_sign (Symbol s) = Old (Symbol s)
  without_sign (Text bytes) = Old (Text bytes)
  without_sign (Pair a d) = Old (Pair a d)

  unfoldable pub computed : Arithmetic → Object S → Object S → Wanted S
  computed arithmetic.Plus x y = Number (fix x +ℤ fix y)
  computed arithmetic.Times x y = Number (fix x *ℤ fix y)
  computed arithmetic.Minus x y = Number (neg_ℤ (fix x))
  computed arithmetic.Nfix x y = Old (if is_natural x then x else Integer (pos 0))
  computed arithmetic.Ifix x y = Old (if is_integer x then x else Integer (pos 0))
  computed arithmetic.Abs x y = without_sign x
  computed arithmetic.Min x y = Old (if int_lt (fix x) (fix y) then x else y)
  computed arithmetic.Max x y = Old (if int_lt (fix y) (fix x) then x else y)
  computed arithmetic.Floor x y = Number (floor_of (fix x) (fix y))
  computed arithmetic.Mod x y = Number (mod_of (fix x) (fix y))
  computed arithmetic.Truncate x y = Number (truncate_of (fix x) (fix y))
  computed arithmetic.Rem x y = Number (rem_of (fix x) (fix y))
  computed arithmetic.Expt x y = power_of (fix x) y
  computed arithmetic.Ash x y = Shift (fix x) (fix y)
  computed arithmetic.Lognot x y = Number (lognot (fix x))
  computed arithmetic.Logand x y = Number (logand (fix x) (fix y))
  computed arithmetic.Logior x y = Number (logior (fix x) (fix y))
  computed arithmetic.Logxor x y = Number (logxor (fix x) (fix y))

  unfoldable pub listed : Listing → Object S → Object S → Object S → Wanted S
  listed listing.Car x y z = Old (car k x)
  listed listing.Cdr x y z = Old (cdr k x)
  listed listing.Cons x y z = Made (Pair x y)
  listed listing.Len x y z = Number (pos (len x))
  listed listing.Length x y z = Number (pos (size_of x))
  listed listing.Nth x y z = Old (element k (natural_of x) y)
  listed listing.UpdateNth x y z = Update (natural_of x) y z
  listed listing.Append x y z = Made (appended x y)
  listed listing.Revappend x y z = Made (revappended x y)
  listed listing.Member x y z = Old (member k x y)
  listed listing.Assoc x y z = Old (assoc k x y)
  listed listing.Union x y z = Made (union k x y)

  -- the name of a symbol; "" of other objects
  abbrev pub name_of : (S → List ℕ) → Object S → Object S
  name_of see (Integer n) = Text []
  name_of see (Symbol s) = Text (see s)
  name_of see (Text bytes) = Text []
  name_of see (Pair a d) = Text []

  abbrev pub interned_beside : Object S → Object S → Wanted S
  interned_beside (Text bytes) (Symbol s) = Interned bytes s
  interned_beside x y = Old (nil_of k)

  -- `see` gives the names of a symbol
  unfoldable pub named_by : (S → QualifiedName) → Naming → Object S → Object S → Wanted S
  named_by see naming.SymbolName x y = Made (name_of (λ s. (see s).name) x)
  named_by see naming.SymbolPackageName x y = Made (name_of (λ s. (see s).home) x)
  named_by see naming.Intern x y = interned_beside x y
  named_by see naming.StringAppend x y = Made (Text (bytes_of x ++ bytes_of y))

  -- what the primitive is to give of these arguments
  unfoldable pub wanted : (S → QualifiedName) → Prim → Object S → Object S → Object S → Wanted S
  wanted see (prim.Recognizer r) x y z = Old (truth_of k (recognized r x))
  wanted see (prim.Relation r) x y z = Old (truth_of k (related r x y))
  wanted see (prim.Arithmetic a) x y z = computed a x y
  wanted see (prim.Listing l) x y z = listed l x y z
  wanted see (prim.Naming n) x y z = named_by see n x y
  wanted see prim.TheCheck x y z = Old z
