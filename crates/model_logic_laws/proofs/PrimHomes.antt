-- The symbols in what a primitive gives in the logic are those of its arguments, `T` and `NIL`, and one that is interned.
use Rattle.std.specs.Prelude.{ℕ, zero, suc, ◌-◌, List, Bool, true, false, pos, negsuc, nat_eq, int_lt, if◌then◌else◌}
use Rattle.model_objects.specs.Object.{Object, Integer, Symbol, Text, Pair}
use Rattle.model_objects.specs.Named.{Symbols}
use Rattle.model_symbols.specs.Symbols.{QualifiedName}
use Rattle.model_symbols.specs.Opening.{truth_name, nil_name}
use Rattle.model_prims.specs.Kinds.{by_name, truth_of, same_object, is_natural, is_integer}
use Rattle.model_prims.specs.Numbers.{fix, natural_of}
use Rattle.model_prims.specs.Lists.{car, cdr, element, padded, updated, member, is_member, assoc, union, appended, revappended}
use Rattle.model_prims.specs.Values.{Wanted, Old, Number, Made, Power, Shift, Update, Interned, wanted, recognized, related, computed, without_sign, listed, named_by, name_of, interned_beside}
use Rattle.model_prims.specs.declared.prim.Prim.{Prim}
use Rattle.model_prims.specs.declared.prim.Prim.TheVariants as prim
use Rattle.model_prims.specs.declared.prim.Arithmetic.{Arithmetic}
use Rattle.model_prims.specs.declared.prim.Arithmetic.TheVariants as arithmetic
use Rattle.model_prims.specs.declared.prim.Listing.{Listing}
use Rattle.model_prims.specs.declared.prim.Listing.TheVariants as listing
use Rattle.model_prims.specs.declared.prim.Naming.{Naming}
use Rattle.model_prims.specs.declared.prim.Naming.TheVariants as naming

-- each symbol of what is wanted has the property
abbrev pub WantedSymbols : (QualifiedName → Type 0) → Wanted QualifiedName → Type 0
WantedSymbols P (Old o) = Symbols P o
WantedSymbols P (Number n) = Unit {0}
WantedSymbols P (Made o) = Symbols P o
WantedSymbols P (Power b n) = Unit {0}
WantedSymbols P (Shift i c) = Unit {0}
WantedSymbols P (Update n o l) = Symbols P o × Symbols P l
WantedSymbols P (Interned name s) = P s

-- of two objects with the property, either has it
pub either : (P : QualifiedName → Type 0) (b : Bool) (x y : Object QualifiedName) → Symbols P x → Symbols P y → Symbols P (if b then x else y)
either P true x y p q = p
either P false x y p q = q

module _ (P : QualifiedName → Type 0) (at_truth : P truth_name) (at_nil : P nil_name) where
  pub truth_homes : (b : Bool) → Symbols P (truth_of by_name b)
  truth_homes true = at_truth
  truth_homes false = at_nil

  pub car_homes : (x : Object QualifiedName) → Symbols P x → Symbols P (car by_name x)
  car_homes (Integer n) p = at_nil
  car_homes (Symbol s) p = at_nil
  car_homes (Text bytes) p = at_nil
  car_homes (Pair a d) p = p.0

  pub cdr_homes : (x : Object QualifiedName) → Symbols P x → Symbols P (cdr by_name x)
  cdr_homes (Integer n) p = at_nil
  cdr_homes (Symbol s) p = at_nil
  cdr_homes (Text bytes) p = at_nil
  cdr_homes (Pair a d) p = p.1

  pub element_homes : (n : ℕ) (x : Object QualifiedName) → Symbols P x → Symbols P (element by_name n x)
  element_homes n (Integer m) p = at_nil
  element_homes n (Symbol s) p = at_nil
  element_homes n (Text bytes) p = at_nil
  element_homes n (Pair a d) p = either P (nat_eq n 0) a (element by_name (n - 1) d) p.0 (element_homes (n - 1) d p.1)

  pub padded_homes : (n : ℕ) (o : Object QualifiedName) → Symbols P o → Symbols P (padded by_name n o)
  padded_homes zero o p = (p, at_nil)
  padded_homes (suc n) o p = (at_nil, padded_homes n o p)

  pub updated_homes : (n : ℕ) (o x : Object QualifiedName) → Symbols P o → Symbols P x → Symbols P (updated by_name n o x)
  updated_homes n o (Integer m) p q = padded_homes n o p
  updated_homes n o (Symbol s) p q = padded_homes n o p
  updated_homes n o (Text bytes) p q = padded_homes n o p
  updated_homes n o (Pair a d) p q = either P (nat_eq n 0) (Pair o d) (Pair a (updated by_name (n - 1) o d)) (p, q.1) (q.0, updated_homes (n - 1) o d p q.1)

  pub member_homes : (x l : Object QualifiedName) → Symbols P l → Symbols P (member by_name x l)
  member_homes x (Integer m) p = at_nil
  member_homes x (Symbol s) p = at_nil
  member_homes x (Text bytes) p = at_nil
  member_homes x (Pair a d) p = either P (same_object by_name x a) (Pair a d) (member by_name x d) p (member_homes x d p.1)

  assoc_homes : (x l : Object QualifiedName) → Symbols P l → Symbols P (assoc by_name x l)
  assoc_homes x (Integer m) p = at_nil
  assoc_homes x (Symbol s) p = at_nil
  assoc_homes x (Text bytes) p = at_nil
  assoc_homes x (Pair a d) p = either P (same_object by_name x (car by_name a)) a (assoc by_name x d) p.0 (assoc_homes x d p.1)

  appended_homes : (x y : Object QualifiedName) → Symbols P x → Symbols P y → Symbols P (appended x y)
  appended_homes (Integer m) y p q = q
  appended_homes (Symbol s) y p q = q
  appended_homes (Text bytes) y p q = q
  appended_homes (Pair a d) y p q = (p.0, appended_homes d y p.1 q)

  revappended_homes : (x y : Object QualifiedName) → Symbols P x → Symbols P y → Symbols P (revappended x y)
  revappended_homes (Integer m) y p q = q
  revappended_homes (Symbol s) y p q = q
  revappended_homes (Text bytes) y p q = q
  revappended_homes (Pair a d) y p q = revappended_homes d (Pair a y) p.1 (p.0, q)

  union_homes : (x y : Object QualifiedName) → Symbols P x → Symbols P y → Symbols P (union by_name x y)
  union_homes (Integer m) y p q = q
  union_homes (Symbol s) y p q = q
  union_homes (Text bytes) y p q = q
  union_homes (Pair a d) y p q =
      either P (is_member by_name a y) (union by_name d y) (Pair a (union by_name d y)) (union_homes d y p.1 q) (p.0, union_homes d y p.1 q)

  without_sign_homes : (x : Object QualifiedName) → Symbols P x → WantedSymbols P (without_sign by_name x)
  without_sign_homes (Integer (pos n)) p = tt
  without_sign_homes (Integer (negsuc n)) p = tt
  without_sign_homes (Symbol s) p = p
  without_sign_homes (Text bytes) p = tt
  without_sign_homes (Pair a d) p = p

  computed_homes : (a : Arithmetic) (x y : Object QualifiedName) → Symbols P x → Symbols P y → WantedSymbols P (computed by_name a x y)
  unfolding computed
  computed_homes arithmetic.Plus x y p q = tt
  computed_homes arithmetic.Times x y p q = tt
  computed_homes arithmetic.Minus x y p q = tt
  computed_homes arithmetic.Nfix x y p q = either P (is_natural x) x (Integer (pos 0)) p tt
  computed_homes arithmetic.Ifix x y p q = either P (is_integer x) x (Integer (pos 0)) p tt
  computed_homes arithmetic.Abs x y p q = without_sign_homes x p
  computed_homes arithmetic.Min x y p q = either P (int_lt (fix x) (fix y)) x y p q
  computed_homes arithmetic.Max x y p q = either P (int_lt (fix y) (fix x)) x y p q
  computed_homes arithmetic.Floor x y p q = tt
  computed_homes arithmetic.Mod x y p q = tt
  computed_homes arithmetic.Truncate x y p q = tt
  computed_homes arithmetic.Rem x y p q = tt
  computed_homes arithmetic.Expt x y p q = tt
  computed_homes arithmetic.Ash x y p q = tt
  computed_homes arithmetic.Lognot x y p q = tt
  computed_homes arithmetic.Logand x y p q = tt
  computed_homes arithmetic.Logior x y p q = tt
  computed_homes arithmetic.Logxor x y p q = tt

  listed_homes : (l : Listing) (x y z : Object QualifiedName) → Symbols P x → Symbols P y → Symbols P z → WantedSymbols P (listed by_name l x y z)
  unfolding listed
  listed_homes listing.Car x y z p q r = car_homes x p
  listed_homes listing.Cdr x y z p q r = cdr_homes x p
  listed_homes listing.Cons x y z p q r = (p, q)
  listed_homes listing.Len x y z p q r = tt
  listed_homes listing.Length x y z p q r = tt
  listed_homes listing.Nth x y z p q r = element_homes (natural_of x) y q
  listed_homes listing.UpdateNth x y z p q r = (q, r)
  listed_homes listing.Append x y z p q r = appended_homes x y p q
  listed_homes listing.Revappend x y z p q r = revappended_homes x y p q
  listed_homes listing.Member x y z p q r = member_homes x y q
  listed_homes listing.Assoc x y z p q r = assoc_homes x y q
  listed_homes listing.Union x y z p q r = union_homes x y p q

  name_homes : (see : QualifiedName → List ℕ) (x : Object QualifiedName) → Symbols P (name_of by_name see x)
  name_homes see (Integer n) = tt
  name_homes see (Symbol s) = tt
  name_homes see (Text bytes) = tt
  name_homes see (Pair a d) = tt

  beside_homes : (x y : Object QualifiedName) → Symbols P y → WantedSymbols P (interned_beside by_name x y)
  beside_homes (Text bytes) (Symbol s) q = q
  beside_homes (Text bytes) (Integer n) q = at_nil
  beside_homes (Text bytes) (Text b) q = at_nil
  beside_homes (Text bytes) (Pair b e) q = at_nil
  beside_homes (Integer n) y q = at_nil
  beside_homes (Symbol s) y q = at_nil
  beside_homes (Pair a d) y q = at_nil

  named_homes : (see : QualifiedName → QualifiedName) (n : Naming) (x y : Object QualifiedName) → Symbols P y → WantedSymbols P (named_by by_name see n x y)
  unfolding named_by
  named_homes see naming.SymbolName x y q = name_homes (λ s. (see s).name) x
  named_homes see naming.SymbolPackageName x y q = name_homes (λ s. (see s).home) x
  named_homes see naming.Intern x y q = beside_homes x y q
  named_homes see naming.StringAppend x y q = tt

  pub wanted_homes : (see : QualifiedName → QualifiedName) (f : Prim) (x y z : Object QualifiedName) → Symbols P x → Symbols P y → Symbols P z → WantedSymbols P (wanted by_name see f x y z)
  unfolding wanted
  wanted_homes see (prim.Recognizer t) x y z p q r = truth_homes (recognized by_name t x)
  wanted_homes see (prim.Relation t) x y z p q r = truth_homes (related by_name t x y)
  wanted_homes see (prim.Arithmetic a) x y z p q r = computed_homes a x y p q
  wanted_homes see (prim.Listing l) x y z p q r = listed_homes l x y z p q r
  wanted_homes see (prim.Naming n) x y z p q r = named_homes see n x y q
  wanted_homes see prim.TheCheck x y z p q r = r
