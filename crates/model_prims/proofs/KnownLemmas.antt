-- The symbols in what a primitive gives are those of its arguments, `T` and `NIL`.
use Rattle.std.specs.Prelude.{ℕ, zero, suc, ◌-◌, List, Bool, true, false, pos, negsuc, nat_eq, int_lt, if◌then◌else◌}
use Rattle.model_objects.specs.Object.{Object, Integer, Symbol, Text, Pair}
use Rattle.model_objects.specs.Named.{Symbols}
use Rattle.model_symbols.specs.Symbols.{QualifiedName}
use Rattle.model_symbols.specs.Opening.{truth, nil}
use Rattle.model_prims.specs.Kinds.{by_number, truth_of, same_object, is_natural, is_integer}
use Rattle.model_prims.specs.Numbers.{fix, natural_of}
use Rattle.model_prims.specs.Lists.{car, cdr, element, padded, updated, member, is_member, assoc, union, appended, revappended}
use Rattle.model_prims.specs.Values.{wanted, recognized, related, computed, without_sign, listed, named_by, name_of, interned_beside}
use Rattle.model_prims.proofs.Known.{WantedSymbols}
use Rattle.model_prims.specs.declared.prim.Prim.{Prim}
use Rattle.model_prims.specs.declared.prim.Prim.TheVariants as prim
use Rattle.model_prims.specs.declared.prim.Arithmetic.{Arithmetic}
use Rattle.model_prims.specs.declared.prim.Arithmetic.TheVariants as arithmetic
use Rattle.model_prims.specs.declared.prim.Listing.{Listing}
use Rattle.model_prims.specs.declared.prim.Listing.TheVariants as listing
use Rattle.model_prims.specs.declared.prim.Naming.{Naming}
use Rattle.model_prims.specs.declared.prim.Naming.TheVariants as naming

-- of two objects with the property, either has it
either : (P : ℕ → Type 0) (b : Bool) (x y : Object ℕ) → Symbols P x → Symbols P y → Symbols P (if b then x else y)
either P true x y p q = p
either P false x y p q = q

module _ (P : ℕ → Type 0) (at_truth : P truth) (at_nil : P nil) where
  pub truth_known : (b : Bool) → Symbols P (truth_of by_number b)
  truth_known true = at_truth
  truth_known false = at_nil

  pub car_known : (x : Object ℕ) → Symbols P x → Symbols P (car by_number x)
  car_known (Integer n) p = at_nil
  car_known (Symbol s) p = at_nil
  car_known (Text bytes) p = at_nil
  car_known (Pair a d) p = p.0

  pub cdr_known : (x : Object ℕ) → Symbols P x → Symbols P (cdr by_number x)
  cdr_known (Integer n) p = at_nil
  cdr_known (Symbol s) p = at_nil
  cdr_known (Text bytes) p = at_nil
  cdr_known (Pair a d) p = p.1

  pub element_known : (n : ℕ) (x : Object ℕ) → Symbols P x → Symbols P (element by_number n x)
  element_known n (Integer m) p = at_nil
  element_known n (Symbol s) p = at_nil
  element_known n (Text bytes) p = at_nil
  element_known n (Pair a d) p = either P (nat_eq n 0) a (element by_number (n - 1) d) p.0 (element_known (n - 1) d p.1)

  pub padded_known : (n : ℕ) (o : Object ℕ) → Symbols P o → Symbols P (padded by_number n o)
  padded_known zero o p = (p, at_nil)
  padded_known (suc n) o p = (at_nil, padded_known n o p)

  pub updated_known : (n : ℕ) (o x : Object ℕ) → Symbols P o → Symbols P x → Symbols P (updated by_number n o x)
  updated_known n o (Integer m) p q = padded_known n o p
  updated_known n o (Symbol s) p q = padded_known n o p
  updated_known n o (Text bytes) p q = padded_known n o p
  updated_known n o (Pair a d) p q = either P (nat_eq n 0) (Pair o d) (Pair a (updated by_number (n - 1) o d)) (p, q.1) (q.0, updated_known (n - 1) o d p q.1)

  pub member_known : (x l : Object ℕ) → Symbols P l → Symbols P (member by_number x l)
  member_known x (Integer m) p = at_nil
  member_known x (Symbol s) p = at_nil
  member_known x (Text bytes) p = at_nil
  member_known x (Pair a d) p = either P (same_object by_number x a) (Pair a d) (member by_number x d) p (member_known x d p.1)

  assoc_known : (x l : Object ℕ) → Symbols P l → Symbols P (assoc by_number x l)
  assoc_known x (Integer m) p = at_nil
  assoc_known x (Symbol s) p = at_nil
  assoc_known x (Text bytes) p = at_nil
  assoc_known x (Pair a d) p = either P (same_object by_number x (car by_number a)) a (assoc by_number x d) p.0 (assoc_known x d p.1)

  appended_known : (x y : Object ℕ) → Symbols P x → Symbols P y → Symbols P (appended x y)
  appended_known (Integer m) y p q = q
  appended_known (Symbol s) y p q = q
  appended_known (Text bytes) y p q = q
  appended_known (Pair a d) y p q = (p.0, appended_known d y p.1 q)

  revappended_known : (x y : Object ℕ) → Symbols P x → Symbols P y → Symbols P (revappended x y)
  revappended_known (Integer m) y p q = q
  revappended_known (Symbol s) y p q = q
  revappended_known (Text bytes) y p q = q
  revappended_known (Pair a d) y p q = revappended_known d (Pair a y) p.1 (p.0, q)

  union_known : (x y : Object ℕ) → Symbols P x → Symbols P y → Symbols P (union by_number x y)
  union_known (Integer m) y p q = q
  union_known (Symbol s) y p q = q
  union_known (Text bytes) y p q = q
  union_known (Pair a d) y p q =
      either P (is_member by_number a y) (union by_number d y) (Pair a (union by_number d y)) (union_known d y p.1 q) (p.0, union_known d y p.1 q)

  without_sign_known : (x : Object ℕ) → Symbols P x → WantedSymbols P (without_sign by_number x)
  without_sign_known (Integer (pos n)) p = tt
  without_sign_known (Integer (negsuc n)) p = tt
  without_sign_known (Symbol s) p = p
  without_sign_known (Text bytes) p = tt
  without_sign_known (Pair a d) p = p

  computed_known : (a : Arithmetic) (x y : Object ℕ) → Symbols P x → Symbols P y → WantedSymbols P (computed by_number a x y)
  unfolding computed
  computed_known arithmetic.Plus x y p q = tt
  computed_known arithmetic.Times x y p q = tt
  computed_known arithmetic.Minus x y p q = tt
  computed_known arithmetic.Nfix x y p q = either P (is_natural x) x (Integer (pos 0)) p tt
  computed_known arithmetic.Ifix x y p q = either P (is_integer x) x (Integer (pos 0)) p tt
  computed_known arithmetic.Abs x y p q = without_sign_known x p
  computed_known arithmetic.Min x y p q = either P (int_lt (fix x) (fix y)) x y p q
  computed_known arithmetic.Max x y p q = either P (int_lt (fix y) (fix x)) x y p q
  computed_known arithmetic.Floor x y p q = tt
  computed_known arithmetic.Mod x y p q = tt
  computed_known arithmetic.Truncate x y p q = tt
  computed_known arithmetic.Rem x y p q = tt
  computed_known arithmetic.Expt x y p q = tt
  computed_known arithmetic.Ash x y p q = tt
  computed_known arithmetic.Lognot x y p q = tt
  computed_known arithmetic.Logand x y p q = tt
  computed_known arithmetic.Logior x y p q = tt
  computed_known arithmetic.Logxor x y p q = tt

  listed_known : (l : Listing) (x y z : Object ℕ) → Symbols P x → Symbols P y → Symbols P z → WantedSymbols P (listed by_number l x y z)
  unfolding listed
  listed_known listing.Car x y z p q r = car_known x p
  listed_known listing.Cdr x y z p q r = cdr_known x p
  listed_known listing.Cons x y z p q r = (p, q)
  listed_known listing.Len x y z p q r = tt
  listed_known listing.Length x y z p q r = tt
  listed_known listing.Nth x y z p q r = element_known (natural_of x) y q
  listed_known listing.UpdateNth x y z p q r = (q, r)
  listed_known listing.Append x y z p q r = appended_known x y p q
  listed_known listing.Revappend x y z p q r = revappended_known x y p q
  listed_known listing.Member x y z p q r = member_known x y q
  listed_known listing.Assoc x y z p q r = assoc_known x y q
  listed_known listing.Union x y z p q r = union_known x y p q

  name_known : (see : ℕ → List ℕ) (x : Object ℕ) → Symbols P (name_of by_number see x)
  name_known see (Integer n) = tt
  name_known see (Symbol s) = tt
  name_known see (Text bytes) = tt
  name_known see (Pair a d) = tt

  beside_known : (x y : Object ℕ) → Symbols P y → WantedSymbols P (interned_beside by_number x y)
  beside_known (Text bytes) (Symbol s) q = q
  beside_known (Text bytes) (Integer n) q = at_nil
  beside_known (Text bytes) (Text b) q = at_nil
  beside_known (Text bytes) (Pair b e) q = at_nil
  beside_known (Integer n) y q = at_nil
  beside_known (Symbol s) y q = at_nil
  beside_known (Pair a d) y q = at_nil

  named_known : (see : ℕ → QualifiedName) (n : Naming) (x y : Object ℕ) → Symbols P y → WantedSymbols P (named_by by_number see n x y)
  unfolding named_by
  named_known see naming.SymbolName x y q = name_known (λ s. (see s).name) x
  named_known see naming.SymbolPackageName x y q = name_known (λ s. (see s).home) x
  named_known see naming.Intern x y q = beside_known x y q
  named_known see naming.StringAppend x y q = tt

  pub wanted_known : (see : ℕ → QualifiedName) (f : Prim) (x y z : Object ℕ) → Symbols P x → Symbols P y → Symbols P z → WantedSymbols P (wanted by_number see f x y z)
  unfolding wanted
  wanted_known see (prim.Recognizer t) x y z p q r = truth_known (recognized by_number t x)
  wanted_known see (prim.Relation t) x y z p q r = truth_known (related by_number t x y)
  wanted_known see (prim.Arithmetic a) x y z p q r = computed_known a x y p q
  wanted_known see (prim.Listing l) x y z p q r = listed_known l x y z p q r
  wanted_known see (prim.Naming n) x y z p q r = named_known see n x y q
  wanted_known see prim.TheCheck x y z p q r = r
