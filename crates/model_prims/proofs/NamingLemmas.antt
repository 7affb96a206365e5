-- The value that a checked primitive gives is the one that the logic has, symbols by name.
use Rattle.std.specs.Prelude.{◌≡◌, ℕ, zero, suc, ◌+◌, ◌-◌, List, Bool, true, false, not, pos, negsuc, nat_eq, int_lt, if◌then◌else◌, refl}
use Rattle.std.proofs.Common.{ap, sym, ◌∙◌, subst}
use Rattle.model_objects.specs.Object.{Object, Integer, Symbol, Text, Pair, named}
use Rattle.model_objects.specs.Named.{Symbols}
use Rattle.model_symbols.specs.Symbols.{QualifiedName, same_name}
use Rattle.model_symbols.specs.Opening.{truth, nil, truth_name, nil_name}
use Rattle.model_prims.specs.Kinds.{by_number, by_name, truth_of, nil_of, is_nil, is_boolean, is_integer, is_symbol, is_string, is_pair, is_natural, is_positive, same_object}
use Rattle.model_prims.specs.Numbers.{fix, natural_of}
use Rattle.model_prims.specs.Lists.{len, size_of, car, cdr, is_true_list, is_alist, element, padded, updated, member, is_member, assoc, union, appended, revappended}
use Rattle.model_prims.specs.Values.{Old, Made, wanted, recognized, related, computed, without_sign, listed, named_by, name_of, bytes_of, interned_beside}
use Rattle.model_prims.proofs.ByName.{IsNaming, wanted_named}
use Rattle.model_prims.specs.declared.prim.Prim.{Prim}
use Rattle.model_prims.specs.declared.prim.Prim.TheVariants as prim
use Rattle.model_prims.specs.declared.prim.Recognizer.{Recognizer}
use Rattle.model_prims.specs.declared.prim.Recognizer.TheVariants as recognizer
use Rattle.model_prims.specs.declared.prim.Relation.{Relation}
use Rattle.model_prims.specs.declared.prim.Relation.TheVariants as relation
use Rattle.model_prims.specs.declared.prim.Arithmetic.{Arithmetic}
use Rattle.model_prims.specs.declared.prim.Arithmetic.TheVariants as arithmetic
use Rattle.model_prims.specs.declared.prim.Listing.{Listing}
use Rattle.model_prims.specs.declared.prim.Listing.TheVariants as listing
use Rattle.model_prims.specs.declared.prim.Naming.{Naming}
use Rattle.model_prims.specs.declared.prim.Naming.TheVariants as naming

pub if_named : (f : ℕ → QualifiedName) (b : Bool) (x y : Object ℕ) → named f (if b then x else y) ≡ (if b then named f x else named f y)
if_named f true x y = refl
if_named f false x y = refl

-- ---- what does not look at symbols

pub fix_named : (f : ℕ → QualifiedName) (x : Object ℕ) → fix (named f x) ≡ fix x
fix_named f (Integer n) = refl
fix_named f (Symbol s) = refl
fix_named f (Text bytes) = refl
fix_named f (Pair a d) = refl

pub natural_named : (f : ℕ → QualifiedName) (x : Object ℕ) → natural_of (named f x) ≡ natural_of x
natural_named f (Integer (pos n)) = refl
natural_named f (Integer (negsuc n)) = refl
natural_named f (Symbol s) = refl
natural_named f (Text bytes) = refl
natural_named f (Pair a d) = refl

pub integer_named : (f : ℕ → QualifiedName) (x : Object ℕ) → is_integer (named f x) ≡ is_integer x
integer_named f (Integer n) = refl
integer_named f (Symbol s) = refl
integer_named f (Text bytes) = refl
integer_named f (Pair a d) = refl

pub symbol_named : (f : ℕ → QualifiedName) (x : Object ℕ) → is_symbol (named f x) ≡ is_symbol x
symbol_named f (Integer n) = refl
symbol_named f (Symbol s) = refl
symbol_named f (Text bytes) = refl
symbol_named f (Pair a d) = refl

pub string_named : (f : ℕ → QualifiedName) (x : Object ℕ) → is_string (named f x) ≡ is_string x
string_named f (Integer n) = refl
string_named f (Symbol s) = refl
string_named f (Text bytes) = refl
string_named f (Pair a d) = refl

pub pair_named : (f : ℕ → QualifiedName) (x : Object ℕ) → is_pair (named f x) ≡ is_pair x
pair_named f (Integer n) = refl
pair_named f (Symbol s) = refl
pair_named f (Text bytes) = refl
pair_named f (Pair a d) = refl

pub is_natural_named : (f : ℕ → QualifiedName) (x : Object ℕ) → is_natural (named f x) ≡ is_natural x
is_natural_named f (Integer (pos n)) = refl
is_natural_named f (Integer (negsuc n)) = refl
is_natural_named f (Symbol s) = refl
is_natural_named f (Text bytes) = refl
is_natural_named f (Pair a d) = refl

pub is_positive_named : (f : ℕ → QualifiedName) (x : Object ℕ) → is_positive (named f x) ≡ is_positive x
is_positive_named f (Integer (pos n)) = refl
is_positive_named f (Integer (negsuc n)) = refl
is_positive_named f (Symbol s) = refl
is_positive_named f (Text bytes) = refl
is_positive_named f (Pair a d) = refl

pub len_named : (f : ℕ → QualifiedName) (x : Object ℕ) → len (named f x) ≡ len x
len_named f (Integer n) = refl
len_named f (Symbol s) = refl
len_named f (Text bytes) = refl
len_named f (Pair a d) = ap (λ n. n + 1) (len_named f d)

pub size_named : (f : ℕ → QualifiedName) (x : Object ℕ) → size_of (named f x) ≡ size_of x
size_named f (Integer n) = refl
size_named f (Symbol s) = refl
size_named f (Text bytes) = refl
size_named f (Pair a d) = len_named f (Pair a d)

pub bytes_named : (f : ℕ → QualifiedName) (x : Object ℕ) → bytes_of (named f x) ≡ bytes_of x
bytes_named f (Integer n) = refl
bytes_named f (Symbol s) = refl
bytes_named f (Text bytes) = refl
bytes_named f (Pair a d) = refl

pub appended_named : (f : ℕ → QualifiedName) (x y : Object ℕ) → appended (named f x) (named f y) ≡ named f (appended x y)
appended_named f (Integer n) y = refl
appended_named f (Symbol s) y = refl
appended_named f (Text bytes) y = refl
appended_named f (Pair a d) y = ap (Pair (named f a)) (appended_named f d y)

pub revappended_named : (f : ℕ → QualifiedName) (x y : Object ℕ) → revappended (named f x) (named f y) ≡ named f (revappended x y)
revappended_named f (Integer n) y = refl
revappended_named f (Symbol s) y = refl
revappended_named f (Text bytes) y = refl
revappended_named f (Pair a d) y = revappended_named f d (Pair a y)

pub name_named : (f : ℕ → QualifiedName) (see : QualifiedName → List ℕ) (x : Object ℕ) → name_of by_name see (named f x) ≡ named f (name_of by_number (λ s. see (f s)) x)
name_named f see (Integer n) = refl
name_named f see (Symbol s) = refl
name_named f see (Text bytes) = refl
name_named f see (Pair a d) = refl

-- ---- what looks at symbols

module _ (f : ℕ → QualifiedName) (P : ℕ → Type 0) (i : IsNaming f P) where
  pub truth_named : (b : Bool) → truth_of by_name b ≡ named f (truth_of by_number b)
  truth_named true = ap Symbol (sym i.at_truth)
  truth_named false = ap Symbol (sym i.at_nil)

  pub none_named : nil_of by_name ≡ named f (nil_of by_number)
  none_named = ap Symbol (sym i.at_nil)

  pub the_nil_named : (s : ℕ) → P s → same_name (f s) nil_name ≡ nat_eq s nil
  the_nil_named s p = subst (λ (q : QualifiedName). same_name (f s) q ≡ nat_eq s nil) i.at_nil (i.same s nil p i.knows_nil)

  pub the_truth_named : (s : ℕ) → P s → same_name (f s) truth_name ≡ nat_eq s truth
  the_truth_named s p = subst (λ (q : QualifiedName). same_name (f s) q ≡ nat_eq s truth) i.at_truth (i.same s truth p i.knows_truth)

  pub nil_named : (x : Object ℕ) → Symbols P x → is_nil by_name (named f x) ≡ is_nil by_number x
  nil_named (Integer n) p = refl
  nil_named (Symbol s) p = the_nil_named s p
  nil_named (Text bytes) p = refl
  nil_named (Pair a d) p = refl

  pub boolean_named : (x : Object ℕ) → Symbols P x → is_boolean by_name (named f x) ≡ is_boolean by_number x
  boolean_named (Integer n) p = refl
  boolean_named (Symbol s) p = rw (the_truth_named s p, the_nil_named s p) refl
  boolean_named (Text bytes) p = refl
  boolean_named (Pair a d) p = refl

  pub same_named : (x y : Object ℕ) → Symbols P x → Symbols P y → same_object by_name (named f x) (named f y) ≡ same_object by_number x y
  same_named (Integer m) (Integer n) p q = refl
  same_named (Integer m) (Symbol t) p q = refl
  same_named (Integer m) (Text b) p q = refl
  same_named (Integer m) (Pair b e) p q = refl
  same_named (Symbol s) (Integer n) p q = refl
  same_named (Symbol s) (Symbol t) p q = i.same s t p q
  same_named (Symbol s) (Text b) p q = refl
  same_named (Symbol s) (Pair b e) p q = refl
  same_named (Text a) (Integer n) p q = refl
  same_named (Text a) (Symbol t) p q = refl
  same_named (Text a) (Text b) p q = refl
  same_named (Text a) (Pair b e) p q = refl
  same_named (Pair a d) (Integer n) p q = refl
  same_named (Pair a d) (Symbol t) p q = refl
  same_named (Pair a d) (Text b) p q = refl
  same_named (Pair a d) (Pair b e) p q = rw (same_named a b p.0 q.0, same_named d e p.1 q.1) refl

  pub true_list_named : (x : Object ℕ) → Symbols P x → is_true_list by_name (named f x) ≡ is_true_list by_number x
  true_list_named (Integer n) p = refl
  true_list_named (Symbol s) p = the_nil_named s p
  true_list_named (Text bytes) p = refl
  true_list_named (Pair a d) p = true_list_named d p.1

  pub alist_named : (x : Object ℕ) → Symbols P x → is_alist by_name (named f x) ≡ is_alist by_number x
  alist_named (Integer n) p = refl
  alist_named (Symbol s) p = the_nil_named s p
  alist_named (Text bytes) p = refl
  alist_named (Pair a d) p = rw (pair_named f a, alist_named d p.1) refl

  pub car_named : (x : Object ℕ) → car by_name (named f x) ≡ named f (car by_number x)
  car_named (Integer n) = none_named
  car_named (Symbol s) = none_named
  car_named (Text bytes) = none_named
  car_named (Pair a d) = refl

  pub cdr_named : (x : Object ℕ) → cdr by_name (named f x) ≡ named f (cdr by_number x)
  cdr_named (Integer n) = none_named
  cdr_named (Symbol s) = none_named
  cdr_named (Text bytes) = none_named
  cdr_named (Pair a d) = refl

  pub element_named : (n : ℕ) (x : Object ℕ) → element by_name n (named f x) ≡ named f (element by_number n x)
  element_named n (Integer m) = none_named
  element_named n (Symbol s) = none_named
  element_named n (Text bytes) = none_named
  element_named n (Pair a d) =
      ap (λ r. if nat_eq n 0 then named f a else r) (element_named (n - 1) d) ∙ sym (if_named f (nat_eq n 0) a (element by_number (n - 1) d))

  pub padded_named : (n : ℕ) (o : Object ℕ) → padded by_name n (named f o) ≡ named f (padded by_number n o)
  padded_named zero o = ap (Pair (named f o)) none_named
  padded_named (suc n) o = ap (λ r. Pair (nil_of by_name) r) (padded_named n o) ∙ ap (λ r. Pair r (named f (padded by_number n o))) none_named

  pub updated_named : (n : ℕ) (o x : Object ℕ) → updated by_name n (named f o) (named f x) ≡ named f (updated by_number n o x)
  updated_named n o (Integer m) = padded_named n o
  updated_named n o (Symbol s) = padded_named n o
  updated_named n o (Text bytes) = padded_named n o
  updated_named n o (Pair a d) =
      ap (λ r. if nat_eq n 0 then Pair (named f o) (named f d) else Pair (named f a) r) (updated_named (n - 1) o d)
      ∙ sym (if_named f (nat_eq n 0) (Pair o d) (Pair a (updated by_number (n - 1) o d)))

  pub member_named : (x l : Object ℕ) → Symbols P x → Symbols P l → member by_name (named f x) (named f l) ≡ named f (member by_number x l)
  member_named x (Integer m) p q = none_named
  member_named x (Symbol s) p q = none_named
  member_named x (Text bytes) p q = none_named
  member_named x (Pair a d) p q =
      rw (same_named x a p q.0, member_named x d p q.1) (sym (if_named f (same_object by_number x a) (Pair a d) (member by_number x d)))

  pub is_member_named : (x l : Object ℕ) → Symbols P x → Symbols P l → is_member by_name (named f x) (named f l) ≡ is_member by_number x l
  is_member_named x l p q = ap is_pair (member_named x l p q) ∙ pair_named f (member by_number x l)

  pub union_named : (x y : Object ℕ) → Symbols P x → Symbols P y → union by_name (named f x) (named f y) ≡ named f (union by_number x y)
  union_named (Integer m) y p q = refl
  union_named (Symbol s) y p q = refl
  union_named (Text bytes) y p q = refl
  union_named (Pair a d) y p q =
      rw (is_member_named a y p.0 q, union_named d y p.1 q) (sym (if_named f (is_member by_number a y) (union by_number d y) (Pair a (union by_number d y))))

  pub car_symbols : (x : Object ℕ) → Symbols P x → Symbols P (car by_number x)
  car_symbols (Integer n) p = i.knows_nil
  car_symbols (Symbol s) p = i.knows_nil
  car_symbols (Text bytes) p = i.knows_nil
  car_symbols (Pair a d) p = p.0

  pub assoc_named : (x l : Object ℕ) → Symbols P x → Symbols P l → assoc by_name (named f x) (named f l) ≡ named f (assoc by_number x l)
  assoc_named x (Integer m) p q = none_named
  assoc_named x (Symbol s) p q = none_named
  assoc_named x (Text bytes) p q = none_named
  assoc_named x (Pair a d) p q =
      let first : same_object by_name (named f x) (car by_name (named f a)) ≡ same_object by_number x (car by_number a) = ap (same_object by_name (named f x)) (car_named a) ∙ same_named x (car by_number a) p (car_symbols a q.0) in
      rw (first, assoc_named x d p q.1) (sym (if_named f (same_object by_number x (car by_number a)) a (assoc by_number x d)))

  pub zero_named : (x : Object ℕ) → Symbols P x → same_object by_name (named f x) (Integer (pos 0)) ≡ same_object by_number x (Integer (pos 0))
  zero_named x p = same_named x (Integer (pos 0)) p tt

  pub recognized_named : (r : Recognizer) (x : Object ℕ) → Symbols P x → recognized by_name r (named f x) ≡ recognized by_number r x
  unfolding recognized
  recognized_named recognizer.Consp x p = pair_named f x
  recognized_named recognizer.Atom x p = ap not (pair_named f x)
  recognized_named recognizer.Null x p = nil_named x p
  recognized_named recognizer.Not x p = nil_named x p
  recognized_named recognizer.Symbolp x p = symbol_named f x
  recognized_named recognizer.Stringp x p = string_named f x
  recognized_named recognizer.Integerp x p = integer_named f x
  recognized_named recognizer.Natp x p = is_natural_named f x
  recognized_named recognizer.Posp x p = is_positive_named f x
  recognized_named recognizer.Booleanp x p = boolean_named x p
  recognized_named recognizer.TrueListp x p = true_list_named x p
  recognized_named recognizer.Alistp x p = alist_named x p
  recognized_named recognizer.Endp x p = ap not (pair_named f x)
  recognized_named recognizer.Zerop x p = zero_named x p
  recognized_named recognizer.Zp x p = ap not (is_positive_named f x)
  recognized_named recognizer.Zip x p = rw (integer_named f x, zero_named x p) refl

  pub related_named : (r : Relation) (x y : Object ℕ) → Symbols P x → Symbols P y → related by_name r (named f x) (named f y) ≡ related by_number r x y
  unfolding related
  related_named relation.Eq x y p q = same_named x y p q
  related_named relation.Eql x y p q = same_named x y p q
  related_named relation.Equal x y p q = same_named x y p q
  related_named relation.Below x y p q = rw (fix_named f x, fix_named f y) refl
  related_named relation.Same x y p q = same_named x y p q
  related_named relation.Different x y p q = ap not (same_named x y p q)
  related_named relation.Implies x y p q = rw (nil_named x p, nil_named y q) refl
  related_named relation.Iff x y p q = rw (nil_named x p, nil_named y q) refl

  pub without_sign_named : (x : Object ℕ) → without_sign by_name (named f x) ≡ wanted_named f (without_sign by_number x)
  without_sign_named (Integer (pos n)) = refl
  without_sign_named (Integer (negsuc n)) = refl
  without_sign_named (Symbol s) = refl
  without_sign_named (Text bytes) = refl
  without_sign_named (Pair a d) = refl

  old_if : (b c : Bool) (x y : Object ℕ) → b ≡ c → Old (if b then named f x else named f y) ≡ wanted_named f (Old (if c then x else y))
  old_if b c x y e = rw e (ap Old (sym (if_named f c x y)))

  pub computed_named : (a : Arithmetic) (x y : Object ℕ) → computed by_name a (named f x) (named f y) ≡ wanted_named f (computed by_number a x y)
  unfolding computed
  computed_named arithmetic.Plus x y = rw (fix_named f x, fix_named f y) refl
  computed_named arithmetic.Times x y = rw (fix_named f x, fix_named f y) refl
  computed_named arithmetic.Minus x y = rw (fix_named f x) refl
  computed_named arithmetic.Nfix x y = old_if (is_natural (named f x)) (is_natural x) x (Integer (pos 0)) (is_natural_named f x)
  computed_named arithmetic.Ifix x y = old_if (is_integer (named f x)) (is_integer x) x (Integer (pos 0)) (integer_named f x)
  computed_named arithmetic.Abs x y = without_sign_named x
  computed_named arithmetic.Min x y = old_if (int_lt (fix (named f x)) (fix (named f y))) (int_lt (fix x) (fix y)) x y (rw (fix_named f x, fix_named f y) refl)
  computed_named arithmetic.Max x y = old_if (int_lt (fix (named f y)) (fix (named f x))) (int_lt (fix y) (fix x)) x y (rw (fix_named f x, fix_named f y) refl)
  computed_named arithmetic.Floor x y = rw (fix_named f x, fix_named f y) refl
  computed_named arithmetic.Mod x y = rw (fix_named f x, fix_named f y) refl
  computed_named arithmetic.Truncate x y = rw (fix_named f x, fix_named f y) refl
  computed_named arithmetic.Rem x y = rw (fix_named f x, fix_named f y) refl
  computed_named arithmetic.Expt x y = rw (fix_named f x, natural_named f y) refl
  computed_named arithmetic.Ash x y = rw (fix_named f x, fix_named f y) refl
  computed_named arithmetic.Lognot x y = rw (fix_named f x) refl
  computed_named arithmetic.Logand x y = rw (fix_named f x, fix_named f y) refl
  computed_named arithmetic.Logior x y = rw (fix_named f x, fix_named f y) refl
  computed_named arithmetic.Logxor x y = rw (fix_named f x, fix_named f y) refl

  pub listed_named : (l : Listing) (x y z : Object ℕ) → Symbols P x → Symbols P y → listed by_name l (named f x) (named f y) (named f z) ≡ wanted_named f (listed by_number l x y z)
  unfolding listed
  listed_named listing.Car x y z p q = ap Old (car_named x)
  listed_named listing.Cdr x y z p q = ap Old (cdr_named x)
  listed_named listing.Cons x y z p q = refl
  listed_named listing.Len x y z p q = rw (len_named f x) refl
  listed_named listing.Length x y z p q = rw (size_named f x) refl
  listed_named listing.Nth x y z p q = rw (natural_named f x) (ap Old (element_named (natural_of x) y))
  listed_named listing.UpdateNth x y z p q = rw (natural_named f x) refl
  listed_named listing.Append x y z p q = ap Made (appended_named f x y)
  listed_named listing.Revappend x y z p q = ap Made (revappended_named f x y)
  listed_named listing.Member x y z p q = ap Old (member_named x y p q)
  listed_named listing.Assoc x y z p q = ap Old (assoc_named x y p q)
  listed_named listing.Union x y z p q = ap Made (union_named x y p q)

  pub beside_named : (x y : Object ℕ) → interned_beside by_name (named f x) (named f y) ≡ wanted_named f (interned_beside by_number x y)
  beside_named (Text bytes) (Symbol s) = refl
  beside_named (Text bytes) (Integer n) = ap Old none_named
  beside_named (Text bytes) (Text b) = ap Old none_named
  beside_named (Text bytes) (Pair b e) = ap Old none_named
  beside_named (Integer n) y = ap Old none_named
  beside_named (Symbol s) y = ap Old none_named
  beside_named (Pair a d) y = ap Old none_named

  pub named_by_named : (n : Naming) (x y : Object ℕ) → named_by by_name (λ s. s) n (named f x) (named f y) ≡ wanted_named f (named_by by_number f n x y)
  unfolding named_by
  named_by_named naming.SymbolName x y = ap Made (name_named f (λ q. q.name) x)
  named_by_named naming.SymbolPackageName x y = ap Made (name_named f (λ q. q.home) x)
  named_by_named naming.Intern x y = beside_named x y
  named_by_named naming.StringAppend x y = rw (bytes_named f x, bytes_named f y) refl

  pub wanted_by_name : (p : Prim) (x y z : Object ℕ) → Symbols P x → Symbols P y → wanted by_name (λ s. s) p (named f x) (named f y) (named f z) ≡ wanted_named f (wanted by_number f p x y z)
  unfolding wanted
  wanted_by_name (prim.Recognizer r) x y z p q = rw (recognized_named r x p) (ap Old (truth_named (recognized by_number r x)))
  wanted_by_name (prim.Relation r) x y z p q = rw (related_named r x y p q) (ap Old (truth_named (related by_number r x y)))
  wanted_by_name (prim.Arithmetic a) x y z p q = computed_named a x y
  wanted_by_name (prim.Listing l) x y z p q = listed_named l x y z p q
  wanted_by_name (prim.Naming n) x y z p q = named_by_named n x y
  wanted_by_name prim.TheCheck x y z p q = refl
