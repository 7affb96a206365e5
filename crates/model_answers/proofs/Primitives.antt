-- A primitive by name gives what it gives by number, where there is room for symbols.
use Rattle.std.proofs.Common.{◌≡◌, ℕ, ◌<◌, List, [], ◌∷◌, length, Bool, true, false, Option, Some, None, refl, sym, ap, ◌∙◌, subst}
use Rattle.std.specs.Prelude.{not, nat_le, ℤ, pos, negsuc, if◌then◌else◌}
use Rattle.model_prims.specs.declared.prim.Recognizer.{Recognizer}
use Rattle.model_prims.specs.declared.prim.Relation.{Relation}
use Rattle.model_prims.specs.declared.prim.Arithmetic.{Arithmetic}
use Rattle.model_prims.specs.declared.prim.Listing.{Listing}
use Rattle.model_prims.specs.declared.prim.Naming.{Naming}
use Rattle.model_prims.specs.declared.prim.Prim.{Prim}
use Rattle.model_prims.specs.Applied.{Applied, applied_to, beside, bounded, guarded, logic_value, number_or, number_then, package_called, updated_by, weighed}
use Rattle.model_eval.specs.Outcomes.{Gives, Guard, Large, Outcome, Plain, Range, Shown, State, stops_here}
use Rattle.model_prims.specs.Values.{Interned, Made, Number, Old, Power, Shift, Update, Wanted, wanted}
use Rattle.model_prims.proofs.ByName.{IsNaming, wanted_named}
use Rattle.model_symbols.specs.Tables.{IsTable}
use Rattle.model_objects.specs.Named.{Knows, Symbols}
use Rattle.model_prims.specs.Laws.{NamesTruth}
use Rattle.model_objects.specs.Object.{Object, Symbol, max_weight, named, weight}
use Rattle.model_symbols.specs.Symbols.{QualifiedName, Table, form_of, interned, is_one_too_many, symbol_at, symbol_in}
use Rattle.model_logic.specs.Logic.{Thing}
use Rattle.model_abstract.specs.Rules.{abstract_applied, bounded_value, gives_number, gives_shifted, gives_weighed, gives_value}
use Rattle.model_prims.specs.Kinds.{by_name, by_number}
use Rattle.model_prims.proofs.FollowLemmas.{follows_logic}
use Rattle.model_prims.specs.Guards.{guard, are_integers, arithmetic_guard, can_divide, is_pair_or_nil, listing_guard, naming_guard, recognizer_guard, relation_guard}
use Rattle.model_prims.specs.Numbers.{in_range, power_in_range, shift_in_range}
use Rattle.model_prims.proofs.NamingLemmas.{integer_named, nil_named, pair_named, updated_named, wanted_by_name, alist_named, is_natural_named, string_named, symbol_named, true_list_named, zero_named}
use Rattle.model_prims.proofs.AtOnce.{is_at_once}
use Rattle.model_eval_laws.specs.Scope.{names}
use Rattle.model_prims.specs.Lists.{updated}
use Rattle.model_objects.proofs.NamedLemmas.{weight-named}
use Rattle.model_prims.specs.declared.prim.Recognizer.TheVariants as recognizer
use Rattle.model_prims.specs.declared.prim.Relation.TheVariants as relation
use Rattle.model_prims.specs.declared.prim.Arithmetic.TheVariants as arithmetic
use Rattle.model_prims.specs.declared.prim.Listing.TheVariants as listing
use Rattle.model_prims.specs.declared.prim.Naming.TheVariants as naming
use Rattle.model_prims.specs.declared.prim.Prim.TheVariants as prim
use Rattle.model_prims.specs.Applied as prims

-- ---- guards

module _ (f : ℕ → QualifiedName) (P : ℕ → Type 0) (n : IsNaming f P) where
  integers_named : (x y : Object ℕ) → are_integers (named f x) (named f y) ≡ are_integers x y
  integers_named x y = rw (integer_named f x, integer_named f y) refl

  divide_named : (x y : Object ℕ) → Symbols P y → can_divide by_name (named f x) (named f y) ≡ can_divide by_number x y
  divide_named x y q = rw (integer_named f x, integer_named f y, zero_named f P n y q) refl

  pair_or_nil_named : (x : Object ℕ) → Symbols P x → is_pair_or_nil by_name (named f x) ≡ is_pair_or_nil by_number x
  pair_or_nil_named x p = rw (pair_named f x, nil_named f P n x p) refl

  recognizer_guard_named : (r : Recognizer) (x : Object ℕ) → Symbols P x → recognizer_guard by_name r (named f x) ≡ recognizer_guard by_number r x
  unfolding recognizer_guard
  recognizer_guard_named recognizer.Consp x p = refl
  recognizer_guard_named recognizer.Atom x p = refl
  recognizer_guard_named recognizer.Null x p = refl
  recognizer_guard_named recognizer.Not x p = refl
  recognizer_guard_named recognizer.Symbolp x p = refl
  recognizer_guard_named recognizer.Stringp x p = refl
  recognizer_guard_named recognizer.Integerp x p = refl
  recognizer_guard_named recognizer.Natp x p = refl
  recognizer_guard_named recognizer.Posp x p = refl
  recognizer_guard_named recognizer.Booleanp x p = refl
  recognizer_guard_named recognizer.TrueListp x p = refl
  recognizer_guard_named recognizer.Alistp x p = refl
  recognizer_guard_named recognizer.Endp x p = pair_or_nil_named x p
  recognizer_guard_named recognizer.Zerop x p = integer_named f x
  recognizer_guard_named recognizer.Zp x p = is_natural_named f x
  recognizer_guard_named recognizer.Zip x p = integer_named f x

  relation_guard_named : (r : Relation) (x y : Object ℕ) → relation_guard by_name r (named f x) (named f y) ≡ relation_guard by_number r x y
  unfolding relation_guard
  relation_guard_named relation.Eq x y = rw (symbol_named f x, symbol_named f y) refl
  relation_guard_named relation.Eql x y = rw (integer_named f x, symbol_named f x, integer_named f y, symbol_named f y) refl
  relation_guard_named relation.Equal x y = refl
  relation_guard_named relation.Below x y = integers_named x y
  relation_guard_named relation.Same x y = integers_named x y
  relation_guard_named relation.Different x y = integers_named x y
  relation_guard_named relation.Implies x y = refl
  relation_guard_named relation.Iff x y = refl

  arithmetic_guard_named : (a : Arithmetic) (x y : Object ℕ) → Symbols P y → arithmetic_guard by_name a (named f x) (named f y) ≡ arithmetic_guard by_number a x y
  unfolding arithmetic_guard
  arithmetic_guard_named arithmetic.Plus x y q = integers_named x y
  arithmetic_guard_named arithmetic.Times x y q = integers_named x y
  arithmetic_guard_named arithmetic.Minus x y q = integer_named f x
  arithmetic_guard_named arithmetic.Nfix x y q = refl
  arithmetic_guard_named arithmetic.Ifix x y q = refl
  arithmetic_guard_named arithmetic.Abs x y q = integer_named f x
  arithmetic_guard_named arithmetic.Min x y q = integers_named x y
  arithmetic_guard_named arithmetic.Max x y q = integers_named x y
  arithmetic_guard_named arithmetic.Floor x y q = divide_named x y q
  arithmetic_guard_named arithmetic.Mod x y q = divide_named x y q
  arithmetic_guard_named arithmetic.Truncate x y q = divide_named x y q
  arithmetic_guard_named arithmetic.Rem x y q = divide_named x y q
  arithmetic_guard_named arithmetic.Expt x y q = rw (integer_named f x, is_natural_named f y) refl
  arithmetic_guard_named arithmetic.Ash x y q = integers_named x y
  arithmetic_guard_named arithmetic.Lognot x y q = integer_named f x
  arithmetic_guard_named arithmetic.Logand x y q = integers_named x y
  arithmetic_guard_named arithmetic.Logior x y q = integers_named x y
  arithmetic_guard_named arithmetic.Logxor x y q = integers_named x y

  listing_guard_named : (l : Listing) (x y z : Object ℕ) → Symbols P x → Symbols P y → Symbols P z → listing_guard by_name l (named f x) (named f y) (named f z) ≡ listing_guard by_number l x y z
  unfolding listing_guard
  listing_guard_named listing.Car x y z p q r = pair_or_nil_named x p
  listing_guard_named listing.Cdr x y z p q r = pair_or_nil_named x p
  listing_guard_named listing.Cons x y z p q r = refl
  listing_guard_named listing.Len x y z p q r = refl
  listing_guard_named listing.Length x y z p q r = rw (true_list_named f P n x p, string_named f x) refl
  listing_guard_named listing.Nth x y z p q r = rw (is_natural_named f x, true_list_named f P n y q) refl
  listing_guard_named listing.UpdateNth x y z p q r = rw (is_natural_named f x, true_list_named f P n z r) refl
  listing_guard_named listing.Append x y z p q r = true_list_named f P n x p
  listing_guard_named listing.Revappend x y z p q r = true_list_named f P n x p
  listing_guard_named listing.Member x y z p q r = true_list_named f P n y q
  listing_guard_named listing.Assoc x y z p q r = alist_named f P n y q
  listing_guard_named listing.Union x y z p q r = rw (true_list_named f P n x p, true_list_named f P n y q) refl

  naming_guard_named : (m : Naming) (x y : Object ℕ) → naming_guard by_name m (named f x) (named f y) ≡ naming_guard by_number m x y
  unfolding naming_guard
  naming_guard_named naming.SymbolName x y = symbol_named f x
  naming_guard_named naming.SymbolPackageName x y = symbol_named f x
  naming_guard_named naming.Intern x y = rw (string_named f x, symbol_named f y) refl
  naming_guard_named naming.StringAppend x y = rw (string_named f x, string_named f y) refl

  guard_named : (p : Prim) (x y z : Object ℕ) → Symbols P x → Symbols P y → Symbols P z → guard by_name p (named f x) (named f y) (named f z) ≡ guard by_number p x y z
  unfolding guard
  guard_named (prim.Recognizer r) x y z p q u = recognizer_guard_named r x p
  guard_named (prim.Relation r) x y z p q u = relation_guard_named r x y
  guard_named (prim.Arithmetic a) x y z p q u = arithmetic_guard_named a x y q
  guard_named (prim.Listing l) x y z p q u = listing_guard_named l x y z p q u
  guard_named (prim.Naming m) x y z p q u = naming_guard_named m x y
  guard_named prim.TheCheck x y z p q u = ap not (nil_named f P n x p)

-- ---- values

module _ (t : Table) (name : ℕ) (vs : List (Shown QualifiedName)) (b : State QualifiedName) where
  -- the outcome by name, where that by number is not for want of room for symbols
  abbrev pub IsPrimitive : Applied → Outcome QualifiedName → Type 0
  IsPrimitive (prims.Gives o symbols) q = q ≡ Gives (Plain (form_of symbols o) ∷ []) b
  IsPrimitive (prims.Stops prims.Guard) q = q ≡ stops_here (Guard name vs) b
  IsPrimitive (prims.Stops prims.Range) q = q ≡ stops_here (Range name) b
  IsPrimitive (prims.Stops prims.Large) q = q ≡ stops_here (Large name) b
  IsPrimitive (prims.Stops prims.Symbols) q = Unit {0}

  ranged : (r : Option ℤ) → IsPrimitive (number_or t.symbols r) (gives_number t.packages name b r)
  ranged None = refl
  ranged (Some n) = refl

  weighed_named : (o : Object ℕ) → IsPrimitive (weighed t.symbols o) (gives_weighed t.packages name b (form_of t.symbols o))
  weighed_named o = rw (weight-named (symbol_at t.symbols) o) (go (nat_le (weight o) max_weight))
    where
      go : (c : Bool) → IsPrimitive (if c then prims.Gives o t.symbols else prims.Stops prims.Large) (if c then gives_value t.packages name b (form_of t.symbols o) else stops_here (Large name) b)
      go true = refl
      go false = refl

  shift_named : (i c : ℤ) → IsPrimitive (number_or t.symbols (shift_in_range i c)) (gives_shifted t.packages name b i c)
  shift_named i (pos c) = ranged (shift_in_range i (pos c))
  shift_named i (negsuc c) = rw (sym (is_at_once.shift i (negsuc c))) (ranged (shift_in_range i (negsuc c)))

  module _ (n : IsNaming (symbol_at t.symbols) (λ s. s < length t.symbols)) where
    bounded_named : (v : Wanted ℕ) → ((o : Object ℕ) (more : List QualifiedName) → bounded t v ≡ prims.Gives o more → logic_value t.packages (wanted_named (symbol_at t.symbols) v) ≡ form_of more o)
        → IsPrimitive (bounded t v) (bounded_value t.packages name b (wanted_named (symbol_at t.symbols) v))
    unfolding bounded bounded_value
    bounded_named (Old o) k = refl
    bounded_named (Number z) k = ranged (in_range z)
    bounded_named (Made o) k = weighed_named o
    bounded_named (Power i m) k = ranged (power_in_range i m)
    bounded_named (Shift i c) k = shift_named i c
    bounded_named (Update m o l) k = go (nat_le m max_weight)
      where
        go : (c : Bool) → IsPrimitive (updated_by c t.symbols m o l) (if c then gives_weighed t.packages name b (updated by_name m (form_of t.symbols o) (form_of t.symbols l)) else stops_here (Large name) b)
        go true = rw (updated_named (symbol_at t.symbols) (λ s. s < length t.symbols) n m o l) (weighed_named (updated by_number m o l))
        go false = refl
    bounded_named (Interned bytes s) k = go (is_one_too_many t.symbols (beside t bytes s)) refl
      where
        go : (c : Bool) → is_one_too_many t.symbols (beside t bytes s) ≡ c
            → IsPrimitive (if c then prims.Stops prims.Symbols else prims.Gives (Symbol (number_then t.symbols (beside t bytes s))) (interned t.symbols (beside t bytes s))) (gives_value t.packages name b (Symbol (symbol_in (package_called t.packages (symbol_at t.symbols s).home) bytes)))
        go true e = tt
        go false e =
            ap (λ (q : Thing). Gives (Plain q ∷ []) b)
            (k (Symbol (number_then t.symbols (beside t bytes s))) (interned t.symbols (beside t bytes s))
            (ap (λ (c : Bool). if c then prims.Stops prims.Symbols else prims.Gives (Symbol (number_then t.symbols (beside t bytes s))) (interned t.symbols (beside t bytes s))) e))

    pub applied_named : (is : IsTable t) → NamesTruth t → (p : Prim) (x y z : Object ℕ) → Knows (length t.symbols) x → Knows (length t.symbols) y → Knows (length t.symbols) z
        → IsPrimitive (applied_to t p x y z) (abstract_applied t.packages name b p vs (form_of t.symbols x) (form_of t.symbols y) (form_of t.symbols z))
    unfolding applied_to
    applied_named is names p x y z i j k =
        rw (guard_named (symbol_at t.symbols) (λ s. s < length t.symbols) n p x y z i j k, wanted_by_name (symbol_at t.symbols) (λ s. s < length t.symbols) n p x y z i j)
        (go (guard by_number p x y z) refl)
      where
        v : Wanted ℕ
        v = wanted by_number (symbol_at t.symbols) p x y z

        go : (c : Bool) → guard by_number p x y z ≡ c → IsPrimitive (guarded c t (wanted by_number (symbol_at t.symbols) p x y z))
            (if c then bounded_value t.packages name b (wanted_named (symbol_at t.symbols) (wanted by_number (symbol_at t.symbols) p x y z)) else stops_here (Guard name vs) b)
        go true e =
            bounded_named (wanted by_number (symbol_at t.symbols) p x y z)
            (λ o more g.
            subst (λ (q : Wanted QualifiedName). logic_value t.packages q ≡ form_of more o) (wanted_by_name (symbol_at t.symbols) (λ s. s < length t.symbols) n p x y z i j)
            (follows_logic.follows t p x y z o more is names i j k (ap (λ (c : Bool). guarded c t (wanted by_number (symbol_at t.symbols) p x y z)) e ∙ g)))
        go false e = refl
