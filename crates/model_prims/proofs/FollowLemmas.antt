-- What a checked primitive gives is its value in the logic.
use Rattle.std.specs.Prelude.{◌≡◌, ℕ, ◌<◌, List, [], ◌∷◌, ◌++◌, length, Bool, true, false, Option, Some, None, ℤ, pos, negsuc, nat_eq, nat_le, unwrap_or, if◌then◌else◌, refl}
use Rattle.std.proofs.Common.{ap, sym, ◌∙◌, subst}
use Rattle.std.proofs.lemmas.Bool.Decides.{Decides-eqb, same_from_decides}
use Rattle.std.specs.Bool.{Decides}
use Rattle.model_objects.specs.Object.{Object, Integer, Symbol, Text, Pair, weight, max_weight, fits_128, has_narrow_integers}
use Rattle.model_objects.specs.Named.{Knows}
use Rattle.model_symbols.specs.Symbols.{QualifiedName, Table, number_of, interned, is_one_too_many, symbol_at, same_name, form_of}
use Rattle.model_symbols.specs.Tables.{IsTable}
use Rattle.model_symbols.specs.Opening.{truth, nil}
use Rattle.model_symbols.proofs.NameLemmas.{number-Some, number-push_same, interned-known, interned-new, symbol_at-is, symbol-at, same_name-Decides}
use Rattle.std.proofs.lemmas.Option.{slice_get_within}
use Rattle.std.specs.Int.{int_pow}
use Rattle.model_prims.specs.Kinds.{by_number, by_name}
use Rattle.model_prims.specs.Numbers.{fix, in_range, power_in_range, shift_in_range, shifted}
use Rattle.model_prims.specs.Lists.{updated}
use Rattle.model_prims.specs.Guards.{guard}
use Rattle.model_prims.specs.Values.{Wanted, Old, Number, Made, Power, Shift, Update, Interned, wanted, computed, without_sign, listed, named_by, interned_beside}
use Rattle.model_prims.specs.Applied.{Applied, Large, Gives, Stops, logic_value, number_or, weighed, updated_by, number_then, beside, bounded, guarded, applied_to}
use Rattle.model_prims.specs.Applied.{Symbols as NoRoom}
use Rattle.model_prims.proofs.ByName.{IsNaming, wanted_named}
use Rattle.model_prims.specs.Laws.{NamesTruth, FollowsLogic}
use Rattle.model_prims.proofs.AtOnce.{is_at_once}
use Rattle.model_prims.proofs.NamingLemmas.{wanted_by_name, updated_named}
use Rattle.model_prims.specs.declared.prim.Prim.{Prim}
use Rattle.model_prims.specs.declared.prim.Prim.TheVariants as prim
use Rattle.model_prims.specs.declared.prim.Arithmetic.{Arithmetic}
use Rattle.model_prims.specs.declared.prim.Arithmetic.TheVariants as arithmetic
use Rattle.model_prims.specs.declared.prim.Listing.{Listing}
use Rattle.model_prims.specs.declared.prim.Listing.TheVariants as listing
use Rattle.model_prims.specs.declared.prim.Naming.{Naming}
use Rattle.model_prims.specs.declared.prim.Naming.TheVariants as naming

-- ---- the names of a table tell its numbers apart

module _ (t : Table) (i : IsTable t) where
  apart : (m n : ℕ) → m < length t.symbols → n < length t.symbols → symbol_at t.symbols m ≡ symbol_at t.symbols n → m ≡ n
  apart m n k l e = i.distinct m n (symbol_at t.symbols n) (symbol-at t.symbols m k ∙ ap Some e) (symbol-at t.symbols n l)

  named_apart : (m n : ℕ) → m < length t.symbols → n < length t.symbols → same_name (symbol_at t.symbols m) (symbol_at t.symbols n) ≡ nat_eq m n
  named_apart m n k l =
      let names : Decides (same_name (symbol_at t.symbols m) (symbol_at t.symbols n)) (symbol_at t.symbols m ≡ symbol_at t.symbols n) = same_name-Decides (symbol_at t.symbols m) (symbol_at t.symbols n) in
      same_from_decides (same_name (symbol_at t.symbols m) (symbol_at t.symbols n)) (nat_eq m n) (λ e. apart m n k l (names.0 e), λ e. names.1 (ap (symbol_at t.symbols) e)) (Decides-eqb m n)

  pub is_naming : NamesTruth t → IsNaming (symbol_at t.symbols) (λ s. s < length t.symbols)
  is_naming n = record {
    same = named_apart;
    at_truth = symbol_at-is t.symbols truth _ n.at_truth;
    at_nil = symbol_at-is t.symbols nil _ n.at_nil;
    knows_truth = slice_get_within t.symbols truth _ n.at_truth;
    knows_nil = slice_get_within t.symbols nil _ n.at_nil;
  }

-- ---- what is to be shifted is in range

abbrev ShiftsNarrow : Wanted ℕ → Type 0
ShiftsNarrow (Old o) = Unit {0}
ShiftsNarrow (Number n) = Unit {0}
ShiftsNarrow (Made o) = Unit {0}
ShiftsNarrow (Power b n) = Unit {0}
ShiftsNarrow (Shift i c) = Unit {0}
ShiftsNarrow (Update n o l) = Unit {0}
ShiftsNarrow (Interned name s) = Unit {0}

without_sign_narrow : (x : Object ℕ) → ShiftsNarrow (without_sign by_number x)
without_sign_narrow (Integer (pos n)) = tt
without_sign_narrow (Integer (negsuc n)) = tt
without_sign_narrow (Symbol s) = tt
without_sign_narrow (Text bytes) = tt
without_sign_narrow (Pair a d) = tt

computed_narrow : (a : Arithmetic) (x y : Object ℕ) → ShiftsNarrow (computed by_number a x y)
unfolding computed
computed_narrow arithmetic.Plus x y = tt
computed_narrow arithmetic.Times x y = tt
computed_narrow arithmetic.Minus x y = tt
computed_narrow arithmetic.Nfix x y = tt
computed_narrow arithmetic.Ifix x y = tt
computed_narrow arithmetic.Abs x y = without_sign_narrow x
computed_narrow arithmetic.Min x y = tt
computed_narrow arithmetic.Max x y = tt
computed_narrow arithmetic.Floor x y = tt
computed_narrow arithmetic.Mod x y = tt
computed_narrow arithmetic.Truncate x y = tt
computed_narrow arithmetic.Rem x y = tt
computed_narrow arithmetic.Expt x y = tt
computed_narrow arithmetic.Ash x y = tt
computed_narrow arithmetic.Lognot x y = tt
computed_narrow arithmetic.Logand x y = tt
computed_narrow arithmetic.Logior x y = tt
computed_narrow arithmetic.Logxor x y = tt

listed_narrow : (l : Listing) (x y z : Object ℕ) → ShiftsNarrow (listed by_number l x y z)
unfolding listed
listed_narrow listing.Car x y z = tt
listed_narrow listing.Cdr x y z = tt
listed_narrow listing.Cons x y z = tt
listed_narrow listing.Len x y z = tt
listed_narrow listing.Length x y z = tt
listed_narrow listing.Nth x y z = tt
listed_narrow listing.UpdateNth x y z = tt
listed_narrow listing.Append x y z = tt
listed_narrow listing.Revappend x y z = tt
listed_narrow listing.Member x y z = tt
listed_narrow listing.Assoc x y z = tt
listed_narrow listing.Union x y z = tt

beside_narrow : (x y : Object ℕ) → ShiftsNarrow (interned_beside by_number x y)
beside_narrow (Text bytes) (Symbol s) = tt
beside_narrow (Text bytes) (Integer n) = tt
beside_narrow (Text bytes) (Text b) = tt
beside_narrow (Text bytes) (Pair b e) = tt
beside_narrow (Integer n) y = tt
beside_narrow (Symbol s) y = tt
beside_narrow (Pair a d) y = tt

named_narrow : (see : ℕ → QualifiedName) (n : Naming) (x y : Object ℕ) → ShiftsNarrow (named_by by_number see n x y)
unfolding named_by
named_narrow see naming.SymbolName x y = tt
named_narrow see naming.SymbolPackageName x y = tt
named_narrow see naming.Intern x y = beside_narrow x y
named_narrow see naming.StringAppend x y = tt

wanted_narrow : (see : ℕ → QualifiedName) (p : Prim) (x y z : Object ℕ) → ShiftsNarrow (wanted by_number see p x y z)
unfolding wanted
wanted_narrow see (prim.Recognizer r) x y z = tt
wanted_narrow see (prim.Relation r) x y z = tt
wanted_narrow see (prim.Arithmetic a) x y z = computed_narrow a x y
wanted_narrow see (prim.Listing l) x y z = listed_narrow l x y z
wanted_narrow see (prim.Naming n) x y z = named_narrow see n x y
wanted_narrow see prim.TheCheck x y z = tt

-- ---- what is given is the value

-- what is given is this, symbols by name
abbrev IsNamed : Object QualifiedName → Applied → Type 0
IsNamed v (Gives o symbols) = v ≡ form_of symbols o
IsNamed v (Stops s) = Unit {0}

ranged : (ss : List QualifiedName) (b : Bool) (z : ℤ) → IsNamed (Integer z) (number_or ss (if b then Some z else None))
ranged ss true z = refl
ranged ss false z = tt

at_once : (ss : List QualifiedName) (r : Option ℤ) (z : ℤ) → r ≡ in_range z → IsNamed (Integer z) (number_or ss r)
at_once ss r z e = subst (λ q. IsNamed (Integer z) (number_or ss q)) (sym e) (ranged ss (fits_128 z) z)

within : (ss : List QualifiedName) (b : Bool) (o : Object ℕ) → IsNamed (form_of ss o) (if b then Gives o ss else Stops Large)
within ss true o = refl
within ss false o = tt

is_at : (us : List QualifiedName) (q : QualifiedName) (n : ℕ) → number_of us q ≡ Some n → symbol_at us (unwrap_or (number_of us q) 0) ≡ q
is_at us q n e = ap (λ o. symbol_at us (unwrap_or o 0)) e ∙ symbol_at-is us n q (number-Some us q n e)

there : (ss : List QualifiedName) (q : QualifiedName) → symbol_at (interned ss q) (number_then ss q) ≡ q
there ss q = go (number_of ss q) refl
  where
    go : (r : Option ℕ) → number_of ss q ≡ r → symbol_at (interned ss q) (number_then ss q) ≡ q
    go (Some n) e = subst (λ us. symbol_at us (unwrap_or (number_of us q) 0) ≡ q) (sym (interned-known ss q n e)) (is_at ss q n e)
    go None e = subst (λ us. symbol_at us (unwrap_or (number_of us q) 0) ≡ q) (sym (interned-new ss q e)) (is_at (ss ++ q ∷ []) q (length ss) (number-push_same ss q e))

given_symbol : (b : Bool) (ss : List QualifiedName) (q : QualifiedName) → IsNamed (Symbol q) (if b then Stops NoRoom else Gives (Symbol (number_then ss q)) (interned ss q))
given_symbol true ss q = tt
given_symbol false ss q = ap Symbol (sym (there ss q))

module _ (t : Table) (n : IsNaming (symbol_at t.symbols) (λ s. s < length t.symbols)) where
  given_list : (b : Bool) (k : ℕ) (o l : Object ℕ) → IsNamed (updated by_name k (form_of t.symbols o) (form_of t.symbols l)) (updated_by b t.symbols k o l)
  given_list false k o l = tt
  given_list true k o l =
      subst (λ v. IsNamed v (weighed t.symbols (updated by_number k o l))) (sym (updated_named (symbol_at t.symbols) (λ s. s < length t.symbols) n k o l))
      (within t.symbols (nat_le (weight (updated by_number k o l)) max_weight) (updated by_number k o l))

  bounded_follows : (w : Wanted ℕ) → ShiftsNarrow w → IsNamed (logic_value t.packages (wanted_named (symbol_at t.symbols) w)) (bounded t w)
  unfolding bounded
  bounded_follows (Old o) e = refl
  bounded_follows (Number z) e = ranged t.symbols (fits_128 z) z
  bounded_follows (Made o) e = within t.symbols (nat_le (weight o) max_weight) o
  bounded_follows (Power b k) e = at_once t.symbols (power_in_range b k) (int_pow b k) (is_at_once.power b k)
  bounded_follows (Shift i c) e = at_once t.symbols (shift_in_range i c) (shifted i c) (is_at_once.shift i c)
  bounded_follows (Update k o l) e = given_list (nat_le k max_weight) k o l
  bounded_follows (Interned name s) e = given_symbol (is_one_too_many t.symbols (beside t name s)) t.symbols (beside t name s)

  guarded_follows : (b : Bool) (w : Wanted ℕ) → ShiftsNarrow w → IsNamed (logic_value t.packages (wanted_named (symbol_at t.symbols) w)) (guarded b t w)
  guarded_follows true w e = bounded_follows w e
  guarded_follows false w e = tt

  applied_follows : (p : Prim) (x y z : Object ℕ) → Knows (length t.symbols) x → Knows (length t.symbols) y
      → IsNamed (logic_value t.packages (wanted by_name (λ s. s) p (form_of t.symbols x) (form_of t.symbols y) (form_of t.symbols z))) (applied_to t p x y z)
  unfolding applied_to
  applied_follows p x y z j k =
      subst (λ w. IsNamed (logic_value t.packages w) (guarded (guard by_number p x y z) t (wanted by_number (symbol_at t.symbols) p x y z)))
      (sym (wanted_by_name (symbol_at t.symbols) (λ s. s < length t.symbols) n p x y z j k))
      (guarded_follows (guard by_number p x y z) (wanted by_number (symbol_at t.symbols) p x y z) (wanted_narrow (symbol_at t.symbols) p x y z))

pub follows_logic : FollowsLogic
follows_logic = record {
  follows = λ t p x y z o symbols i n j k l g.
      let follow : IsNamed (logic_value t.packages (wanted by_name (λ s. s) p (form_of t.symbols x) (form_of t.symbols y) (form_of t.symbols z))) (applied_to t p x y z) = applied_follows t (is_naming t i n) p x y z j k in
      subst (IsNamed (logic_value t.packages (wanted by_name (λ s. s) p (form_of t.symbols x) (form_of t.symbols y) (form_of t.symbols z)))) g follow;
}
