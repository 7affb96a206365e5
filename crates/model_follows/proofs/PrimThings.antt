-- What a checked primitive gives, and how it grows the table.
use Rattle.std.proofs.Common.{◌≡◌, ℕ, zero, suc, ◌<◌, List, [], ◌∷◌, map, length, Bool, true, false, Option, Some, None, refl, sym, ap, ◌∙◌, subst, arith}
use Rattle.std.specs.Prelude.{◌&&◌, not, nat_lt, is_some, replicate, if◌then◌else◌}
use Rattle.std.proofs.lemmas.Bool.Decides.{nat_tests}
use Rattle.model_objects.specs.Object.{Object, Symbol}
use Rattle.model_objects.specs.Named.{Knows}
use Rattle.model_symbols.specs.Symbols.{QualifiedName, Package, Table, symbol_at, number_of, package_number, interned, is_one_too_many, most_symbols, form_of}
use Rattle.model_symbols.specs.Growth.{IsPackage, Extends}
use Rattle.model_symbols.specs.Tables.{IsTable}
use Rattle.model_symbols.specs.Opening.{nil, nil_name, truth, truth_name}
use Rattle.model_symbols.proofs.NameLemmas.{symbol_at-is, symbol-at, is_known-is, interned-known, interned-new, package_at-is, package-Some}
use Rattle.model_symbols.proofs.TableLemmas.{Extends-self, Extends-symbol, IsTable-symbol}
use Rattle.model_prims.specs.Kinds.{by_number, by_name}
use Rattle.model_prims.specs.Numbers.{in_range, power_in_range, shift_in_range}
use Rattle.model_prims.specs.Lists.{updated}
use Rattle.model_prims.specs.Guards.{guard}
use Rattle.model_prims.specs.Values.{Wanted, Old, Number, Made, Power, Shift, Update, Interned, wanted}
use Rattle.model_prims.specs.Applied.{Applied, Gives, Stops, argument, package_called, value_of, number_or, weighed, updated_by, interned_or, beside, bounded, guarded, applied_to, applied}
use Rattle.model_prims.specs.Applied as prims
use Rattle.model_prims.specs.Laws.{NamesTruth}
use Rattle.model_prims.specs.declared.prim.Prim.{Prim}
use Rattle.model_prims.proofs.Known.{WantedSymbols}
use Rattle.model_prims.proofs.KnownLemmas.{wanted_known}
use Rattle.model_prims.proofs.GivenLemmas.{gives_known}
use Rattle.model_prims.proofs.FollowLemmas.{follows_logic}
use Rattle.model_terms.specs.Worlds.{World, Ordinary, Scope}
use Rattle.model_eval.specs.Outcomes.{Shown, Plain, StobjNamed}
use Rattle.model_eval.specs.Variables.{ordinary}
use Rattle.model_logic.specs.Logic.{Thing}
use Rattle.model_in_place.specs.Calls.{AreArguments}
use Rattle.model_accepted.proofs.AcceptLemmas.{true_false}
use Rattle.model_follows.specs.Follows.{KnowsAll}
use Rattle.model_follows.proofs.HeldThings.{Held, all_held}
use Rattle.model_follows.proofs.ThingLemmas.{knows_nil, knows_truth}

-- ---- the table after a primitive

abbrev GrowsTo : Table → Applied → Type 0
GrowsTo t (Gives o symbols) = IsTable (record { packages = t.packages; symbols = symbols }) × Extends t (record { packages = t.packages; symbols = symbols })
GrowsTo t (Stops stop) = Unit {0}

module _ (t : Table) (is : IsTable t) where
  same_table : GrowsTo t (Gives (Symbol 0) t.symbols)
  same_table = (is, Extends-self t)

  grows_number : (r : Option _) → GrowsTo t (number_or t.symbols r)
  grows_number None = tt
  grows_number (Some n) = same_table

  grows_weighed : (b : Bool) (o : Object ℕ) → GrowsTo t (if b then Gives o t.symbols else Stops prims.Large)
  grows_weighed true o = same_table
  grows_weighed false o = tt

  home_package : (s : ℕ) → s < length t.symbols → (i : ℕ) × IsPackage t.packages i (package_called t.packages (symbol_at t.symbols s).home)
  home_package s l =
      let home : (i : ℕ) × (package_number t.packages (symbol_at t.symbols s).home ≡ Some i) = is.homes s (symbol_at t.symbols s) (symbol-at t.symbols s l) in
      let there : (p : Package) × IsPackage t.packages home.0 p × (p.name ≡ (symbol_at t.symbols s).home) = package-Some t.packages (symbol_at t.symbols s).home home.0 home.1 in
      (home.0, rw home.1 (subst (IsPackage t.packages home.0) (sym (package_at-is t.packages home.0 there.0 there.1)) there.1))

  room : (q : QualifiedName) → number_of t.symbols q ≡ None → is_one_too_many t.symbols q ≡ false → length t.symbols < most_symbols
  room q e f = go (nat_lt (length t.symbols) most_symbols) refl (subst (λ (b : Bool). (not b && not (nat_lt (length t.symbols) most_symbols)) ≡ false) (is_known-is t.symbols q ∙ ap is_some e) f)
    where
      go : (b : Bool) → nat_lt (length t.symbols) most_symbols ≡ b → not b ≡ false → length t.symbols < most_symbols
      go true g h = grind (arith, nat_tests)
      go false g h = true_false h

  grows_interned : (name : List ℕ) (s : ℕ) → s < length t.symbols → (b : Bool) → is_one_too_many t.symbols (beside t name s) ≡ b → (o : Object ℕ) → GrowsTo t (if b then Stops prims.Symbols else Gives o (interned t.symbols (beside t name s)))
  grows_interned name s l true e o = tt
  grows_interned name s l false e o = (table_after (number_of t.symbols (beside t name s)) refl, Extends-symbol t (beside t name s))
    where
      table_after : (r : Option ℕ) → number_of t.symbols (beside t name s) ≡ r → IsTable (record { packages = t.packages; symbols = interned t.symbols (beside t name s) })
      table_after (Some n) f = subst (λ (ss : List QualifiedName). IsTable (record { packages = t.packages; symbols = ss })) (sym (interned-known t.symbols (beside t name s) n f)) is
      table_after None f =
          let home : (i : ℕ) × IsPackage t.packages i (package_called t.packages (symbol_at t.symbols s).home) = home_package s l in
          subst (λ (ss : List QualifiedName). IsTable (record { packages = t.packages; symbols = ss })) (sym (interned-new t.symbols (beside t name s) f))
          (IsTable-symbol t is home.0 (package_called t.packages (symbol_at t.symbols s).home) home.1 name f (room (beside t name s) f e))

  grows_bounded : (w : Wanted ℕ) → WantedSymbols (λ s. s < length t.symbols) w → GrowsTo t (bounded t w)
  unfolding bounded
  grows_bounded (Old o) k = same_table
  grows_bounded (Number n) k = grows_number (in_range n)
  grows_bounded (Made o) k = grows_weighed _ o
  grows_bounded (Power b n) k = grows_number (power_in_range b n)
  grows_bounded (Shift i c) k = grows_number (shift_in_range i c)
  grows_bounded (Update n o l) k = grows_updated _
    where
      grows_updated : (b : Bool) → GrowsTo t (updated_by b t.symbols n o l)
      grows_updated true = grows_weighed _ (updated by_number n o l)
      grows_updated false = tt
  grows_bounded (Interned name s) k = grows_interned name s k (is_one_too_many t.symbols (beside t name s)) refl _

  grows_guarded : (b : Bool) (w : Wanted ℕ) → WantedSymbols (λ s. s < length t.symbols) w → GrowsTo t (guarded b t w)
  grows_guarded true w k = grows_bounded w k
  grows_guarded false w k = tt

  grows_applied : (n : NamesTruth t) (p : Prim) (x y z : Object ℕ) → Knows (length t.symbols) x → Knows (length t.symbols) y → Knows (length t.symbols) z → GrowsTo t (applied_to t p x y z)
  unfolding applied_to
  grows_applied n p x y z i j k =
      grows_guarded (guard by_number p x y z) (wanted by_number (symbol_at t.symbols) p x y z)
      (wanted_known (λ s. s < length t.symbols) (knows_truth t n) (knows_nil t n) (symbol_at t.symbols) p x y z i j k)

-- ---- arguments

abbrev AllPlain : List (Shown ℕ) → Type 0
AllPlain [] = Unit {0}
AllPlain (Plain o ∷ vs) = AllPlain vs
AllPlain (StobjNamed x ∷ vs) = ⊥

plain_arguments : (w : World) (scope : Scope) (n : ℕ) (vs : List (Shown ℕ)) → AreArguments w scope (replicate n Ordinary) vs → AllPlain vs
plain_arguments w scope zero [] a = tt
plain_arguments w scope zero (v ∷ vs) a = absurd a
plain_arguments w scope (suc n) [] a = absurd a
plain_arguments w scope (suc n) (Plain o ∷ vs) a = plain_arguments w scope n vs a.1
plain_arguments w scope (suc n) (StobjNamed x ∷ vs) a = absurd a.0

pub things_plain : (symbols : List QualifiedName) (lists : Held) (vs : List (Shown ℕ)) → AllPlain vs → all_held symbols lists vs ≡ map (form_of symbols) (ordinary vs)
things_plain symbols lists [] a = refl
things_plain symbols lists (Plain o ∷ vs) a = ap (λ (os : List Thing). form_of symbols o ∷ os) (things_plain symbols lists vs a)
things_plain symbols lists (StobjNamed x ∷ vs) a = absurd a

pub argument_named : (symbols : List QualifiedName) → symbol_at symbols nil ≡ nil_name → (os : List (Object ℕ)) (n : ℕ) → argument by_name (map (form_of symbols) os) n ≡ form_of symbols (argument by_number os n)
argument_named symbols e [] n = ap Symbol (sym e)
argument_named symbols e (o ∷ os) zero = refl
argument_named symbols e (o ∷ os) (suc n) = argument_named symbols e os n

abbrev pub KnowsEach : ℕ → List (Object ℕ) → Type 0
KnowsEach n [] = Unit {0}
KnowsEach n (o ∷ os) = Knows n o × KnowsEach n os

pub argument_known : (n : ℕ) → nil < n → (os : List (Object ℕ)) → KnowsEach n os → (k : ℕ) → Knows n (argument by_number os k)
argument_known n l [] h k = l
argument_known n l (o ∷ os) h zero = h.0
argument_known n l (o ∷ os) h (suc k) = argument_known n l os h.1 k

pub ordinary_known : (n : ℕ) (vs : List (Shown ℕ)) → KnowsAll n vs → KnowsEach n (ordinary vs)
ordinary_known n [] h = tt
ordinary_known n (Plain o ∷ vs) h = (h.0, ordinary_known n vs h.1)
ordinary_known n (StobjNamed x ∷ vs) h = ordinary_known n vs h.1

-- ---- a primitive on values

pub record Answers (t : Table) (p : Prim) (args : List Thing) (o : Object ℕ) (symbols : List QualifiedName) : Type 0 where
  pub table : IsTable (record { packages = t.packages; symbols = symbols })
  pub truth : NamesTruth (record { packages = t.packages; symbols = symbols })
  pub grown : Extends t (record { packages = t.packages; symbols = symbols })
  pub known : Knows (length symbols) o
  pub value : value_of t.packages p args ≡ form_of symbols o

abbrev pub IfAnswers : Table → Prim → List Thing → Applied → Type 0
IfAnswers t p args (Gives o symbols) = Answers t p args o symbols
IfAnswers t p args (Stops stop) = Unit {0}

pub primitive_answers : (w : World) (scope : Scope) (n : ℕ) (t : Table) (p : Prim) (lists : Held) (vs : List (Shown ℕ)) → IsTable t → NamesTruth t → AreArguments w scope (replicate n Ordinary) vs → KnowsAll (length t.symbols) vs
    → IfAnswers t p (all_held t.symbols lists vs) (applied t p (ordinary vs))
primitive_answers w scope n t p stobjs vs is names a known = go (applied t p os) refl (grows_applied t is names p (argument by_number os 0) (argument by_number os 1) (argument by_number os 2) (each 0) (each 1) (each 2))
  where
    os : List (Object ℕ)
    os = ordinary vs

    each : (k : ℕ) → Knows (length t.symbols) (argument by_number os k)
    each k = argument_known (length t.symbols) (knows_nil t names) os (ordinary_known (length t.symbols) vs known) k

    at_nil : symbol_at t.symbols nil ≡ nil_name
    at_nil = symbol_at-is t.symbols nil nil_name names.at_nil

    same : (k : ℕ) → argument by_name (all_held t.symbols stobjs vs) k ≡ form_of t.symbols (argument by_number os k)
    same k = ap (λ (things : List Thing). argument by_name things k) (things_plain t.symbols stobjs vs (plain_arguments w scope n vs a)) ∙ argument_named t.symbols at_nil os k

    go : (r : Applied) → applied t p os ≡ r → GrowsTo t r → IfAnswers t p (all_held t.symbols stobjs vs) r
    go (Stops stop) e g = tt
    go (Gives o symbols) e g = record {
      table = g.0;
      truth = record { at_truth = g.1.same truth truth_name names.at_truth; at_nil = g.1.same nil nil_name names.at_nil };
      grown = g.1;
      known = gives_known.known t p (argument by_number os 0) (argument by_number os 1) (argument by_number os 2) o symbols (knows_nil t names) (each 0) (each 1) (each 2) e;
      value = rw (same 0, same 1, same 2) (follows_logic.follows t p (argument by_number os 0) (argument by_number os 1) (argument by_number os 2) o symbols is names (each 0) (each 1) (each 2) e);
    }
