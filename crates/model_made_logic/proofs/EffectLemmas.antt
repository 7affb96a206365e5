-- What a function of a concrete stobj and a primitive give has known symbols, where those of arguments and lists are.
use Rattle.std.proofs.Common.{◌≡◌, ℕ, ◌<◌, ◌≤◌, List, [], ◌∷◌, length, Bool, true, false, Option, Some, None, refl, sym, ap, ◌∙◌, subst, arith}
use Rattle.std.specs.Prelude.{◌&&◌, not, nat_lt, is_some, unwrap_or, if◌then◌else◌}
use Rattle.std.proofs.lemmas.Bool.Decides.{nat_tests}
use Rattle.std.proofs.lemmas.List.{length_push}
use Rattle.model_objects.specs.Object.{Object}
use Rattle.model_objects.specs.Named.{Symbols, Knows}
use Rattle.model_symbols.specs.Symbols.{QualifiedName, Package, Table, symbol_at, number_of, package_number, interned, is_one_too_many, most_symbols}
use Rattle.model_symbols.specs.Growth.{IsPackage}
use Rattle.model_symbols.specs.Tables.{IsTable}
use Rattle.model_symbols.specs.Opening.{truth, nil}
use Rattle.model_symbols.proofs.NameLemmas.{symbol-at, is_known-is, interned-known, interned-new, package_at-is, package-Some}
use Rattle.model_symbols.proofs.TableLemmas.{IsTable-symbol}
use Rattle.model_prims.specs.Kinds.{by_number, nil_of}
use Rattle.model_prims.specs.Numbers.{natural_of, in_range, power_in_range, shift_in_range}
use Rattle.model_prims.specs.Lists.{updated}
use Rattle.model_prims.specs.Guards.{guard}
use Rattle.model_prims.specs.Values.{Wanted, Old, Number, Made, Power, Shift, Update, Interned, wanted}
use Rattle.model_prims.specs.Applied.{Applied, argument, package_called, number_or, weighed, updated_by, interned_or, beside, bounded, guarded, applied_to}
use Rattle.model_prims.specs.Applied as prims
use Rattle.model_prims.specs.declared.prim.Prim.{Prim}
use Rattle.model_prims.proofs.Known.{WantedSymbols}
use Rattle.model_prims.proofs.KnownLemmas.{wanted_known, truth_known}
use Rattle.model_lists.specs.Lists.{StobjList, Value, Pairs, End, Item, item, with_item, resized, pairs_of, value_at, without_key, scalar_of, size}
use Rattle.model_lists.specs.Types.{meets}
use Rattle.model_lists.specs.Layouts.{Layout, Scalar, Array, Hash, Children, NoField, Field}
use Rattle.model_lists.specs.Effects.{Effect, Refuses, Reads, Writes, is_index, is_up_to, most_elements, when, with_key, accessed, changed, lengthened, hash_read, hash_bound, hash_looked_up, hash_put, hash_removed}
use Rattle.model_terms.specs.declared.role.Role.{Role}
use Rattle.model_terms.specs.declared.role.Role.TheVariants as role
use Rattle.model_eval.specs.GeneratedCalls.{effect}
use Rattle.model_accepted.proofs.AcceptLemmas.{true_false}
use Rattle.model_follows.specs.FollowedWorlds.{LayoutSymbols, PairSymbols, ListSymbols}
use Rattle.model_follows.proofs.EffectThings.{item_known, with_known, resized_known, value_known, without_known}
use Rattle.model_made_logic.specs.Known.{Grows}
use Rattle.model_made_logic.proofs.KnownLemmas.{grows_same}

-- ---- functions of concrete stobjs

abbrev pub EachSymbols : (ℕ → Type 0) → List (Object ℕ) → Type 0
EachSymbols P [] = Unit {0}
EachSymbols P (o ∷ os) = Symbols P o × EachSymbols P os

abbrev pub EffectKnown : (ℕ → Type 0) → Effect ℕ → Type 0
EffectKnown P Refuses = Unit {0}
EffectKnown P (Reads os) = EachSymbols P os
EffectKnown P (Writes l) = ListSymbols P l

module _ (P : ℕ → Type 0) (at_truth : P truth) (at_nil : P nil) where
  scalar_known : (l : StobjList ℕ) → ListSymbols P l → Symbols P (scalar_of by_number l)
  scalar_known (Value o) h = h
  scalar_known (Pairs ps) h = at_nil
  scalar_known End h = at_nil
  scalar_known (Item first rest) h = at_nil

  pairs_have : (l : StobjList ℕ) → ListSymbols P l → PairSymbols P (pairs_of l)
  pairs_have (Value o) h = tt
  pairs_have (Pairs ps) h = h
  pairs_have End h = tt
  pairs_have (Item first rest) h = tt

  when_known : (b : Bool) (e : Effect ℕ) → EffectKnown P e → EffectKnown P (when by_number b e)
  when_known true e h = h
  when_known false e h = tt

  key_known : (layout : Layout ℕ) (key : Object ℕ) (e : Effect ℕ) → EffectKnown P e → EffectKnown P (with_key by_number layout key e)
  key_known (Hash test) key e h = when_known _ e h
  key_known (Scalar t o) key e h = tt
  key_known (Array t o n resizable) key e h = tt
  key_known (Children n child) key e h = tt
  key_known NoField key e h = tt
  key_known (Field first others) key e h = tt

  module _ (f : ℕ) (args : List (Object ℕ)) (l : StobjList ℕ) (given : (k : ℕ) → Symbols P (argument by_number args k)) (known : ListSymbols P l) where
    here : ListSymbols P (item f l)
    here = item_known P f l known

    written : (m : StobjList ℕ) → ListSymbols P m → ListSymbols P (with_item f m l)
    written m h = with_known P f m l h known

    accessed_known : (layout : Layout ℕ) → EffectKnown P (accessed by_number layout f args l)
    unfolding accessed
    accessed_known (Scalar t o) = (scalar_known (item f l) here, tt)
    accessed_known (Array t o n resizable) =
        when_known (is_index (argument by_number args 0) (size (item f l))) (Reads (scalar_of by_number (item (natural_of (argument by_number args 0)) (item f l)) ∷ [])) (scalar_known (item (natural_of (argument by_number args 0)) (item f l)) (item_known P (natural_of (argument by_number args 0)) (item f l) here), tt)
    accessed_known (Hash test) = tt
    accessed_known (Children n child) = tt
    accessed_known NoField = tt
    accessed_known (Field first others) = tt

    changed_known : (layout : Layout ℕ) → EffectKnown P (changed by_number layout f args l)
    unfolding changed
    changed_known (Scalar t o) = when_known (meets by_number t (argument by_number args 0)) (Writes (with_item f (Value (argument by_number args 0)) l)) (written (Value (argument by_number args 0)) (given 0))
    changed_known (Array t o n resizable) =
        when_known (is_index (argument by_number args 0) (size (item f l)) && meets by_number t (argument by_number args 1))
        (Writes (with_item f (with_item (natural_of (argument by_number args 0)) (Value (argument by_number args 1)) (item f l)) l))
        (written (with_item (natural_of (argument by_number args 0)) (Value (argument by_number args 1)) (item f l)) (with_known P (natural_of (argument by_number args 0)) (Value (argument by_number args 1)) (item f l) (given 1) here))
    changed_known (Hash test) = tt
    changed_known (Children n child) = tt
    changed_known NoField = tt
    changed_known (Field first others) = tt

    lengthened_known : (layout : Layout ℕ) → LayoutSymbols P layout → EffectKnown P (lengthened by_number layout f args l)
    unfolding lengthened
    lengthened_known (Array t o n resizable) h =
        when_known (resizable && is_up_to most_elements (argument by_number args 0)) (Writes (with_item f (resized (natural_of (argument by_number args 0)) (Value o) (item f l)) l))
        (written (resized (natural_of (argument by_number args 0)) (Value o) (item f l)) (resized_known P (natural_of (argument by_number args 0)) (Value o) (item f l) h.1 here))
    lengthened_known (Scalar t o) h = tt
    lengthened_known (Hash test) h = tt
    lengthened_known (Children n child) h = tt
    lengthened_known NoField h = tt
    lengthened_known (Field first others) h = tt

    value_here : (key : Object ℕ) → Symbols P (unwrap_or (value_at by_number key (pairs_of (item f l))) (nil_of by_number))
    value_here key = value_known P key (pairs_of (item f l)) at_nil (pairs_have (item f l) here)

    pub effect_known : (r : Role) (layout : Layout ℕ) → LayoutSymbols P layout → EffectKnown P (effect by_number r layout f args l)
    unfolding effect hash_read hash_bound hash_looked_up hash_put hash_removed
    effect_known role.Recognizer layout h = (at_truth, tt)
    effect_known role.Creator layout h = tt
    effect_known role.FieldRecognizer layout h = (truth_known P at_truth at_nil _, tt)
    effect_known role.Access layout h = accessed_known layout
    effect_known role.Update layout h = changed_known layout
    effect_known role.Length layout h = (tt, tt)
    effect_known role.Resize layout h = lengthened_known layout h
    effect_known role.HashGet layout h = key_known layout (argument by_number args 0) _ (value_here (argument by_number args 0), tt)
    effect_known role.HashBoundp layout h = key_known layout (argument by_number args 0) _ (truth_known P at_truth at_nil _, tt)
    effect_known role.HashGetBound layout h = key_known layout (argument by_number args 0) _ (value_here (argument by_number args 0), (truth_known P at_truth at_nil _, tt))
    effect_known role.HashPut layout h =
        key_known layout (argument by_number args 0) _ (written (Pairs ((argument by_number args 0, argument by_number args 1) ∷ pairs_of (item f l))) (given 0, given 1, pairs_have (item f l) here))
    effect_known role.HashRem layout h =
        key_known layout (argument by_number args 0) _
        (written (Pairs (without_key by_number (argument by_number args 0) (pairs_of (item f l)))) (without_known P (argument by_number args 0) (pairs_of (item f l)) (pairs_have (item f l) here)))
    effect_known role.HashCount layout h = (tt, tt)
    effect_known role.HashClear layout h = written (Pairs []) tt

-- ---- primitives

-- how the symbols grow
abbrev pub GrowsTo : Table → Applied → Type 0
GrowsTo t (prims.Gives o symbols) = Grows t.packages t.symbols symbols
GrowsTo t (prims.Stops stop) = Unit {0}

-- a symbol beside a known one leaves a table
pub beside_grows : (t : Table) (name : List ℕ) (s : ℕ) → s < length t.symbols → is_one_too_many t.symbols (beside t name s) ≡ false → Grows t.packages t.symbols (interned t.symbols (beside t name s))
beside_grows t name s l f = go (number_of t.symbols q) refl
  where
    q : QualifiedName
    q = beside t name s

    p : Package
    p = package_called t.packages (symbol_at t.symbols s).home

    home : IsTable t → (i : ℕ) × IsPackage t.packages i p
    home is =
        let found : (i : ℕ) × (package_number t.packages (symbol_at t.symbols s).home ≡ Some i) = is.homes s (symbol_at t.symbols s) (symbol-at t.symbols s l) in
        let there : (r : Package) × IsPackage t.packages found.0 r × (r.name ≡ (symbol_at t.symbols s).home) = package-Some t.packages (symbol_at t.symbols s).home found.0 found.1 in
        (found.0, rw found.1 (subst (IsPackage t.packages found.0) (sym (package_at-is t.packages found.0 there.0 there.1)) there.1))

    room : number_of t.symbols q ≡ None → length t.symbols < most_symbols
    room e = by_test (nat_lt (length t.symbols) most_symbols) refl (subst (λ (b : Bool). (not b && not (nat_lt (length t.symbols) most_symbols)) ≡ false) (is_known-is t.symbols q ∙ ap is_some e) f)
      where
        by_test : (b : Bool) → nat_lt (length t.symbols) most_symbols ≡ b → not b ≡ false → length t.symbols < most_symbols
        by_test true g h = grind (arith, nat_tests)
        by_test false g h = true_false h

    go : (r : Option ℕ) → number_of t.symbols q ≡ r → Grows t.packages t.symbols (interned t.symbols q)
    go (Some n) e = subst (λ (ss : List QualifiedName). Grows t.packages t.symbols ss) (sym (interned-known t.symbols q n e)) (grows_same t.packages t.symbols)
    go None e =
        subst (λ (ss : List QualifiedName). Grows t.packages t.symbols ss) (sym (interned-new t.symbols q e))
        (record {
          longer = omega (arith, length_push t.symbols q);
          table = λ is. let at = home is in IsTable-symbol t is at.0 p at.1 name e (room e);
        })

module _ (t : Table) where
  same_grows : Grows t.packages t.symbols t.symbols
  same_grows = grows_same t.packages t.symbols

  number_grows : (r : Option _) → GrowsTo t (number_or t.symbols r)
  number_grows None = tt
  number_grows (Some n) = same_grows

  weighed_grows : (b : Bool) (o : Object ℕ) → GrowsTo t (if b then prims.Gives o t.symbols else prims.Stops prims.Large)
  weighed_grows true o = same_grows
  weighed_grows false o = tt

  updated_grows : (b : Bool) (n : ℕ) (o l : Object ℕ) → GrowsTo t (updated_by b t.symbols n o l)
  updated_grows true n o l = weighed_grows _ (updated by_number n o l)
  updated_grows false n o l = tt

  interned_grows : (name : List ℕ) (s : ℕ) → s < length t.symbols → (b : Bool) → is_one_too_many t.symbols (beside t name s) ≡ b → (o : Object ℕ)
      → GrowsTo t (if b then prims.Stops prims.Symbols else prims.Gives o (interned t.symbols (beside t name s)))
  interned_grows name s l true e o = tt
  interned_grows name s l false e o = beside_grows t name s l e

  bounded_grows : (w : Wanted ℕ) → WantedSymbols (λ s. s < length t.symbols) w → GrowsTo t (bounded t w)
  unfolding bounded
  bounded_grows (Old o) k = same_grows
  bounded_grows (Number n) k = number_grows (in_range n)
  bounded_grows (Made o) k = weighed_grows _ o
  bounded_grows (Power b n) k = number_grows (power_in_range b n)
  bounded_grows (Shift i c) k = number_grows (shift_in_range i c)
  bounded_grows (Update n o l) k = updated_grows _ n o l
  bounded_grows (Interned name s) k = interned_grows name s k (is_one_too_many t.symbols (beside t name s)) refl _

  guarded_grows : (b : Bool) (w : Wanted ℕ) → WantedSymbols (λ s. s < length t.symbols) w → GrowsTo t (guarded b t w)
  guarded_grows true w k = bounded_grows w k
  guarded_grows false w k = tt

  pub applied_grows : 2 ≤ length t.symbols → (p : Prim) (x y z : Object ℕ) → Knows (length t.symbols) x → Knows (length t.symbols) y → Knows (length t.symbols) z → GrowsTo t (applied_to t p x y z)
  unfolding applied_to
  applied_grows two p x y z i j k =
      guarded_grows (guard by_number p x y z) (wanted by_number (symbol_at t.symbols) p x y z)
      (wanted_known (λ s. s < length t.symbols) (omega (arith, two)) (omega (arith, two)) (symbol_at t.symbols) p x y z i j k)
