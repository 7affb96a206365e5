-- Canonical lists: one list of pairs for all in which each key finds the same, and the same in the order of names.
use Rattle.std.proofs.Common.{◌≡◌, ℕ, ◌+◌, ◌<◌, List, [], ◌∷◌, length, Bool, true, false, Option, Some, None, refl, sym, ap, ◌∙◌, subst, arith}
use Rattle.std.specs.Prelude.{if◌then◌else◌}
use Rattle.std.specs.Ordering.{nat_cmp, ordering_reverse}
use Rattle.std.specs.Cmp.{IsTotalOrder}
use Rattle.std.specs.declared.cmp.Ordering.{Ordering}
use Rattle.std.specs.declared.cmp.Ordering.TheVariants.{Less, Equal, Greater}
use Rattle.std.proofs.lemmas.Map.Lookups.{CmpEqualImpliesEq, exact_unsigned}
use Rattle.std.proofs.lemmas.Cmp.{nat_cmp_total}
use Rattle.std.specs.Bool.{Decides}
use Rattle.model_objects.specs.Object.{Object, Integer, Symbol, Text, Pair, object_cmp, cells}
use Rattle.model_objects.specs.Named.{Symbols, Knows}
use Rattle.model_objects.proofs.Ordered.{object_total, object_exact}
use Rattle.model_symbols.specs.Symbols.{QualifiedName, form_of}
use Rattle.model_symbols.specs.Growth.{AreDistinct}
use Rattle.model_symbols.proofs.LawLemmas.{names_objects}
use Rattle.model_prims.specs.Kinds.{SymbolKind, by_number, same_object}
use Rattle.model_lists.specs.Lists.{StobjList, Value, Pairs, End, Item, pairs_of, value_at}
use Rattle.model_lists.specs.Normal.{name_cmp, number_cmp, placed, put_in_order, normal_pairs, normal, canonical, pair_cells, list_cells}
use Rattle.model_lists.specs.LiveLists.{PairSymbols, ListSymbols}
use Rattle.model_lists_laws.specs.Canonical.{IsKnownList, CanonicalLists}
use Rattle.model_lists_laws.proofs.NormalLemmas.{InOrder, TellsFrom, normal_in_order, normal_twice, same_itself, same_tells, value_put, value_normal, numbers_total, names_exact}
use Rattle.model_lists_laws.proofs.PairLemmas.{no_value}
use Rattle.model_lists_laws.proofs.AlikeLemmas.{same_number-Decides}

-- ---- keys with a property

module _ {S : Type 0} (P : Object S → Type 0) where
  abbrev KeysAre : List (Object S × Object S) → Type 0
  KeysAre [] = Unit {0}
  KeysAre (p ∷ ps) = P p.0 × KeysAre ps

  keys_put : (names : S → S → Ordering) (p : Object S × Object S) (qs : List (Object S × Object S)) → P p.0 → KeysAre qs → KeysAre (put_in_order names p qs)
  keys_put names p [] h g = (h, tt)
  keys_put names p (q ∷ qs) h g = go (object_cmp names p.0 q.0) (keys_put names p qs h g.1)
    where
      go : (o : Ordering) → KeysAre (put_in_order names p qs) → KeysAre (placed names o p q qs (put_in_order names p qs))
      go Less i = (h, g)
      go Equal i = (h, g.1)
      go Greater i = (g.0, i)

  keys_normal : (names : S → S → Ordering) (ps : List (Object S × Object S)) → KeysAre ps → KeysAre (normal_pairs names ps)
  keys_normal names [] h = tt
  keys_normal names (p ∷ ps) h = keys_put names p (normal_pairs names ps) h.0 (keys_normal names ps h.1)

pair_is : {A B : Type 0} (p q : A × B) → p.0 ≡ q.0 → p.1 ≡ q.1 → p ≡ q
pair_is p q e f = λ i. (e i, f i)

-- ---- an order that tells keys with a property apart

module _ {S : Type 0} (k : SymbolKind S) (decides : (a b : S) → Decides (k.same a b) (a ≡ b)) (names : S → S → Ordering) (total : IsTotalOrder names) (P : Object S → Type 0) (tells : (x y : Object S) → P x → P y → object_cmp names x y ≡ Equal → x ≡ y) where
  abbrev Pairing : Type 0
  Pairing = Object S × Object S

  tells_from : (p : Pairing) (qs : List Pairing) → P p.0 → KeysAre P qs → TellsFrom k decides names total p qs
  tells_from p [] h g = tt
  tells_from p (q ∷ qs) h g = (tells p.0 q.0 h g.0, tells_from p qs h g.1)

  value_of_normal : (key : Object S) (ps : List Pairing) → KeysAre P ps → value_at k key (normal_pairs names ps) ≡ value_at k key ps
  value_of_normal key [] h = refl
  value_of_normal key (p ∷ ps) h =
      value_put k decides names total key p (normal_pairs names ps) (tells_from p (normal_pairs names ps) h.0 (keys_normal P names ps h.1))
      ∙ ap (λ (o : Option (Object S)). if same_object k key p.0 then Some p.1 else o) (value_of_normal key ps h.1)

  value_first : (p : Pairing) (ps : List Pairing) → value_at k p.0 (p ∷ ps) ≡ Some p.1
  value_first p ps = rw (same_itself k decides p.0) refl

  value_later : (key : Object S) (p : Pairing) (ps : List Pairing) → same_object k key p.0 ≡ false → value_at k key (p ∷ ps) ≡ value_at k key ps
  value_later key p ps e = rw e refl

  clash : {v : Object S} {o : Option (Object S)} → o ≡ None → o ≡ Some v → ⊥
  clash e f = cc

  same_value : {v w : Object S} → Some v ≡ Some w → v ≡ w
  same_value e = cc

  -- lists in order in which each key finds the same are one
  one_in_order : (ps qs : List Pairing) → InOrder names total ps → InOrder names total qs → KeysAre P ps → KeysAre P qs
      → ((key : Object S) → value_at k key ps ≡ value_at k key qs) → ps ≡ qs
  one_in_order [] [] g h c d e = refl
  one_in_order [] (q ∷ qs) g h c d e = absurd (clash (sym (e q.0)) (value_first q qs))
  one_in_order (p ∷ ps) [] g h c d e = absurd (clash (e p.0) (value_first p ps))
  one_in_order (p ∷ ps) (q ∷ qs) g h c d e = go (object_cmp names p.0 q.0) refl (λ f. one_in_order ps qs g.1 h.1 c.1 d.1 f)
    where
      rest : p.0 ≡ q.0 → (key : Object S) → value_at k key ps ≡ value_at k key qs
      rest f key = step (same_object k key p.0) refl
        where
          step : (b : Bool) → same_object k key p.0 ≡ b → value_at k key ps ≡ value_at k key qs
          step true s =
              subst (λ x. value_at k x ps ≡ None) (sym (same_tells k decides key p.0 s)) (no_value k decides names total p ps g.0 g.1)
              ∙ sym (subst (λ x. value_at k x qs ≡ None) (sym (same_tells k decides key p.0 s ∙ f)) (no_value k decides names total q qs h.0 h.1))
          step false s = sym (value_later key p ps s) ∙ (e key ∙ value_later key q qs (subst (λ x. same_object k key x ≡ false) f s))

      go : (o : Ordering) → object_cmp names p.0 q.0 ≡ o → (((key : Object S) → value_at k key ps ≡ value_at k key qs) → ps ≡ qs) → p ∷ ps ≡ q ∷ qs
      go Less l i = absurd (clash (no_value k decides names total p (q ∷ qs) l h) (sym (e p.0) ∙ value_first p ps))
      go Equal l i =
          let f : p.0 ≡ q.0 = tells p.0 q.0 c.0 d.0 l in
          let v : p.1 ≡ q.1 = same_value (sym (value_first p ps) ∙ (e p.0 ∙ subst (λ x. value_at k x (q ∷ qs) ≡ Some q.1) (sym f) (value_first q qs))) in
          rw (pair_is p q f v, i (rest f)) refl
      go Greater l i =
          absurd (clash (no_value k decides names total q (p ∷ ps) ((object_total names total).antisymm q.0 p.0 ∙ ap ordering_reverse l) g) (e q.0 ∙ value_first q qs))

  -- what a pair with another key takes
  put_cells : (p : Pairing) (qs : List Pairing) → P p.0 → KeysAre P qs → value_at k p.0 qs ≡ None → pair_cells (put_in_order names p qs) ≡ cells p.0 + (cells p.1 + pair_cells qs)
  put_cells p [] h g e = refl
  put_cells p (q ∷ qs) h g e = go (object_cmp names p.0 q.0) refl (put_cells p qs h g.1 (later (same_object k p.0 q.0) e))
    where
      later : (b : Bool) → (if b then Some q.1 else value_at k p.0 qs) ≡ None → value_at k p.0 qs ≡ None
      later true f = cc
      later false f = f

      go : (o : Ordering) → object_cmp names p.0 q.0 ≡ o → pair_cells (put_in_order names p qs) ≡ cells p.0 + (cells p.1 + pair_cells qs)
          → pair_cells (placed names o p q qs (put_in_order names p qs)) ≡ cells p.0 + (cells p.1 + pair_cells (q ∷ qs))
      go Less l i = refl
      go Equal l i = absurd (clash e (subst (λ x. value_at k x (q ∷ qs) ≡ Some q.1) (sym (tells p.0 q.0 h g.0 l)) (value_first q qs)))
      go Greater l i = more (cells q.0) (cells q.1) (pair_cells (put_in_order names p qs)) (cells p.0) (cells p.1) (pair_cells qs) i
        where
          more : (a b n c d m : ℕ) → n ≡ c + (d + m) → a + (b + n) ≡ c + (d + (a + (b + m)))
          more a b n c d m e = omega (arith, e)

-- ---- an order that tells all apart, and one that tells keys with a property apart

module _ {S : Type 0} (k : SymbolKind S) (decides : (a b : S) → Decides (k.same a b) (a ≡ b)) (inner : S → S → Ordering) (inner_total : IsTotalOrder inner) (inner_exact : CmpEqualImpliesEq inner) (outer : S → S → Ordering) (outer_total : IsTotalOrder outer) (Q : S → Type 0) (tells : (x y : Object S) → Symbols Q x → Symbols Q y → object_cmp outer x y ≡ Equal → x ≡ y) where
  abbrev Keyed : List (Object S × Object S) → Type 0
  Keyed ps = KeysAre (λ x. Symbols Q x) ps

  keyed : (ps : List (Object S × Object S)) → PairSymbols Q ps → Keyed ps
  keyed [] h = tt
  keyed (p ∷ ps) h = (h.0, keyed ps h.2)

  outer_value : (key : Object S) (ps : List (Object S × Object S)) → Keyed ps → value_at k key (normal_pairs outer ps) ≡ value_at k key ps
  outer_value key ps h = value_of_normal k decides outer outer_total (λ x. Symbols Q x) tells key ps h

  inner_keyed : (ps : List (Object S × Object S)) → Keyed ps → Keyed (normal_pairs inner ps)
  inner_keyed ps h = keys_normal (λ x. Symbols Q x) inner ps h

  pairs_again : (ps : List (Object S × Object S)) → Keyed ps → normal_pairs outer (normal_pairs inner ps) ≡ normal_pairs outer ps
  pairs_again ps h =
      one_in_order k decides outer outer_total (λ x. Symbols Q x) tells (normal_pairs outer (normal_pairs inner ps)) (normal_pairs outer ps)
      (normal_in_order outer outer_total (normal_pairs inner ps)) (normal_in_order outer outer_total ps)
      (keys_normal (λ x. Symbols Q x) outer (normal_pairs inner ps) (inner_keyed ps h)) (keys_normal (λ x. Symbols Q x) outer ps h)
      (λ key. outer_value key (normal_pairs inner ps) (inner_keyed ps h) ∙ (value_normal k decides inner inner_total inner_exact key ps ∙ sym (outer_value key ps h)))

  list_again : (l : StobjList S) → ListSymbols Q l → normal outer (normal inner l) ≡ normal outer l
  list_again (Value o) h = refl
  list_again (Pairs ps) h = ap Pairs (pairs_again ps (keyed ps h))
  list_again End h = refl
  list_again (Item first rest) h = rw (list_again first h.0, list_again rest h.1) refl

  ordered_cells : (ps : List (Object S × Object S)) → InOrder inner inner_total ps → Keyed ps → pair_cells (normal_pairs outer ps) ≡ pair_cells ps
  ordered_cells [] h g = refl
  ordered_cells (p ∷ ps) h g =
      put_cells k decides outer outer_total (λ x. Symbols Q x) tells p (normal_pairs outer ps) g.0 (keys_normal (λ x. Symbols Q x) outer ps g.1)
      (outer_value p.0 ps g.1 ∙ no_value k decides inner inner_total p ps h.0 h.1)
      ∙ ap (λ (n : ℕ). cells p.0 + (cells p.1 + n)) (ordered_cells ps h.1 g.1)

  held_again : (l : StobjList S) → ListSymbols Q l → list_cells (normal inner l) ≡ list_cells (normal outer l)
  held_again (Value o) h = refl
  held_again (Pairs ps) h =
      sym (ordered_cells (normal_pairs inner ps) (normal_in_order inner inner_total ps) (inner_keyed ps (keyed ps h))) ∙ ap pair_cells (pairs_again ps (keyed ps h))
  held_again End h = refl
  held_again (Item first rest) h = rw (held_again first h.0, held_again rest h.1) refl

-- ---- the order of numbers, and that of names

cmp_named : (symbols : List QualifiedName) (x y : Object ℕ) → object_cmp (number_cmp symbols) x y ≡ object_cmp name_cmp (form_of symbols x) (form_of symbols y)
cmp_named symbols (Integer m) (Integer n) = refl
cmp_named symbols (Integer m) (Symbol t) = refl
cmp_named symbols (Integer m) (Text b) = refl
cmp_named symbols (Integer m) (Pair b e) = refl
cmp_named symbols (Symbol s) (Integer n) = refl
cmp_named symbols (Symbol s) (Symbol t) = refl
cmp_named symbols (Symbol s) (Text b) = refl
cmp_named symbols (Symbol s) (Pair b e) = refl
cmp_named symbols (Text a) (Integer n) = refl
cmp_named symbols (Text a) (Symbol t) = refl
cmp_named symbols (Text a) (Text b) = refl
cmp_named symbols (Text a) (Pair b e) = refl
cmp_named symbols (Pair a d) (Integer n) = refl
cmp_named symbols (Pair a d) (Symbol t) = refl
cmp_named symbols (Pair a d) (Text b) = refl
cmp_named symbols (Pair a d) (Pair b e) = rw (cmp_named symbols a b, cmp_named symbols d e) refl

-- known stobjs that compare as equal are one
known_exact : (symbols : List QualifiedName) → AreDistinct symbols → (x y : Object ℕ) → Knows (length symbols) x → Knows (length symbols) y → object_cmp (number_cmp symbols) x y ≡ Equal → x ≡ y
known_exact symbols d x y g h e =
    names_objects.injective symbols x y d g h (object_exact name_cmp names_exact (form_of symbols x) (form_of symbols y) (sym (cmp_named symbols x y) ∙ e))

named_again : (symbols : List QualifiedName) (l : StobjList ℕ) → AreDistinct symbols → IsKnownList symbols l → normal (number_cmp symbols) (canonical l) ≡ normal (number_cmp symbols) l
named_again symbols l d h =
    list_again by_number same_number-Decides nat_cmp nat_cmp_total exact_unsigned (number_cmp symbols) (numbers_total symbols) (λ s. s < length symbols) (known_exact symbols d) l h

canonical_value : (key : Object ℕ) (l : StobjList ℕ) → value_at by_number key (pairs_of (canonical l)) ≡ value_at by_number key (pairs_of l)
canonical_value key (Value o) = refl
canonical_value key (Pairs ps) = value_normal by_number same_number-Decides nat_cmp nat_cmp_total exact_unsigned key ps
canonical_value key End = refl
canonical_value key (Item first rest) = refl

all_keys : (ps : List (Object ℕ × Object ℕ)) → KeysAre (λ x. Unit {0}) ps
all_keys [] = tt
all_keys (p ∷ ps) = (tt, all_keys ps)

one_canonical : (ps qs : List (Object ℕ × Object ℕ)) → ((key : Object ℕ) → value_at by_number key ps ≡ value_at by_number key qs) → canonical (Pairs ps) ≡ canonical (Pairs qs)
one_canonical ps qs e =
    ap Pairs (one_in_order by_number same_number-Decides nat_cmp nat_cmp_total (λ x. Unit {0}) (λ x y g h. object_exact nat_cmp exact_unsigned x y) (normal_pairs nat_cmp ps) (normal_pairs nat_cmp qs)
    (normal_in_order nat_cmp nat_cmp_total ps) (normal_in_order nat_cmp nat_cmp_total qs) (all_keys (normal_pairs nat_cmp ps)) (all_keys (normal_pairs nat_cmp qs))
    (λ key. canonical_value key (Pairs ps) ∙ (e key ∙ sym (canonical_value key (Pairs qs)))))

pub canonical_lists : CanonicalLists
canonical_lists = record {
  twice = normal_twice nat_cmp nat_cmp_total;
  named = named_again;
  alike = λ symbols l m d g h e. sym (named_again symbols l d g) ∙ (ap (normal (number_cmp symbols)) e ∙ named_again symbols m d h);
  held = λ symbols l d h. held_again by_number same_number-Decides nat_cmp nat_cmp_total exact_unsigned (number_cmp symbols) (numbers_total symbols) (λ s. s < length symbols) (known_exact symbols d) l h;
  values = canonical_value;
  found = one_canonical;
}
