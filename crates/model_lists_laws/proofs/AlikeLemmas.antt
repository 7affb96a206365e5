-- What the functions of a stobj do to lists that stand for one stobj.
use Rattle.std.proofs.Common.{◌≡◌, ℕ, List, [], ◌∷◌, length, Bool, true, false, Option, refl, sym, ap, ◌∙◌, subst, arith}
use Rattle.std.specs.Prelude.{◌&&◌, nat_eq, pos, unwrap_or}
use Rattle.std.specs.Option.{is_some}
use Rattle.std.specs.Cmp.{IsTotalOrder}
use Rattle.std.specs.Ordering.{nat_cmp, ordering_reverse}
use Rattle.std.specs.declared.cmp.Ordering.{Ordering}
use Rattle.std.specs.declared.cmp.Ordering.TheVariants.{Less, Equal, Greater}
use Rattle.std.proofs.lemmas.Map.Lookups.{CmpEqualImpliesEq, exact_unsigned}
use Rattle.std.proofs.lemmas.Cmp.{nat_cmp_total}
use Rattle.std.proofs.lemmas.Bool.Decides.{nat_tests}
use Rattle.std.specs.Bool.{Decides}
use Rattle.model_objects.specs.Object.{Object, Integer, Symbol, object_cmp}
use Rattle.model_objects.proofs.Ordered.{object_total, object_exact}
use Rattle.model_symbols.proofs.NameLemmas.{same_name-Decides}
use Rattle.model_prims.specs.Kinds.{SymbolKind, by_name, by_number, nil_of, truth_of, same_object}
use Rattle.model_prims.specs.Numbers.{natural_of}
use Rattle.model_prims.specs.Applied.{argument}
use Rattle.model_lists.specs.Lists.{StobjList, Value, Pairs, size, item, with_item, resized, pairs_of, value_at, without_key, key_count}
use Rattle.model_lists.specs.Types.{meets}
use Rattle.model_lists.specs.Layouts.{Layout, Scalar, Array, Hash, Children, NoField, Field}
use Rattle.model_lists.specs.Normal.{name_cmp, normal_pairs, put_in_order}
use Rattle.model_lists.specs.LiveLists.{AreAlike}
use Rattle.model_lists.specs.Effects.{Effect, Refuses, Reads, Writes, is_index, is_up_to, most_elements, when, with_key, accessed, changed, measured, lengthened, hash_read, hash_bound, hash_looked_up, hash_put, hash_removed, hash_counted, hash_cleared}
use Rattle.model_lists_laws.specs.LiveListLaws.{AlikeEffects, Orders, ListsAreReadAlike}
use Rattle.model_lists_laws.proofs.NormalLemmas.{value_normal, same_itself, same_tells, names_total, names_exact}
use Rattle.model_lists_laws.proofs.PairLemmas.{without_normal, count_normal}
use Rattle.model_lists_laws.proofs.StandingLemmas.{item_alike, with_alike, size_alike, pairs_alike, scalar_alike, resized_alike}

module _ {S : Type 0} (k : SymbolKind S) (decides : (a b : S) → Decides (k.same a b) (a ≡ b)) (names : S → S → Ordering) (total : IsTotalOrder names) (exact : CmpEqualImpliesEq names) where
  abbrev Lists : Type 0
  Lists = StobjList S

  abbrev Same : Effect S → Effect S → Type 0
  Same = AlikeEffects names

  alike_itself : (e : Effect S) → Same e e
  alike_itself Refuses = tt
  alike_itself (Reads os) = refl
  alike_itself (Writes l) = refl

  -- ---- guards

  when_alike : (b : Bool) (d e : Effect S) → Same d e → Same (when k b d) (when k b e)
  when_alike true d e h = h
  when_alike false d e h = tt

  -- the same where the index is one of arrays of one length
  sized_alike : (i : Object S) (n p : ℕ) (d e : Effect S) → n ≡ p → Same d e → Same (when k (is_index i n) d) (when k (is_index i p) e)
  sized_alike i n p d e z h = subst (λ (q : ℕ). Same (when k (is_index i n) d) (when k (is_index i q) e)) z (when_alike (is_index i n) d e h)

  element_alike : (i : Object S) (b : Bool) (n p : ℕ) (d e : Effect S) → n ≡ p → Same d e → Same (when k (is_index i n && b) d) (when k (is_index i p && b) e)
  element_alike i b n p d e z h = subst (λ (q : ℕ). Same (when k (is_index i n && b) d) (when k (is_index i q && b) e)) z (when_alike (is_index i n && b) d e h)

  with_key_alike : (layout : Layout S) (key : Object S) (d e : Effect S) → Same d e → Same (with_key k layout key d) (with_key k layout key e)
  with_key_alike (Hash test) key d e h = when_alike _ d e h
  with_key_alike (Scalar t o) key d e h = tt
  with_key_alike (Array t o n resizable) key d e h = tt
  with_key_alike (Children n child) key d e h = tt
  with_key_alike NoField key d e h = tt
  with_key_alike (Field first others) key d e h = tt

  -- ---- scalars and arrays

  accessed_alike : (layout : Layout S) (f : ℕ) (args : List (Object S)) (l m : Lists) → AreAlike names l m → Same (accessed k layout f args l) (accessed k layout f args m)
  unfolding accessed
  accessed_alike (Scalar t o) f args l m h = ap (λ (v : Object S). v ∷ []) (scalar_alike names k (item f l) (item f m) (item_alike names f l m h))
  accessed_alike (Array t o n resizable) f args l m h =
      sized_alike (argument k args 0) (size (item f l)) (size (item f m)) _ _ (size_alike names (item f l) (item f m) (item_alike names f l m h))
      (ap (λ (v : Object S). v ∷ [])
      (scalar_alike names k (item (natural_of (argument k args 0)) (item f l)) (item (natural_of (argument k args 0)) (item f m))
      (item_alike names (natural_of (argument k args 0)) (item f l) (item f m) (item_alike names f l m h))))
  accessed_alike (Hash test) f args l m h = tt
  accessed_alike (Children n child) f args l m h = tt
  accessed_alike NoField f args l m h = tt
  accessed_alike (Field first others) f args l m h = tt

  changed_alike : (layout : Layout S) (f : ℕ) (args : List (Object S)) (l m : Lists) → AreAlike names l m → Same (changed k layout f args l) (changed k layout f args m)
  unfolding changed
  changed_alike (Scalar t o) f args l m h =
      when_alike (meets k t (argument k args 0)) _ _ (with_alike names f (Value (argument k args 0)) (Value (argument k args 0)) l m refl h)
  changed_alike (Array t o n resizable) f args l m h =
      element_alike (argument k args 0) (meets k t (argument k args 1)) (size (item f l)) (size (item f m)) _ _ (size_alike names (item f l) (item f m) (item_alike names f l m h))
      (with_alike names f (put (item f l)) (put (item f m)) l m
      (with_alike names (natural_of (argument k args 0)) (Value (argument k args 1)) (Value (argument k args 1)) (item f l) (item f m) refl (item_alike names f l m h)) h)
    where
      put : Lists → Lists
      put x = with_item (natural_of (argument k args 0)) (Value (argument k args 1)) x
  changed_alike (Hash test) f args l m h = tt
  changed_alike (Children n child) f args l m h = tt
  changed_alike NoField f args l m h = tt
  changed_alike (Field first others) f args l m h = tt

  lengthened_alike : (layout : Layout S) (f : ℕ) (args : List (Object S)) (l m : Lists) → AreAlike names l m → Same (lengthened k layout f args l) (lengthened k layout f args m)
  unfolding lengthened
  lengthened_alike (Scalar t o) f args l m h = tt
  lengthened_alike (Array t o n resizable) f args l m h =
      when_alike (resizable && is_up_to most_elements (argument k args 0)) _ _
      (with_alike names f (cut (item f l)) (cut (item f m)) l m (resized_alike names (natural_of (argument k args 0)) (Value o) (item f l) (item f m) (item_alike names f l m h)) h)
    where
      cut : Lists → Lists
      cut x = resized (natural_of (argument k args 0)) (Value o) x
  lengthened_alike (Hash test) f args l m h = tt
  lengthened_alike (Children n child) f args l m h = tt
  lengthened_alike NoField f args l m h = tt
  lengthened_alike (Field first others) f args l m h = tt

  measured_alike : (f : ℕ) (l m : Lists) → AreAlike names l m → Same (measured k f l) (measured k f m)
  measured_alike f l m h = ap number (size_alike names (item f l) (item f m) (item_alike names f l m h))
    where
      number : ℕ → List (Object S)
      number n = Integer (pos n) ∷ []

  -- ---- hash fields

  found_alike : (key : Object S) (f : ℕ) (l m : Lists) → AreAlike names l m → value_at k key (pairs_of (item f l)) ≡ value_at k key (pairs_of (item f m))
  found_alike key f l m h =
      sym (value_normal k decides names total exact key (pairs_of (item f l)))
      ∙ (ap (value_at k key) (pairs_alike names (item f l) (item f m) (item_alike names f l m h))
      ∙ value_normal k decides names total exact key (pairs_of (item f m)))

  hash_read_alike : (layout : Layout S) (f : ℕ) (args : List (Object S)) (l m : Lists) → AreAlike names l m → Same (hash_read k layout f args l) (hash_read k layout f args m)
  unfolding hash_read
  hash_read_alike layout f args l m h =
      with_key_alike layout (argument k args 0) _ _ (ap (λ (v : Option (Object S)). unwrap_or v (nil_of k) ∷ []) (found_alike (argument k args 0) f l m h))

  hash_bound_alike : (layout : Layout S) (f : ℕ) (args : List (Object S)) (l m : Lists) → AreAlike names l m → Same (hash_bound k layout f args l) (hash_bound k layout f args m)
  unfolding hash_bound
  hash_bound_alike layout f args l m h =
      with_key_alike layout (argument k args 0) _ _ (ap (λ (v : Option (Object S)). truth_of k (is_some v) ∷ []) (found_alike (argument k args 0) f l m h))

  hash_looked_up_alike : (layout : Layout S) (f : ℕ) (args : List (Object S)) (l m : Lists) → AreAlike names l m → Same (hash_looked_up k layout f args l) (hash_looked_up k layout f args m)
  unfolding hash_looked_up
  hash_looked_up_alike layout f args l m h =
      with_key_alike layout (argument k args 0) _ _ (ap (λ (v : Option (Object S)). unwrap_or v (nil_of k) ∷ truth_of k (is_some v) ∷ []) (found_alike (argument k args 0) f l m h))

  hash_put_alike : (layout : Layout S) (f : ℕ) (args : List (Object S)) (l m : Lists) → AreAlike names l m → Same (hash_put k layout f args l) (hash_put k layout f args m)
  unfolding hash_put
  hash_put_alike layout f args l m h =
      with_key_alike layout (argument k args 0) _ _
      (with_alike names f (Pairs ((argument k args 0, argument k args 1) ∷ pairs_of (item f l))) (Pairs ((argument k args 0, argument k args 1) ∷ pairs_of (item f m))) l m
      (ap put (pairs_alike names (item f l) (item f m) (item_alike names f l m h))) h)
    where
      put : List (Object S × Object S) → Lists
      put ps = Pairs (put_in_order names (argument k args 0, argument k args 1) ps)

  hash_removed_alike : (layout : Layout S) (f : ℕ) (args : List (Object S)) (l m : Lists) → AreAlike names l m → Same (hash_removed k layout f args l) (hash_removed k layout f args m)
  unfolding hash_removed
  hash_removed_alike layout f args l m h =
      with_key_alike layout (argument k args 0) _ _
      (with_alike names f (Pairs (without_key k (argument k args 0) (pairs_of (item f l)))) (Pairs (without_key k (argument k args 0) (pairs_of (item f m)))) l m
      (ap Pairs (without (pairs_of (item f l)) ∙ (ap (without_key k (argument k args 0)) (pairs_alike names (item f l) (item f m) (item_alike names f l m h)) ∙ sym (without (pairs_of (item f m)))))) h)
    where
      without : (ps : List (Object S × Object S)) → normal_pairs names (without_key k (argument k args 0) ps) ≡ without_key k (argument k args 0) (normal_pairs names ps)
      without ps = without_normal k decides names total exact (argument k args 0) ps

  hash_counted_alike : (f : ℕ) (l m : Lists) → AreAlike names l m → Same (hash_counted k f l) (hash_counted k f m)
  hash_counted_alike f l m h = ap number (count (pairs_of (item f l)) ∙ (ap length (pairs_alike names (item f l) (item f m) (item_alike names f l m h)) ∙ sym (count (pairs_of (item f m)))))
    where
      count : (ps : List (Object S × Object S)) → key_count k ps ≡ length (normal_pairs names ps)
      count ps = count_normal k decides names total exact ps

      number : ℕ → List (Object S)
      number n = Integer (pos n) ∷ []

  hash_cleared_alike : (f : ℕ) (l m : Lists) → AreAlike names l m → Same (hash_cleared k f l) (hash_cleared k f m)
  hash_cleared_alike f l m h = with_alike names f (Pairs []) (Pairs []) l m refl h

-- ---- orders

module _ {S : Type 0} (k : SymbolKind S) (names : S → S → Ordering) where
  compares_itself : {T : Type 0} (cmp : T → T → Ordering) → IsTotalOrder cmp → (x : T) → cmp x x ≡ Equal
  compares_itself cmp total x = go (cmp x x) (total.antisymm x x)
    where
      go : (o : Ordering) → o ≡ ordering_reverse o → o ≡ Equal
      go Less e = cc
      go Equal e = refl
      go Greater e = cc

  -- where symbols are told apart both ways
  pub orders : ((a b : S) → Decides (k.same a b) (a ≡ b)) → IsTotalOrder names → CmpEqualImpliesEq names → Orders k names
  orders decides total exact = record {
    total = total;
    exact = exact;
    same = λ a b. (
      λ e. subst (λ c. object_cmp names a c ≡ Equal) (same_tells k decides a b e) (compares_itself (object_cmp names) (object_total names total) a),
      λ e. subst (λ c. same_object k a c ≡ true) (object_exact names exact a b e) (same_itself k decides a),
    );
  }

  pub decides_symbols : Orders k names → (a b : S) → Decides (k.same a b) (a ≡ b)
  decides_symbols o a b = (
    λ e. o.exact a b ((o.same (Symbol a) (Symbol b)).0 e),
    λ e. (o.same (Symbol a) (Symbol b)).1 (subst (λ c. names a c ≡ Equal) e (compares_itself names o.total a)),
  )

  pub lists_are_read_alike : Orders k names → ListsAreReadAlike k names
  lists_are_read_alike o = record {
    accessed = accessed_alike k (decides_symbols o) names o.total o.exact;
    changed = changed_alike k (decides_symbols o) names o.total o.exact;
    measured = measured_alike k (decides_symbols o) names o.total o.exact;
    lengthened = lengthened_alike k (decides_symbols o) names o.total o.exact;
    hash_read = hash_read_alike k (decides_symbols o) names o.total o.exact;
    hash_bound = hash_bound_alike k (decides_symbols o) names o.total o.exact;
    hash_looked_up = hash_looked_up_alike k (decides_symbols o) names o.total o.exact;
    hash_put = hash_put_alike k (decides_symbols o) names o.total o.exact;
    hash_removed = hash_removed_alike k (decides_symbols o) names o.total o.exact;
    hash_counted = hash_counted_alike k (decides_symbols o) names o.total o.exact;
    hash_cleared = hash_cleared_alike k (decides_symbols o) names o.total o.exact;
  }

number_is : (a b : ℕ) → nat_eq a b ≡ true → a ≡ b
number_is a b h = grind (arith, nat_tests)

is_number : (a b : ℕ) → a ≡ b → nat_eq a b ≡ true
is_number a b h = grind (arith, nat_tests)

pub same_number-Decides : (a b : ℕ) → Decides (nat_eq a b) (a ≡ b)
same_number-Decides a b = (number_is a b, is_number a b)

pub names_ordered : Orders by_name name_cmp
names_ordered = orders by_name name_cmp same_name-Decides names_total names_exact

pub numbers_ordered : Orders by_number nat_cmp
numbers_ordered = orders by_number nat_cmp same_number-Decides nat_cmp_total exact_unsigned

pub named_alike : ListsAreReadAlike by_name name_cmp
named_alike = lists_are_read_alike by_name name_cmp names_ordered

pub numbered_alike : ListsAreReadAlike by_number nat_cmp
numbered_alike = lists_are_read_alike by_number nat_cmp numbers_ordered
