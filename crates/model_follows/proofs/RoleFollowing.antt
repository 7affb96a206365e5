-- Each function of a stobj on its list, and in the logic.
use Rattle.std.proofs.Common.{◌≡◌, ℕ, List, [], ◌∷◌, ◌++◌, map, length, Bool, true, false, refl, sym, ap, ◌∙◌, subst, arith}
use Rattle.std.specs.Prelude.{◌&&◌, ◌||◌, nat_eq, pos}
use Rattle.acl_base.specs.declared.layout.Test.{Test}
use Rattle.model_objects.specs.Object.{Object, Integer, Pair, named}
use Rattle.model_objects.specs.Named.{Symbols}
use Rattle.model_symbols.specs.Symbols.{QualifiedName}
use Rattle.model_prims.specs.Kinds.{by_number, by_name, truth_of, is_pair}
use Rattle.model_prims.specs.Numbers.{natural_of}
use Rattle.model_prims.specs.Lists.{len, cdr, element, updated}
use Rattle.model_prims.specs.Applied.{argument}
use Rattle.model_prims.proofs.ByName.{IsNaming}
use Rattle.model_prims.proofs.NamingLemmas.{natural_named, pair_named, len_named, cdr_named, element_named, updated_named, truth_named}
use Rattle.model_prims.proofs.KnownLemmas.{truth_known}
use Rattle.model_lists.specs.Types.{meets}
use Rattle.model_lists.specs.Lists.{StobjList, Value, Pairs, End, Item, size, item, with_item, resized, pairs_of, has_key, without_key, as_object}
use Rattle.model_lists.specs.Layouts.{Layout, Scalar, Array, Hash, Children, NoField, Field, field_layout, every, recognizes, field_recognizes}
use Rattle.model_lists.specs.LiveLists.{IsValue, IsPairs, HasFields}
use Rattle.model_lists.specs.Logical.{with_length, pair_with, without_pairs, keys_in}
use Rattle.model_lists.specs.Logical as logical
use Rattle.model_lists.specs.Effects.{Effect, Refuses, Reads, Writes, is_index, is_up_to, most_elements, may_be_key, when, reads, with_key, accessed, changed, measured, lengthened, value_or_nil, is_bound, hash_read, hash_looked_up, hash_put, hash_removed, hash_counted}
use Rattle.model_lists.specs.Effects as made
use Rattle.model_lists_laws.specs.Laws.{AreItems, HasInitials}
use Rattle.model_lists_laws.proofs.LogicalLemmas.{is_logical}
use Rattle.model_lists_laws.proofs.StandingLemmas.{IsField, field_of_layout}
use Rattle.model_terms.specs.declared.role.Role.{Role}
use Rattle.model_terms.specs.declared.role.Role.TheVariants as role
use Rattle.model_eval.specs.GeneratedCalls.{effect}
use Rattle.model_logic.specs.Logic.{Thing}
use Rattle.model_logic.specs.LogicFunctions.{as_list, logic_access, logic_update, filling, logic_effect}
use Rattle.model_accepted.proofs.AcceptLemmas.{both_true}
use Rattle.model_follows.specs.FollowedWorlds.{LayoutSymbols, PairSymbols, ListSymbols, IsRow, IsHashed, SuitsLogic, before_stobj}
use Rattle.model_follows.specs.Follows.{one_thing}
use Rattle.model_follows.proofs.ThingLemmas.{list_known, pairs_known}
use Rattle.model_follows.proofs.LayoutThings.{named_layout, field_layout_named, recognizes_named, field_recognizes_named}
use Rattle.model_follows.proofs.EffectThings.{scalar_value, scalar_element, access_field, below_size, recognized_field, recognized_with, all_are_items, every_with, len_with, every_resized, index_below, item_known, with_known, resized_known, value_known, without_known, nothing, length_named, with_key_named, without_named, count_named}
use Rattle.model_follows.proofs.RoleThings.{EachSymbols, role_args, layout_field_known, initial_field, both_hold}

module _ (f : ℕ → QualifiedName) (P : ℕ → Type 0) (n : IsNaming f P) (whole : Layout ℕ) (fn : ℕ) (l : StobjList ℕ) (fields : HasFields whole l) (rec : recognizes by_number whole (as_object by_number l) ≡ true)
    (known : ListSymbols P l) (lk : LayoutSymbols P whole) (ini : HasInitials by_number whole) where
  abbrev obj : Object ℕ
  obj = as_object by_number l

  abbrev fld : StobjList ℕ
  fld = item fn l

  abbrev NN : Object ℕ → Thing
  NN o = named f o

  -- the effect gives what the logic does
  abbrev pub Goes : Thing → Effect ℕ → Type 0
  Goes result Refuses = Unit {0}
  Goes result (Reads os) = EachSymbols P os × (one_thing (map NN os) ≡ result)
  Goes result (Writes m) = ListSymbols P m × (recognizes by_number whole (as_object by_number m) ≡ true) × (NN (as_object by_number m) ≡ result)

  goes_when : (result : Thing) (b : Bool) (e : Effect ℕ) → (b ≡ true → Goes result e) → Goes result (when by_number b e)
  goes_when result true e h = h refl
  goes_when result false e h = tt

  obj_known : Symbols P obj
  obj_known = list_known P l n.knows_nil known

  -- ---- a field

  module _ (layout : Layout ℕ) (e : field_layout fn whole ≡ layout) (i : IsField layout) where
    there : IsField (field_layout fn whole)
    there = subst IsField (sym e) i

    field_fits : HasFields layout fld
    field_fits = field_of_layout layout fn whole l e i fields

    field_is : element by_name fn (NN obj) ≡ NN (as_object by_number fld)
    field_is = element_named f P n fn obj ∙ ap NN (access_field fn whole l fields there)

    field_recognized : recognizes by_number layout (as_object by_number fld) ≡ true
    field_recognized = subst (λ (m : Layout ℕ). recognizes by_number m (as_object by_number fld) ≡ true) e (recognized_field fn whole l fields there rec)

    field_known : ListSymbols P fld
    field_known = item_known P fn l known

    goes_write : (result : Thing) (new : StobjList ℕ) → ListSymbols P new → recognizes by_number layout (as_object by_number new) ≡ true → updated by_name fn (NN (as_object by_number new)) (NN obj) ≡ result → Goes result (Writes (with_item fn new l))
    goes_write result new k r g = (
      with_known P fn new l k known,
      recognized_with fn whole new l fields there rec (subst (λ (m : Layout ℕ). recognizes by_number m (as_object by_number new) ≡ true) (sym e) r),
      ap NN ((is_logical by_number).update fn new l (below_size fn whole l fields there)) ∙ (sym (updated_named f P n fn (as_object by_number new) obj) ∙ g),
    )

    layout_known : LayoutSymbols P layout
    layout_known = subst (LayoutSymbols P) e (layout_field_known P fn whole lk)

    layout_initials : HasInitials by_number layout
    layout_initials = subst (HasInitials by_number) e (initial_field fn whole ini)

  -- ---- scalars and arrays

  goes_access : (layout : Layout ℕ) → field_layout fn whole ≡ layout → (os : List (Object ℕ)) → length os ≡ before_stobj role.Access layout → EachSymbols P os
      → Goes (logic_access by_name (named_layout f layout) fn (map NN os ++ (NN obj ∷ []))) (accessed by_number layout fn os l)
  unfolding accessed logic_access
  goes_access (Scalar t o) e [] c k =
      subst (λ (z : Object ℕ). Goes (element by_name fn (NN obj)) (Reads (z ∷ []))) (sym (scalar_value fld (field_fits (Scalar t o) e tt)))
      ((list_known P fld n.knows_nil (field_known (Scalar t o) e tt), tt), sym (field_is (Scalar t o) e tt))
  goes_access (Scalar t o) e (i ∷ os) c k = absurd (omega (arith, c))
  goes_access (Array t o m resizable) e [] c k = absurd (omega (arith, c))
  goes_access (Array t o m resizable) e (i ∷ (j ∷ os)) c k = absurd (omega (arith, c))
  goes_access (Array t o m resizable) e (i ∷ []) c k =
      goes_when _ (is_index i (size fld)) _
      (λ below.
      subst (λ (z : Object ℕ). Goes (element by_name (natural_of (NN i)) (element by_name fn (NN obj))) (Reads (z ∷ []))) (sym (scalar_element (natural_of i) fld (field_fits (Array t o m resizable) e tt))) (
        (list_known P (item (natural_of i) fld) n.knows_nil (item_known P (natural_of i) fld (field_known (Array t o m resizable) e tt)), tt),
        ap NN ((is_logical by_number).access (natural_of i) fld (all_are_items IsValue fld (field_fits (Array t o m resizable) e tt)))
            ∙ (sym (element_named f P n (natural_of i) (as_object by_number fld))
            ∙ (ap (λ (z : Thing). element by_name (natural_of i) z) (sym (field_is (Array t o m resizable) e tt)) ∙ ap (λ (z : ℕ). element by_name z (element by_name fn (NN obj))) (sym (natural_named f i)))),
      ))
  goes_access (Hash test) e os c k = tt
  goes_access (Children m child) e os c k = tt
  goes_access NoField e os c k = tt
  goes_access (Field first others) e os c k = tt

  goes_update : (layout : Layout ℕ) → field_layout fn whole ≡ layout → (os : List (Object ℕ)) → length os ≡ before_stobj role.Update layout → EachSymbols P os
      → Goes (logic_update by_name (named_layout f layout) fn (map NN os ++ (NN obj ∷ []))) (changed by_number layout fn os l)
  unfolding changed logic_update
  goes_update (Scalar t o) e [] c k = absurd (omega (arith, c))
  goes_update (Scalar t o) e (new ∷ (j ∷ os)) c k = absurd (omega (arith, c))
  goes_update (Scalar t o) e (new ∷ []) c k = goes_when _ (meets by_number t new) _ (λ m. goes_write (Scalar t o) e tt _ (Value new) k.0 m refl)
  goes_update (Array t o m resizable) e [] c k = absurd (omega (arith, c))
  goes_update (Array t o m resizable) e (i ∷ []) c k = absurd (omega (arith, c))
  goes_update (Array t o m resizable) e (i ∷ (new ∷ (j ∷ os))) c k = absurd (omega (arith, c))
  goes_update (Array t o m resizable) e (i ∷ (new ∷ [])) c k =
      goes_when _ (is_index i (size fld) && meets by_number t new) _
      (λ passes.
      let both : (is_index i (size fld) ≡ true) × (meets by_number t new ≡ true) = both_true (is_index i (size fld)) (meets by_number t new) passes in
      let was : (every by_number (meets by_number t) (as_object by_number fld) ≡ true) × ((resizable || nat_eq (len (as_object by_number fld)) m) ≡ true)
      = both_true (every by_number (meets by_number t) (as_object by_number fld)) (resizable || nat_eq (len (as_object by_number fld)) m) (field_recognized (Array t o m resizable) e tt) in
      goes_write (Array t o m resizable) e tt _ (with_item (natural_of i) (Value new) fld)
      (with_known P (natural_of i) (Value new) fld k.1.0 (field_known (Array t o m resizable) e tt))
      (both_hold (every by_number (meets by_number t) (as_object by_number (with_item (natural_of i) (Value new) fld))) (resizable || nat_eq (len (as_object by_number (with_item (natural_of i) (Value new) fld))) m)
      (every_with (meets by_number t) (natural_of i) (Value new) fld was.0 both.1)
      (ap (λ (z : ℕ). resizable || nat_eq z m) (len_with (natural_of i) (Value new) fld) ∙ was.1))
      (ap (λ (z : Thing). updated by_name fn z (NN obj))
      (ap NN ((is_logical by_number).update (natural_of i) (Value new) fld (index_below i (size fld) both.0))
      ∙ (sym (updated_named f P n (natural_of i) new (as_object by_number fld))
      ∙ (ap (λ (z : Thing). updated by_name (natural_of i) (NN new) z) (sym (field_is (Array t o m resizable) e tt)) ∙ ap (λ (z : ℕ). updated by_name z (NN new) (element by_name fn (NN obj))) (sym (natural_named f i)))))))
  goes_update (Hash test) e os c k = tt
  goes_update (Children m child) e os c k = tt
  goes_update NoField e os c k = tt
  goes_update (Field first others) e os c k = tt

  row_items : (layout : Layout ℕ) (e : field_layout fn whole ≡ layout) → IsRow layout → (NN (Integer (pos (size fld))) ≡ logical.array_length by_name fn (NN obj))
  row_items (Scalar t o) e r = absurd r
  row_items (Array t o m resizable) e r =
      ap (λ (z : ℕ). Integer (pos z)) (sym ((is_logical by_number).length fld (all_are_items IsValue fld (field_fits (Array t o m resizable) e tt))) ∙ (sym (len_named f (as_object by_number fld)) ∙ ap len (sym (field_is (Array t o m resizable) e tt))))
  row_items (Hash test) e r = absurd r
  row_items (Children m child) e r =
      ap (λ (z : ℕ). Integer (pos z)) (sym ((is_logical by_number).length fld (all_are_items (HasFields child) fld (field_fits (Children m child) e tt))) ∙ (sym (len_named f (as_object by_number fld)) ∙ ap len (sym (field_is (Children m child) e tt))))
  row_items NoField e r = absurd r
  row_items (Field first others) e r = absurd r

  goes_resize : (layout : Layout ℕ) → field_layout fn whole ≡ layout → (os : List (Object ℕ)) → length os ≡ 1 → EachSymbols P os
      → Goes (logical.array_resized by_name fn (filling by_name (named_layout f layout)) (argument by_name (map NN os ++ (NN obj ∷ [])) 0) (argument by_name (map NN os ++ (NN obj ∷ [])) 1)) (lengthened by_number layout fn os l)
  unfolding lengthened
  goes_resize layout e [] c k = absurd (omega (arith, c))
  goes_resize layout e (new ∷ (j ∷ os)) c k = absurd (omega (arith, c))
  goes_resize (Array t o m resizable) e (new ∷ []) c k =
      goes_when _ (resizable && is_up_to most_elements new) _
      (λ passes.
      let both : (resizable ≡ true) × (is_up_to most_elements new ≡ true) = both_true resizable (is_up_to most_elements new) passes in
      let was : (every by_number (meets by_number t) (as_object by_number fld) ≡ true) × ((resizable || nat_eq (len (as_object by_number fld)) m) ≡ true)
      = both_true (every by_number (meets by_number t) (as_object by_number fld)) (resizable || nat_eq (len (as_object by_number fld)) m) (field_recognized (Array t o m resizable) e tt) in
      let items : AreItems fld = all_are_items IsValue fld (field_fits (Array t o m resizable) e tt) in
      goes_write (Array t o m resizable) e tt _ (resized (natural_of new) (Value o) fld)
      (resized_known P (natural_of new) (Value o) fld (layout_known (Array t o m resizable) e tt).1 (field_known (Array t o m resizable) e tt))
      (both_hold (every by_number (meets by_number t) (as_object by_number (resized (natural_of new) (Value o) fld))) (resizable || nat_eq (len (as_object by_number (resized (natural_of new) (Value o) fld))) m)
      (every_resized (meets by_number t) (natural_of new) o fld items was.0 (layout_initials (Array t o m resizable) e tt))
      (ap (λ (b : Bool). b || nat_eq (len (as_object by_number (resized (natural_of new) (Value o) fld))) m) both.0))
      (ap (λ (z : Thing). updated by_name fn z (NN obj))
      (ap NN ((is_logical by_number).resize (natural_of new) (Value o) fld items)
      ∙ (sym (length_named f P n (natural_of new) o (as_object by_number fld))
      ∙ (ap (λ (z : Thing). with_length by_name (natural_of new) (NN o) z) (sym (field_is (Array t o m resizable) e tt)) ∙ ap (λ (z : ℕ). with_length by_name z (NN o) (element by_name fn (NN obj))) (sym (natural_named f new)))))))
  goes_resize (Scalar t o) e (new ∷ []) c k = tt
  goes_resize (Hash test) e (new ∷ []) c k = tt
  goes_resize (Children m child) e (new ∷ []) c k = tt
  goes_resize NoField e (new ∷ []) c k = tt
  goes_resize (Field first others) e (new ∷ []) c k = tt

  -- ---- hash fields

  -- the field is pairs
  module _ (test : Test) (e : field_layout fn whole ≡ Hash test) where
    pairs_there : (m : StobjList ℕ) → IsPairs m → m ≡ Pairs (pairs_of m)
    pairs_there (Value o) i = absurd i
    pairs_there (Pairs ps) i = refl
    pairs_there End i = absurd i
    pairs_there (Item first rest) i = absurd i

    pairs_symbols : (m : StobjList ℕ) → ListSymbols P m → PairSymbols P (pairs_of m)
    pairs_symbols (Value o) i = tt
    pairs_symbols (Pairs ps) i = i
    pairs_symbols End i = tt
    pairs_symbols (Item first rest) i = tt

    abbrev ps : List (Object ℕ × Object ℕ)
    ps = pairs_of fld

    pairs_is : fld ≡ Pairs ps
    pairs_is = pairs_there fld (field_fits (Hash test) e tt)

    pairs_named : element by_name fn (NN obj) ≡ NN (as_object by_number (Pairs ps))
    pairs_named = field_is (Hash test) e tt ∙ ap (λ (m : StobjList ℕ). NN (as_object by_number m)) pairs_is

    ps_known : PairSymbols P ps
    ps_known = pairs_symbols fld (field_known (Hash test) e tt)

    table_known : Symbols P (as_object by_number (Pairs ps))
    table_known = pairs_known P ps n.knows_nil ps_known

    value_is : (key : Object ℕ) → Symbols P key → NN (value_or_nil by_number key fld) ≡ logical.hash_value by_name fn (NN key) (NN obj)
    value_is key k =
        ap NN (sym ((is_logical by_number).value key ps))
        ∙ (sym (cdr_named f P n (pair_with by_number key (as_object by_number (Pairs ps))))
        ∙ (ap (cdr by_name) (sym (with_key_named f P n key (as_object by_number (Pairs ps)) k table_known)) ∙ ap (λ (z : Thing). cdr by_name (pair_with by_name (NN key) z)) (sym pairs_named)))

    bound_is : (key : Object ℕ) → Symbols P key → NN (is_bound by_number key fld) ≡ logical.hash_bound by_name fn (NN key) (NN obj)
    bound_is key k =
        sym (truth_named f P n (has_key by_number key ps))
        ∙ ap (λ (b : Bool). truth_of by_name b)
        (sym ((is_logical by_number).bound key ps)
        ∙ (sym (pair_named f (pair_with by_number key (as_object by_number (Pairs ps))))
        ∙ (ap is_pair (sym (with_key_named f P n key (as_object by_number (Pairs ps)) k table_known)) ∙ ap (λ (z : Thing). is_pair (pair_with by_name (NN key) z)) (sym pairs_named))))

    value_symbols : (key : Object ℕ) → Symbols P (value_or_nil by_number key fld)
    value_symbols key = value_known P key ps n.knows_nil ps_known

    bound_symbols : (key : Object ℕ) → Symbols P (is_bound by_number key fld)
    bound_symbols key = truth_known P n.knows_truth n.knows_nil (has_key by_number key ps)

    goes_pairs : (result : Thing) (new : List (Object ℕ × Object ℕ)) → PairSymbols P new → updated by_name fn (NN (as_object by_number (Pairs new))) (NN obj) ≡ result → Goes result (Writes (with_item fn (Pairs new) l))
    goes_pairs result new k g = goes_write (Hash test) e tt result (Pairs new) k refl g

  abbrev args : List (Object ℕ) → List Thing
  args os = map NN os ++ (NN obj ∷ [])

  goes_get : (layout : Layout ℕ) → field_layout fn whole ≡ layout → (key : Object ℕ) → Symbols P key → Goes (logical.hash_value by_name fn (NN key) (NN obj)) (hash_read by_number layout fn (key ∷ []) l)
  unfolding hash_read
  goes_get (Hash test) e key k = goes_when _ (may_be_key test key) _ (λ may. ((value_symbols test e key, tt), value_is test e key k))
  goes_get (Scalar t o) e key k = tt
  goes_get (Array t o m resizable) e key k = tt
  goes_get (Children m child) e key k = tt
  goes_get NoField e key k = tt
  goes_get (Field first others) e key k = tt

  goes_bound : (layout : Layout ℕ) → field_layout fn whole ≡ layout → (key : Object ℕ) → Symbols P key → Goes (logical.hash_bound by_name fn (NN key) (NN obj)) (made.hash_bound by_number layout fn (key ∷ []) l)
  unfolding made.hash_bound
  goes_bound (Hash test) e key k = goes_when _ (may_be_key test key) _ (λ may. ((bound_symbols test e key, tt), bound_is test e key k))
  goes_bound (Scalar t o) e key k = tt
  goes_bound (Array t o m resizable) e key k = tt
  goes_bound (Children m child) e key k = tt
  goes_bound NoField e key k = tt
  goes_bound (Field first others) e key k = tt

  goes_looked_up : (layout : Layout ℕ) → field_layout fn whole ≡ layout → (key : Object ℕ) → Symbols P key
      → Goes (as_list by_name (logical.hash_value by_name fn (NN key) (NN obj) ∷ (logical.hash_bound by_name fn (NN key) (NN obj) ∷ []))) (hash_looked_up by_number layout fn (key ∷ []) l)
  unfolding hash_looked_up
  goes_looked_up (Hash test) e key k =
      goes_when _ (may_be_key test key) _ (λ may. ((value_symbols test e key, (bound_symbols test e key, tt)), rw (value_is test e key k, bound_is test e key k) refl))
  goes_looked_up (Scalar t o) e key k = tt
  goes_looked_up (Array t o m resizable) e key k = tt
  goes_looked_up (Children m child) e key k = tt
  goes_looked_up NoField e key k = tt
  goes_looked_up (Field first others) e key k = tt

  goes_put : (layout : Layout ℕ) → field_layout fn whole ≡ layout → (key value : Object ℕ) → Symbols P key → Symbols P value → Goes (logical.with_hash_value by_name fn (NN key) (NN value) (NN obj)) (hash_put by_number layout fn (key ∷ (value ∷ [])) l)
  unfolding hash_put
  goes_put (Hash test) e key value k v =
      goes_when _ (may_be_key test key) _ (λ may. goes_pairs test e _ ((key, value) ∷ pairs_of fld) (k, v, ps_known test e)
      (ap (λ (z : Thing). updated by_name fn (Pair (Pair (NN key) (NN value)) z) (NN obj)) (sym (pairs_named test e))))
  goes_put (Scalar t o) e key value k v = tt
  goes_put (Array t o m resizable) e key value k v = tt
  goes_put (Children m child) e key value k v = tt
  goes_put NoField e key value k v = tt
  goes_put (Field first others) e key value k v = tt

  goes_remove : (layout : Layout ℕ) → field_layout fn whole ≡ layout → (key : Object ℕ) → Symbols P key → Goes (logical.without_hash_key by_name fn (NN key) (NN obj)) (hash_removed by_number layout fn (key ∷ []) l)
  unfolding hash_removed
  goes_remove (Hash test) e key k =
      goes_when _ (may_be_key test key) _ (λ may. goes_pairs test e _ (without_key by_number key (pairs_of fld)) (without_known P key (pairs_of fld) (ps_known test e))
      (ap (λ (z : Thing). updated by_name fn z (NN obj))
      (ap NN ((is_logical by_number).remove key (pairs_of fld))
      ∙ (sym (without_named f P n key (as_object by_number (Pairs (pairs_of fld))) k (table_known test e)) ∙ ap (λ (z : Thing). without_pairs by_name (NN key) z) (sym (pairs_named test e))))))
  goes_remove (Scalar t o) e key k = tt
  goes_remove (Array t o m resizable) e key k = tt
  goes_remove (Children m child) e key k = tt
  goes_remove NoField e key k = tt
  goes_remove (Field first others) e key k = tt

  goes_count : (layout : Layout ℕ) → field_layout fn whole ≡ layout → IsHashed layout → Goes (logical.hash_count by_name fn (NN obj)) (hash_counted by_number fn l)
  goes_count (Hash test) e h = (
    (tt, tt),
    ap (λ (z : ℕ). Integer (pos z))
        (sym ((is_logical by_number).count (pairs_of fld)) ∙ (sym (count_named f P n (as_object by_number (Pairs (pairs_of fld))) (table_known test e)) ∙ ap (λ (z : Thing). keys_in by_name z) (sym (pairs_named test e)))),
  )
  goes_count (Scalar t o) e h = absurd h
  goes_count (Array t o m resizable) e h = absurd h
  goes_count (Children m child) e h = absurd h
  goes_count NoField e h = absurd h
  goes_count (Field first others) e h = absurd h

  goes_clear : (layout : Layout ℕ) → field_layout fn whole ≡ layout → IsHashed layout → Goes (logical.hash_cleared by_name fn (NN obj)) (made.hash_cleared by_number fn l)
  goes_clear (Hash test) e h = goes_pairs test e _ [] tt (ap (λ (z : Thing). updated by_name fn z (NN obj)) (sym (nothing f P n)))
  goes_clear (Scalar t o) e h = absurd h
  goes_clear (Array t o m resizable) e h = absurd h
  goes_clear (Children m child) e h = absurd h
  goes_clear NoField e h = absurd h
  goes_clear (Field first others) e h = absurd h

  -- ---- every function

  named_field : (layout : Layout ℕ) → field_layout fn whole ≡ layout → field_layout fn (named_layout f whole) ≡ named_layout f layout
  named_field layout e = field_layout_named f fn whole ∙ ap (named_layout f) e

  pub goes_role : (r : Role) (layout : Layout ℕ) → field_layout fn whole ≡ layout → SuitsLogic r layout → (os : List (Object ℕ)) → length os ≡ before_stobj r layout → EachSymbols P os
      → Goes (logic_effect by_name r (named_layout f whole) fn (role_args r (map NN os) (NN obj))) (effect by_number r layout fn os l)
  unfolding effect logic_effect
  goes_role role.Recognizer layout e s [] c k = (
    (truth_known P n.knows_truth n.knows_nil true, tt),
    sym (truth_named f P n true) ∙ ap (λ (b : Bool). truth_of by_name b) (sym rec ∙ sym (recognizes_named f P n whole obj lk obj_known)),
  )
  goes_role role.Recognizer layout e s (o ∷ os) c k = absurd (omega (arith, c))
  goes_role role.Creator layout e s os c k = tt
  goes_role role.FieldRecognizer layout e s [] c k = absurd (omega (arith, c))
  goes_role role.FieldRecognizer layout e s (x ∷ (y ∷ os)) c k = absurd (omega (arith, c))
  goes_role role.FieldRecognizer layout e s (x ∷ []) c k = (
    (truth_known P n.knows_truth n.knows_nil (field_recognizes by_number layout x), tt),
    sym (truth_named f P n (field_recognizes by_number layout x))
        ∙ ap (λ (b : Bool). truth_of by_name b)
        (sym (field_recognizes_named f P n layout x (subst (LayoutSymbols P) e (layout_field_known P fn whole lk)) k.0) ∙ ap (λ (m : Layout QualifiedName). field_recognizes by_name m (NN x)) (sym (named_field layout e))),
  )
  goes_role role.Access layout e s os c k =
      subst (λ (m : Layout QualifiedName). Goes (logic_access by_name m fn (map NN os ++ (NN obj ∷ []))) (accessed by_number layout fn os l)) (sym (named_field layout e)) (goes_access layout e os c k)
  goes_role role.Update layout e s os c k =
      subst (λ (m : Layout QualifiedName). Goes (logic_update by_name m fn (map NN os ++ (NN obj ∷ []))) (changed by_number layout fn os l)) (sym (named_field layout e)) (goes_update layout e os c k)
  goes_role role.Length layout e s [] c k = ((tt, tt), row_items layout e s)
  goes_role role.Length layout e s (o ∷ os) c k = absurd (omega (arith, c))
  goes_role role.Resize layout e s os c k =
      subst (λ (m : Layout QualifiedName). Goes (logical.array_resized by_name fn (filling by_name m) (argument by_name (map NN os ++ (NN obj ∷ [])) 0) (argument by_name (map NN os ++ (NN obj ∷ [])) 1)) (lengthened by_number layout fn os l))
      (sym (named_field layout e)) (goes_resize layout e os c k)
  goes_role role.HashGet layout e s [] c k = absurd (omega (arith, c))
  goes_role role.HashGet layout e s (x ∷ (y ∷ os)) c k = absurd (omega (arith, c))
  goes_role role.HashGet layout e s (x ∷ []) c k = goes_get layout e x k.0
  goes_role role.HashBoundp layout e s [] c k = absurd (omega (arith, c))
  goes_role role.HashBoundp layout e s (x ∷ (y ∷ os)) c k = absurd (omega (arith, c))
  goes_role role.HashBoundp layout e s (x ∷ []) c k = goes_bound layout e x k.0
  goes_role role.HashGetBound layout e s [] c k = absurd (omega (arith, c))
  goes_role role.HashGetBound layout e s (x ∷ (y ∷ os)) c k = absurd (omega (arith, c))
  goes_role role.HashGetBound layout e s (x ∷ []) c k = goes_looked_up layout e x k.0
  goes_role role.HashPut layout e s [] c k = absurd (omega (arith, c))
  goes_role role.HashPut layout e s (x ∷ []) c k = absurd (omega (arith, c))
  goes_role role.HashPut layout e s (x ∷ (y ∷ (z ∷ os))) c k = absurd (omega (arith, c))
  goes_role role.HashPut layout e s (x ∷ (y ∷ [])) c k = goes_put layout e x y k.0 k.1.0
  goes_role role.HashRem layout e s [] c k = absurd (omega (arith, c))
  goes_role role.HashRem layout e s (x ∷ (y ∷ os)) c k = absurd (omega (arith, c))
  goes_role role.HashRem layout e s (x ∷ []) c k = goes_remove layout e x k.0
  goes_role role.HashCount layout e s [] c k = goes_count layout e s
  goes_role role.HashCount layout e s (o ∷ os) c k = absurd (omega (arith, c))
  goes_role role.HashClear layout e s [] c k = goes_clear layout e s
  goes_role role.HashClear layout e s (o ∷ os) c k = absurd (omega (arith, c))
