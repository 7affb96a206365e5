-- The functions that a concrete stobj comes with do to a list by name what they do to it by number.
use Rattle.std.proofs.Common.{◌≡◌, ℕ, zero, suc, ◌+◌, ◌<◌, List, [], ◌∷◌, map, length, Bool, true, false, Option, Some, None, refl, ap, ◌∙◌}
use Rattle.std.specs.Prelude.{◌&&◌, pos, negsuc, unwrap_or, if◌then◌else◌, option_map}
use Rattle.std.specs.Option.{is_some}
use Rattle.model_lists.specs.Layouts.{Array, Children, Field, Hash, Layout, NoField, Scalar, field_recognizes}
use Rattle.model_follows.proofs.RoleThings.{EachSymbols}
use Rattle.model_lists.specs.Effects.{Effect, Reads, Refuses, Writes, accessed, changed, hash_bound, hash_looked_up, hash_put, hash_read, hash_removed, is_bound, is_index, is_up_to, lengthened, may_be_key, most_elements, value_or_nil, when, with_key}
use Rattle.model_lists.specs.Lists.{End, Item, Pairs, StobjList, Value, first_of, has_key, item, key_count, pairs_of, resized, scalar_of, size, value_at, with_item, without_key, rest_of}
use Rattle.acl_base.specs.declared.layout.Test.TheVariants.{Eq, Eql, Equal}
use Rattle.std.specs.declared.cmp.Ordering.TheVariants.{Equal}
use Rattle.model_objects.specs.Object.{Integer, Object, Pair, Symbol, Text}
use Rattle.model_prims.proofs.ByName.{IsNaming}
use Rattle.model_follows.specs.FollowedWorlds.{LayoutSymbols, ListSymbols, PairSymbols}
use Rattle.model_symbols.specs.Symbols.{QualifiedName, form_of, symbol_at}
use Rattle.model_terms.specs.declared.role.Role.{Role}
use Rattle.model_objects.specs.Named.{Symbols}
use Rattle.model_logic.specs.Logic.{Thing}
use Rattle.model_prims.specs.Applied.{argument}
use Rattle.model_prims.specs.Kinds.{by_name, by_number, nil_of, same_object, truth_of}
use Rattle.model_eval.specs.GeneratedCalls.{effect}
use Rattle.model_follows.proofs.LayoutThings.{field_recognizes_named, named_layout, named_type, meets_named}
use Rattle.model_prims.proofs.NamingLemmas.{integer_named, natural_named, none_named, same_named, truth_named, symbol_named}
use Rattle.model_follows.proofs.EffectThings.{item_known}
use Rattle.model_lists.specs.Types.{meets}
use Rattle.model_abstract.specs.Corresponding.{named_list}
use Rattle.model_prims.specs.Numbers.{natural_of}
use Rattle.model_lists.specs.Kinds.{others}
use Rattle.acl_base.specs.declared.layout.Test.{Test}
use Rattle.model_follows.proofs.PrimThings.{argument_named}
use Rattle.model_terms.specs.declared.role.Role.TheVariants as role

module _ (symbols : List QualifiedName) (n : IsNaming (symbol_at symbols) (λ s. s < length symbols)) where
  abbrev P : ℕ → Type 0
  P s = s < length symbols

  abbrev f : ℕ → QualifiedName
  f = symbol_at symbols

  abbrev N : StobjList ℕ → StobjList QualifiedName
  N l = named_list symbols l

  abbrev named_pairs : List (Object ℕ × Object ℕ) → List (Thing × Thing)
  named_pairs ps = map (λ (p : Object ℕ × Object ℕ). (form_of symbols p.0, form_of symbols p.1)) ps

  abbrev pub named_effect : Effect ℕ → Effect QualifiedName
  named_effect Refuses = Refuses
  named_effect (Reads os) = Reads (map (form_of symbols) os)
  named_effect (Writes l) = Writes (named_list symbols l)

  -- ---- items

  pub item_named : (i : ℕ) (l : StobjList ℕ) → item i (N l) ≡ N (item i l)
  item_named i (Value o) = refl
  item_named i (Pairs ps) = refl
  item_named i End = refl
  item_named zero (Item first rest) = refl
  item_named (suc i) (Item first rest) = item_named i rest

  pub size_named : (l : StobjList ℕ) → size (N l) ≡ size l
  size_named (Value o) = refl
  size_named (Pairs ps) = refl
  size_named End = refl
  size_named (Item first rest) = ap (λ (i : ℕ). i + 1) (size_named rest)

  pub with_item_named : (i : ℕ) (new l : StobjList ℕ) → with_item i (N new) (N l) ≡ N (with_item i new l)
  with_item_named i new (Value o) = refl
  with_item_named i new (Pairs ps) = refl
  with_item_named i new End = refl
  with_item_named zero new (Item first rest) = refl
  with_item_named (suc i) new (Item first rest) = ap (λ (r : StobjList QualifiedName). Item (N first) r) (with_item_named i new rest)

  first_named : (fill l : StobjList ℕ) → first_of (N fill) (N l) ≡ N (first_of fill l)
  first_named fill (Value o) = refl
  first_named fill (Pairs ps) = refl
  first_named fill End = refl
  first_named fill (Item first rest) = refl

  rest_named : (l : StobjList ℕ) → rest_of (N l) ≡ N (rest_of l)
  rest_named (Value o) = refl
  rest_named (Pairs ps) = refl
  rest_named End = refl
  rest_named (Item first rest) = refl

  resized_named : (i : ℕ) (fill l : StobjList ℕ) → resized i (N fill) (N l) ≡ N (resized i fill l)
  resized_named zero fill l = refl
  resized_named (suc i) fill l = rw (first_named fill l, rest_named l, resized_named i fill (rest_of l)) refl

  pairs_named : (l : StobjList ℕ) → pairs_of (N l) ≡ named_pairs (pairs_of l)
  pairs_named (Value o) = refl
  pairs_named (Pairs ps) = refl
  pairs_named End = refl
  pairs_named (Item first rest) = refl

  pairs_known : (l : StobjList ℕ) → ListSymbols P l → PairSymbols P (pairs_of l)
  pairs_known (Value o) k = tt
  pairs_known (Pairs ps) k = k
  pairs_known End k = tt
  pairs_known (Item first rest) k = tt

  scalar_named : (l : StobjList ℕ) → scalar_of by_name (N l) ≡ form_of symbols (scalar_of by_number l)
  scalar_named (Value o) = refl
  scalar_named (Pairs ps) = none_named f P n
  scalar_named End = none_named f P n
  scalar_named (Item first rest) = none_named f P n

  -- ---- pairs

  value_named : (key : Object ℕ) (ps : List (Object ℕ × Object ℕ)) → Symbols P key → PairSymbols P ps
      → value_at by_name (form_of symbols key) (named_pairs ps) ≡ option_map (form_of symbols) (value_at by_number key ps)
  value_named key [] k h = refl
  value_named key (p ∷ ps) k h = rw (same_named f P n key p.0 k h.0, value_named key ps k h.2) (go (same_object by_number key p.0))
    where
      go : (b : Bool) → (if b then Some (form_of symbols p.1) else option_map (form_of symbols) (value_at by_number key ps)) ≡ option_map (form_of symbols) (if b then Some p.1 else value_at by_number key ps)
      go true = refl
      go false = refl

  or_nil : (o : Option (Object ℕ)) → unwrap_or (option_map (form_of symbols) o) (nil_of by_name) ≡ form_of symbols (unwrap_or o (nil_of by_number))
  or_nil None = none_named f P n
  or_nil (Some o) = refl

  some_named : (o : Option (Object ℕ)) → is_some (option_map (form_of symbols) o) ≡ is_some o
  some_named None = refl
  some_named (Some o) = refl

  has_named : (key : Object ℕ) (ps : List (Object ℕ × Object ℕ)) → Symbols P key → PairSymbols P ps → has_key by_name (form_of symbols key) (named_pairs ps) ≡ has_key by_number key ps
  has_named key ps k h = ap is_some (value_named key ps k h) ∙ some_named (value_at by_number key ps)

  without_named : (key : Object ℕ) (ps : List (Object ℕ × Object ℕ)) → Symbols P key → PairSymbols P ps → without_key by_name (form_of symbols key) (named_pairs ps) ≡ named_pairs (without_key by_number key ps)
  without_named key [] k h = refl
  without_named key (p ∷ ps) k h = rw (same_named f P n key p.0 k h.0, without_named key ps k h.2) (go (same_object by_number key p.0))
    where
      go : (b : Bool) → (if b then named_pairs (without_key by_number key ps) else (form_of symbols p.0, form_of symbols p.1) ∷ named_pairs (without_key by_number key ps)) ≡ named_pairs (if b then without_key by_number key ps else p ∷ without_key by_number key ps)
      go true = refl
      go false = refl

  count_named : (ps : List (Object ℕ × Object ℕ)) → PairSymbols P ps → key_count by_name (named_pairs ps) ≡ key_count by_number ps
  count_named [] h = refl
  count_named (p ∷ ps) h = rw (has_named p.0 ps h.0 h.2, count_named ps h.2) refl

  -- ---- arguments

  arg_named : (os : List (Object ℕ)) (i : ℕ) → argument by_name (map (form_of symbols) os) i ≡ form_of symbols (argument by_number os i)
  arg_named os i = argument_named symbols n.at_nil os i

  arg_known : (os : List (Object ℕ)) (i : ℕ) → EachSymbols P os → Symbols P (argument by_number os i)
  arg_known [] i h = n.knows_nil
  arg_known (o ∷ os) zero h = h.0
  arg_known (o ∷ os) (suc i) h = arg_known os i h.1

  pub index_named : (o : Object ℕ) (i : ℕ) → is_index (form_of symbols o) i ≡ is_index o i
  index_named (Integer (pos m)) i = refl
  index_named (Integer (negsuc m)) i = refl
  index_named (Symbol s) i = refl
  index_named (Text bytes) i = refl
  index_named (Pair a d) i = refl

  up_to_named : (i : ℕ) (o : Object ℕ) → is_up_to i (form_of symbols o) ≡ is_up_to i o
  up_to_named i (Integer (pos m)) = refl
  up_to_named i (Integer (negsuc m)) = refl
  up_to_named i (Symbol s) = refl
  up_to_named i (Text bytes) = refl
  up_to_named i (Pair a d) = refl

  key_named : (test : Test) (o : Object ℕ) → may_be_key test (form_of symbols o) ≡ may_be_key test o
  key_named Eq o = symbol_named f o
  key_named Eql o = rw (integer_named f o, symbol_named f o) refl
  key_named Equal o = refl

  -- ---- effects

  when_named : (b : Bool) (e : Effect ℕ) → when by_name b (named_effect e) ≡ named_effect (when by_number b e)
  when_named true e = refl
  when_named false e = refl

  when_both : (a b : Bool) (d : Effect QualifiedName) (e : Effect ℕ) → a ≡ b → d ≡ named_effect e → when by_name a d ≡ named_effect (when by_number b e)
  when_both a b d e h i = rw (h, i) (when_named b e)

  with_key_named : (lay : Layout ℕ) (key : Object ℕ) (d : Effect QualifiedName) (e : Effect ℕ) → d ≡ named_effect e → with_key by_name (named_layout f lay) (form_of symbols key) d ≡ named_effect (with_key by_number lay key e)
  with_key_named (Hash test) key d e h = when_both (may_be_key test (form_of symbols key)) (may_be_key test key) d e (key_named test key) h
  with_key_named (Scalar t o) key d e h = refl
  with_key_named (Array t o m resizable) key d e h = refl
  with_key_named (Children m kid) key d e h = refl
  with_key_named NoField key d e h = refl
  with_key_named (Field first others) key d e h = refl

  module _ (fn : ℕ) (os : List (Object ℕ)) (l : StobjList ℕ) (each : EachSymbols P os) (known : ListSymbols P l) where
    abbrev field : StobjList ℕ
    field = item fn l

    field_known : ListSymbols P (item fn l)
    field_known = item_known P fn l known

    hash_known : PairSymbols P (pairs_of (item fn l))
    hash_known = pairs_known (item fn l) field_known

    hash_pairs : pairs_of (item fn (N l)) ≡ named_pairs (pairs_of (item fn l))
    hash_pairs = ap (λ (q : StobjList QualifiedName). pairs_of q) (item_named fn l) ∙ pairs_named (item fn l)

    abbrev args : List Thing
    args = map (form_of symbols) os

    first : argument by_name args 0 ≡ form_of symbols (argument by_number os 0)
    first = arg_named os 0

    second : argument by_name args 1 ≡ form_of symbols (argument by_number os 1)
    second = arg_named os 1

    natural_first : natural_of (argument by_name args 0) ≡ natural_of (argument by_number os 0)
    natural_first = ap natural_of first ∙ natural_named f (argument by_number os 0)

    index_first : is_index (argument by_name args 0) (size (item fn (N l))) ≡ is_index (argument by_number os 0) (size (item fn l))
    index_first =
        rw (first, item_named fn l, size_named (item fn l)) (index_named (argument by_number os 0) (size (item fn l)))

    element_is : item (natural_of (argument by_name args 0)) (item fn (N l)) ≡ N (item (natural_of (argument by_number os 0)) (item fn l))
    element_is = rw (natural_first, item_named fn l) (item_named (natural_of (argument by_number os 0)) (item fn l))

    with_element_is : with_item fn (with_item (natural_of (argument by_name args 0)) (Value (argument by_name args 1)) (item fn (N l))) (N l) ≡ N (with_item fn (with_item (natural_of (argument by_number os 0)) (Value (argument by_number os 1)) (item fn l)) l)
    with_element_is =
        rw (natural_first, second, item_named fn l, with_item_named (natural_of (argument by_number os 0)) (Value (argument by_number os 1)) (item fn l))
        (with_item_named fn (with_item (natural_of (argument by_number os 0)) (Value (argument by_number os 1)) (item fn l)) l)

    resized_is : (o : Object ℕ) → with_item fn (resized (natural_of (argument by_name args 0)) (Value (form_of symbols o)) (item fn (N l))) (N l) ≡ N (with_item fn (resized (natural_of (argument by_number os 0)) (Value o) (item fn l)) l)
    resized_is o =
        rw (natural_first, item_named fn l, resized_named (natural_of (argument by_number os 0)) (Value o) (item fn l))
        (with_item_named fn (resized (natural_of (argument by_number os 0)) (Value o) (item fn l)) l)

    put_is : with_item fn (Pairs ((argument by_name args 0, argument by_name args 1) ∷ pairs_of (item fn (N l)))) (N l) ≡ N (with_item fn (Pairs ((argument by_number os 0, argument by_number os 1) ∷ pairs_of (item fn l))) l)
    put_is = rw (first, second, hash_pairs) (with_item_named fn (Pairs ((argument by_number os 0, argument by_number os 1) ∷ pairs_of (item fn l))) l)

    removed_is : with_item fn (Pairs (without_key by_name (argument by_name args 0) (pairs_of (item fn (N l))))) (N l) ≡ N (with_item fn (Pairs (without_key by_number (argument by_number os 0) (pairs_of (item fn l)))) l)
    removed_is =
        rw (first, hash_pairs, without_named (argument by_number os 0) (pairs_of (item fn l)) (arg_known os 0 each) hash_known) (with_item_named fn (Pairs (without_key by_number (argument by_number os 0) (pairs_of (item fn l)))) l)

    accessed_named : (lay : Layout ℕ) → accessed by_name (named_layout f lay) fn args (N l) ≡ named_effect (accessed by_number lay fn os l)
    unfolding accessed
    accessed_named (Scalar t o) = ap (λ (q : Thing). Reads (q ∷ [])) (ap (scalar_of by_name) (item_named fn l) ∙ scalar_named (item fn l))
    accessed_named (Array t o m resizable) =
        when_both (is_index (argument by_name args 0) (size (item fn (N l)))) (is_index (argument by_number os 0) (size (item fn l)))
        (Reads (scalar_of by_name (item (natural_of (argument by_name args 0)) (item fn (N l))) ∷ [])) (Reads (scalar_of by_number (item (natural_of (argument by_number os 0)) (item fn l)) ∷ [])) index_first
        (ap (λ (q : Thing). Reads (q ∷ []))
        (ap (scalar_of by_name) element_is ∙ scalar_named (item (natural_of (argument by_number os 0)) (item fn l))))
    accessed_named (Hash test) = refl
    accessed_named (Children m kid) = refl
    accessed_named NoField = refl
    accessed_named (Field a b) = refl

    changed_named : (lay : Layout ℕ) → LayoutSymbols P lay → changed by_name (named_layout f lay) fn args (N l) ≡ named_effect (changed by_number lay fn os l)
    unfolding changed
    changed_named (Scalar t o) k =
        when_both (meets by_name (named_type f t) (argument by_name args 0)) (meets by_number t (argument by_number os 0))
        (Writes (with_item fn (Value (argument by_name args 0)) (N l))) (Writes (with_item fn (Value (argument by_number os 0)) l))
        (ap (meets by_name (named_type f t)) first ∙ meets_named f P n t (argument by_number os 0) k.0 (arg_known os 0 each))
        (ap (λ (q : StobjList QualifiedName). Writes q) (ap (λ (q : Thing). with_item fn (Value q) (N l)) first ∙ with_item_named fn (Value (argument by_number os 0)) l))
    changed_named (Array t o m resizable) k =
        when_both (is_index (argument by_name args 0) (size (item fn (N l))) && meets by_name (named_type f t) (argument by_name args 1)) (is_index (argument by_number os 0) (size (item fn l)) && meets by_number t (argument by_number os 1))
        (Writes (with_item fn (with_item (natural_of (argument by_name args 0)) (Value (argument by_name args 1)) (item fn (N l))) (N l))) (Writes (with_item fn (with_item (natural_of (argument by_number os 0)) (Value (argument by_number os 1)) (item fn l)) l))
        (both_same index_first (ap (meets by_name (named_type f t)) second ∙ meets_named f P n t (argument by_number os 1) k.0 (arg_known os 1 each)))
        (ap (λ (q : StobjList QualifiedName). Writes q) with_element_is)
      where
        both_same : {a b c d : Bool} → a ≡ b → c ≡ d → (a && c) ≡ (b && d)
        both_same e g = rw (e, g) refl
    changed_named (Hash test) k = refl
    changed_named (Children m kid) k = refl
    changed_named NoField k = refl
    changed_named (Field a b) k = refl

    lengthened_named : (lay : Layout ℕ) → lengthened by_name (named_layout f lay) fn args (N l) ≡ named_effect (lengthened by_number lay fn os l)
    unfolding lengthened
    lengthened_named (Array t o m resizable) =
        when_both (resizable && is_up_to most_elements (argument by_name args 0)) (resizable && is_up_to most_elements (argument by_number os 0))
        (Writes (with_item fn (resized (natural_of (argument by_name args 0)) (Value (form_of symbols o)) (item fn (N l))) (N l))) (Writes (with_item fn (resized (natural_of (argument by_number os 0)) (Value o) (item fn l)) l))
        (ap (λ (b : Bool). resizable && b) (ap (is_up_to most_elements) first ∙ up_to_named most_elements (argument by_number os 0)))
        (ap (λ (q : StobjList QualifiedName). Writes q) (resized_is o))
    lengthened_named (Scalar t o) = refl
    lengthened_named (Hash test) = refl
    lengthened_named (Children m kid) = refl
    lengthened_named NoField = refl
    lengthened_named (Field a b) = refl

    -- hash fields
    value_is : value_or_nil by_name (argument by_name args 0) (item fn (N l)) ≡ form_of symbols (value_or_nil by_number (argument by_number os 0) (item fn l))
    value_is =
        rw (first, hash_pairs)
        (ap (λ (q : Option Thing). unwrap_or q (nil_of by_name)) (value_named (argument by_number os 0) (pairs_of (item fn l)) (arg_known os 0 each) hash_known) ∙ or_nil (value_at by_number (argument by_number os 0) (pairs_of (item fn l))))

    bound_is : is_bound by_name (argument by_name args 0) (item fn (N l)) ≡ form_of symbols (is_bound by_number (argument by_number os 0) (item fn l))
    bound_is =
        rw (first, hash_pairs)
        (ap (truth_of by_name) (has_named (argument by_number os 0) (pairs_of (item fn l)) (arg_known os 0 each) hash_known) ∙ truth_named f P n (has_key by_number (argument by_number os 0) (pairs_of (item fn l))))

    keyed : (lay : Layout ℕ) (d : Effect QualifiedName) (e : Effect ℕ) → d ≡ named_effect e → with_key by_name (named_layout f lay) (argument by_name args 0) d ≡ named_effect (with_key by_number lay (argument by_number os 0) e)
    keyed lay d e h = ap (λ (q : Thing). with_key by_name (named_layout f lay) q d) first ∙ with_key_named lay (argument by_number os 0) d e h

    pub effect_named : (r : Role) (lay : Layout ℕ) → LayoutSymbols P lay → effect by_name r (named_layout f lay) fn args (N l) ≡ named_effect (effect by_number r lay fn os l)
    unfolding effect hash_read hash_bound hash_looked_up hash_put hash_removed
    effect_named role.Recognizer lay k = ap (λ (q : Thing). Reads (q ∷ [])) (truth_named f P n true)
    effect_named role.Creator lay k = refl
    effect_named role.FieldRecognizer lay k =
        ap (λ (q : Thing). Reads (q ∷ []))
        (ap (truth_of by_name) (ap (field_recognizes by_name (named_layout f lay)) first ∙ field_recognizes_named f P n lay (argument by_number os 0) k (arg_known os 0 each)) ∙ truth_named f P n (field_recognizes by_number lay (argument by_number os 0)))
    effect_named role.Access lay k = accessed_named lay
    effect_named role.Update lay k = changed_named lay k
    effect_named role.Length lay k = ap (λ (q : ℕ). Reads (Integer (pos q) ∷ [])) (ap size (item_named fn l) ∙ size_named (item fn l))
    effect_named role.Resize lay k = lengthened_named lay
    effect_named role.HashGet lay k = keyed lay (Reads (value_or_nil by_name (argument by_name args 0) (item fn (N l)) ∷ [])) (Reads (value_or_nil by_number (argument by_number os 0) (item fn l) ∷ [])) (ap (λ (q : Thing). Reads (q ∷ [])) value_is)
    effect_named role.HashBoundp lay k = keyed lay (Reads (is_bound by_name (argument by_name args 0) (item fn (N l)) ∷ [])) (Reads (is_bound by_number (argument by_number os 0) (item fn l) ∷ [])) (ap (λ (q : Thing). Reads (q ∷ [])) bound_is)
    effect_named role.HashGetBound lay k =
        keyed lay (Reads (value_or_nil by_name (argument by_name args 0) (item fn (N l)) ∷ is_bound by_name (argument by_name args 0) (item fn (N l)) ∷ []))
        (Reads (value_or_nil by_number (argument by_number os 0) (item fn l) ∷ is_bound by_number (argument by_number os 0) (item fn l) ∷ []))
        (ap (λ (q : Thing). Reads (q ∷ is_bound by_name (argument by_name args 0) (item fn (N l)) ∷ [])) value_is
        ∙ ap (λ (q : Thing). Reads (form_of symbols (value_or_nil by_number (argument by_number os 0) (item fn l)) ∷ q ∷ [])) bound_is)
    effect_named role.HashPut lay k =
        keyed lay (Writes (with_item fn (Pairs ((argument by_name args 0, argument by_name args 1) ∷ pairs_of (item fn (N l)))) (N l)))
        (Writes (with_item fn (Pairs ((argument by_number os 0, argument by_number os 1) ∷ pairs_of (item fn l))) l))
        (ap (λ (q : StobjList QualifiedName). Writes q) put_is)
    effect_named role.HashRem lay k =
        keyed lay (Writes (with_item fn (Pairs (without_key by_name (argument by_name args 0) (pairs_of (item fn (N l))))) (N l)))
        (Writes (with_item fn (Pairs (without_key by_number (argument by_number os 0) (pairs_of (item fn l)))) l))
        (ap (λ (q : StobjList QualifiedName). Writes q) removed_is)
    effect_named role.HashCount lay k = ap (λ (q : ℕ). Reads (Integer (pos q) ∷ [])) (ap (key_count by_name) hash_pairs ∙ count_named (pairs_of (item fn l)) hash_known)
    effect_named role.HashClear lay k = ap (λ (q : StobjList QualifiedName). Writes q) (with_item_named fn (Pairs []) l)
