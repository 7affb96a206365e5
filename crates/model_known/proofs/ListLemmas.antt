-- The symbols in parts of lists, and in lists that are made of others.
use Rattle.std.specs.Prelude.{◌<◌, ℕ, zero, suc, Bool, true, false, List, [], ◌∷◌, Option, Some, None, unwrap_or, if◌then◌else◌}
use Rattle.std.proofs.Common.{arith}
use Rattle.model_objects.specs.Object.{Object}
use Rattle.model_objects.specs.Named.{Knows}
use Rattle.model_prims.specs.Kinds.{by_number, nil_of, truth_of, same_object}
use Rattle.model_prims.specs.Numbers.{natural_of}
use Rattle.model_prims.specs.Applied.{argument}
use Rattle.model_lists.specs.Lists.{StobjList, Value, Pairs, End, Item, item, with_item, first_of, rest_of, resized, pairs_of, value_at, without_key, scalar_of}
use Rattle.model_eval.specs.Lending.{child_in, with_child_in}
use Rattle.model_known.specs.Known.{KnowsAll, KnowsPairs, KnowsList}

module _ (n : ℕ) where
  pub item_known : (i : ℕ) (x : StobjList ℕ) → KnowsList n x → KnowsList n (item i x)
  item_known zero (Value o) k = tt
  item_known (suc i) (Value o) k = tt
  item_known zero (Pairs ps) k = tt
  item_known (suc i) (Pairs ps) k = tt
  item_known zero End k = tt
  item_known (suc i) End k = tt
  item_known zero (Item first rest) k = k.0
  item_known (suc i) (Item first rest) k = item_known i rest k.1

  pub written_known : (i : ℕ) (new x : StobjList ℕ) → KnowsList n new → KnowsList n x → KnowsList n (with_item i new x)
  written_known zero new (Value o) m k = k
  written_known (suc i) new (Value o) m k = k
  written_known zero new (Pairs ps) m k = k
  written_known (suc i) new (Pairs ps) m k = k
  written_known zero new End m k = tt
  written_known (suc i) new End m k = tt
  written_known zero new (Item first rest) m k = (m, k.1)
  written_known (suc i) new (Item first rest) m k = (k.0, written_known i new rest m k.1)

  pub child_known : (index : Option (Object ℕ)) (x : StobjList ℕ) → KnowsList n x → KnowsList n (child_in index x)
  child_known None x k = k
  child_known (Some i) x k = item_known (natural_of i) x k

  pub child_put_known : (index : Option (Object ℕ)) (new x : StobjList ℕ) → KnowsList n new → KnowsList n x → KnowsList n (with_child_in index new x)
  child_put_known None new x m k = m
  child_put_known (Some i) new x m k = written_known (natural_of i) new x m k

  first_known : (fill x : StobjList ℕ) → KnowsList n fill → KnowsList n x → KnowsList n (first_of fill x)
  first_known fill (Value o) m k = m
  first_known fill (Pairs ps) m k = m
  first_known fill End m k = m
  first_known fill (Item first rest) m k = k.0

  rest_known : (x : StobjList ℕ) → KnowsList n x → KnowsList n (rest_of x)
  rest_known (Value o) k = tt
  rest_known (Pairs ps) k = tt
  rest_known End k = tt
  rest_known (Item first rest) k = k.1

  pub resized_known : (i : ℕ) (fill x : StobjList ℕ) → KnowsList n fill → KnowsList n x → KnowsList n (resized i fill x)
  resized_known zero fill x m k = tt
  resized_known (suc i) fill x m k = (first_known fill x m k, resized_known i fill (rest_of x) m (rest_known x k))

  -- ---- pairs

  pub pairs_known : (x : StobjList ℕ) → KnowsList n x → KnowsPairs n (pairs_of x)
  pairs_known (Value o) k = tt
  pairs_known (Pairs ps) k = k
  pairs_known End k = tt
  pairs_known (Item first rest) k = tt

  either_pairs : (b : Bool) (x y : List (Object ℕ × Object ℕ)) → KnowsPairs n x → KnowsPairs n y → KnowsPairs n (if b then x else y)
  either_pairs true x y p q = p
  either_pairs false x y p q = q

  pub without_known : (key : Object ℕ) (ps : List (Object ℕ × Object ℕ)) → KnowsPairs n ps → KnowsPairs n (without_key by_number key ps)
  without_known key [] k = tt
  without_known key (p ∷ ps) k =
      either_pairs (same_object by_number key p.0) (without_key by_number key ps) (p ∷ without_key by_number key ps) (without_known key ps k.1) (k.0, without_known key ps k.1)

  -- ---- objects, with `T` and `NIL`

  module _ (constants : 1 < n) where
    pub nil_known : Knows n (nil_of by_number)
    nil_known = omega (arith, constants)

    pub truth_known : (b : Bool) → Knows n (truth_of by_number b)
    truth_known true = omega (arith, constants)
    truth_known false = omega (arith, constants)

    pub scalar_known : (x : StobjList ℕ) → KnowsList n x → Knows n (scalar_of by_number x)
    scalar_known (Value o) k = k
    scalar_known (Pairs ps) k = nil_known
    scalar_known End k = nil_known
    scalar_known (Item first rest) k = nil_known

    pub argument_known : (args : List (Object ℕ)) (i : ℕ) → KnowsAll n args → Knows n (argument by_number args i)
    argument_known [] zero k = nil_known
    argument_known [] (suc i) k = nil_known
    argument_known (o ∷ os) zero k = k.0
    argument_known (o ∷ os) (suc i) k = argument_known os i k.1

    either_value : (b : Bool) (x y : Option (Object ℕ)) → Knows n (unwrap_or x (nil_of by_number)) → Knows n (unwrap_or y (nil_of by_number)) → Knows n (unwrap_or (if b then x else y) (nil_of by_number))
    either_value true x y p q = p
    either_value false x y p q = q

    pub value_known : (key : Object ℕ) (ps : List (Object ℕ × Object ℕ)) → KnowsPairs n ps → Knows n (unwrap_or (value_at by_number key ps) (nil_of by_number))
    value_known key [] k = nil_known
    value_known key (p ∷ ps) k = either_value (same_object by_number key p.0) (Some p.1) (value_at by_number key ps) k.0.1 (value_known key ps k.1)
