-- The symbols in what generated functions read and write.
use Rattle.std.specs.Prelude.{◌<◌, ℕ, Bool, true, false, ◌&&◌, List, [], ◌∷◌}
use Rattle.model_objects.specs.Object.{Object}
use Rattle.model_objects.specs.Named.{Knows}
use Rattle.model_prims.specs.Kinds.{by_number}
use Rattle.model_prims.specs.Numbers.{natural_of}
use Rattle.model_prims.specs.Applied.{argument}
use Rattle.model_lists.specs.Types.{meets}
use Rattle.model_lists.specs.Lists.{StobjList, Value, Pairs, size, item, with_item, resized, pairs_of, without_key}
use Rattle.model_lists.specs.Layouts.{Layout, Scalar, Array, Hash, Children, NoField, Field, field_recognizes}
use Rattle.model_lists.specs.Effects.{Effect, is_index, is_up_to, most_elements, may_be_key, when, with_key, value_or_nil, accessed, changed, lengthened, hash_read, hash_bound, hash_looked_up, hash_put, hash_removed}
use Rattle.model_terms.specs.declared.role.Role.{Role}
use Rattle.model_terms.specs.declared.role.Role.TheVariants as role
use Rattle.model_eval.specs.GeneratedCalls.{effect}
use Rattle.model_known.specs.Known.{KnowsAll, KnowsList, KnowsEffect, KnowsLayout}
use Rattle.model_known.specs.Laws.{EffectsKnow}
use Rattle.model_known.proofs.ListLemmas.{item_known, written_known, resized_known, pairs_known, without_known, truth_known, scalar_known, argument_known, value_known}

module _ (n : ℕ) where
  when_known : (b : Bool) (e : Effect ℕ) → KnowsEffect n e → KnowsEffect n (when by_number b e)
  when_known true e k = k
  when_known false e k = tt

  key_known : (layout : Layout ℕ) (key : Object ℕ) (e : Effect ℕ) → KnowsEffect n e → KnowsEffect n (with_key by_number layout key e)
  key_known (Scalar t o) key e k = tt
  key_known (Array t o m resizable) key e k = tt
  key_known (Hash test) key e k = when_known (may_be_key test key) e k
  key_known (Children m child) key e k = tt
  key_known NoField key e k = tt
  key_known (Field first others) key e k = tt

  module _ (f : ℕ) (args : List (Object ℕ)) (l : StobjList ℕ) (constants : 1 < n) (a : KnowsAll n args) (k : KnowsList n l) where
    field : KnowsList n (item f l)
    field = item_known n f l k

    arg : (i : ℕ) → Knows n (argument by_number args i)
    arg i = argument_known n constants args i a

    put : (x : StobjList ℕ) → KnowsList n x → KnowsList n (with_item f x l)
    put x m = written_known n f x l m k

    access_known : (layout : Layout ℕ) → KnowsEffect n (accessed by_number layout f args l)
    unfolding accessed
    access_known (Scalar t o) = (scalar_known n constants (item f l) field, tt)
    access_known (Array t o m resizable) =
        when_known (is_index (argument by_number args 0) (size (item f l))) _ (scalar_known n constants (item (natural_of (argument by_number args 0)) (item f l)) (item_known n (natural_of (argument by_number args 0)) (item f l) field), tt)
    access_known (Hash test) = tt
    access_known (Children m child) = tt
    access_known NoField = tt
    access_known (Field first others) = tt

    change_known : (layout : Layout ℕ) → KnowsEffect n (changed by_number layout f args l)
    unfolding changed
    change_known (Scalar t o) = when_known (meets by_number t (argument by_number args 0)) _ (put (Value (argument by_number args 0)) (arg 0))
    change_known (Array t o m resizable) =
        when_known (is_index (argument by_number args 0) (size (item f l)) && meets by_number t (argument by_number args 1)) _
        (put (with_item (natural_of (argument by_number args 0)) (Value (argument by_number args 1)) (item f l))
        (written_known n (natural_of (argument by_number args 0)) (Value (argument by_number args 1)) (item f l) (arg 1) field))
    change_known (Hash test) = tt
    change_known (Children m child) = tt
    change_known NoField = tt
    change_known (Field first others) = tt

    resize_known : (layout : Layout ℕ) → KnowsLayout n layout → KnowsEffect n (lengthened by_number layout f args l)
    unfolding lengthened
    resize_known (Array t o m resizable) s =
        when_known (resizable && is_up_to most_elements (argument by_number args 0)) _
        (put (resized (natural_of (argument by_number args 0)) (Value o) (item f l)) (resized_known n (natural_of (argument by_number args 0)) (Value o) (item f l) s field))
    resize_known (Scalar t o) s = tt
    resize_known (Hash test) s = tt
    resize_known (Children m child) s = tt
    resize_known NoField s = tt
    resize_known (Field first others) s = tt

    looked_known : Knows n (value_or_nil by_number (argument by_number args 0) (item f l))
    looked_known = value_known n constants (argument by_number args 0) (pairs_of (item f l)) (pairs_known n (item f l) field)

    pub role_known : (r : Role) (layout : Layout ℕ) → KnowsLayout n layout → KnowsEffect n (effect by_number r layout f args l)
    unfolding effect hash_read hash_bound hash_looked_up hash_put hash_removed
    role_known role.Recognizer layout s = (truth_known n constants true, tt)
    role_known role.Creator layout s = tt
    role_known role.FieldRecognizer layout s = (truth_known n constants (field_recognizes by_number layout (argument by_number args 0)), tt)
    role_known role.Access layout s = access_known layout
    role_known role.Update layout s = change_known layout
    role_known role.Length layout s = (tt, tt)
    role_known role.Resize layout s = resize_known layout s
    role_known role.HashGet layout s = key_known layout (argument by_number args 0) _ (looked_known, tt)
    role_known role.HashBoundp layout s = key_known layout (argument by_number args 0) _ (truth_known n constants _, tt)
    role_known role.HashGetBound layout s = key_known layout (argument by_number args 0) _ (looked_known, (truth_known n constants _, tt))
    role_known role.HashPut layout s =
        key_known layout (argument by_number args 0) _
        (put (Pairs ((argument by_number args 0, argument by_number args 1) ∷ pairs_of (item f l))) ((arg 0, arg 1), pairs_known n (item f l) field))
    role_known role.HashRem layout s =
        key_known layout (argument by_number args 0) _
        (put (Pairs (without_key by_number (argument by_number args 0) (pairs_of (item f l)))) (without_known n (argument by_number args 0) (pairs_of (item f l)) (pairs_known n (item f l) field)))
    role_known role.HashCount layout s = (tt, tt)
    role_known role.HashClear layout s = put (Pairs []) tt

pub effects_know : EffectsKnow
effects_know n r layout f args l constants s a k = role_known n f args l constants a k r layout s
