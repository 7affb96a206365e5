-- What the functions that a concrete stobj comes with do to its list, and when they are refused (ACL2's manual, topic
-- DEFSTOBJ).
use Rattle.std.specs.Prelude.{ℕ, List, [], ◌∷◌, Bool, true, false, ◌&&◌, ◌||◌, nat_lt, nat_le, pos, negsuc, unwrap_or, if◌then◌else◌}
use Rattle.acl_base.specs.declared.layout.Test.{Test}
use Rattle.acl_base.specs.declared.layout.Test.TheVariants.{Eq, Eql, Equal}
use Rattle.model_objects.specs.Object.{Object, Integer, Symbol, Text, Pair}
use Rattle.model_prims.specs.Kinds.{SymbolKind, nil_of, truth_of, is_integer, is_symbol}
use Rattle.model_prims.specs.Numbers.{natural_of}
use Rattle.model_prims.specs.Applied.{argument}
use Rattle.model_lists.specs.Lists.{StobjList, Value, Pairs, size, item, with_item, resized, pairs_of, value_at, has_key, without_key, key_count, scalar_of}
use Rattle.model_lists.specs.Types.{meets}
use Rattle.model_lists.specs.Layouts.{Layout, Scalar, Array, Hash, Children, NoField, Field}

-- what comes of a function on a list: its guard fails, it gives values, or the stobj has another list
pub data Effect (S : Type 0) : Type 0 where
  Refuses : Effect S
  Reads : List (Object S) → Effect S
  Writes : StobjList S → Effect S

-- the most elements that an array may be resized to
abbrev pub most_elements : ℕ
most_elements = 16777216

-- a natural number up to a bound
abbrev pub is_up_to : {S : Type 0} → ℕ → Object S → Bool
is_up_to most (Integer (pos n)) = nat_le n most
is_up_to most (Integer (negsuc n)) = false
is_up_to most (Symbol s) = false
is_up_to most (Text bytes) = false
is_up_to most (Pair a d) = false

-- a natural number below a length
abbrev pub is_index : {S : Type 0} → Object S → ℕ → Bool
is_index (Integer (pos n)) length = nat_lt n length
is_index (Integer (negsuc n)) length = false
is_index (Symbol s) length = false
is_index (Text bytes) length = false
is_index (Pair a d) length = false

-- what may be a key
abbrev pub may_be_key : {S : Type 0} → Test → Object S → Bool
may_be_key Eq key = is_symbol key
may_be_key Eql key = is_integer key || is_symbol key
may_be_key Equal key = true

module _ {S : Type 0} (k : SymbolKind S) where
  abbrev pub reads : Object S → Effect S
  reads o = Reads (o ∷ [])

  abbrev pub reads_number : ℕ → Effect S
  reads_number n = reads (Integer (pos n))

  abbrev pub when : Bool → Effect S → Effect S
  when passes e = if passes then e else Refuses

  -- ---- fields by their numbers; arguments in the order of the call, without the stobj

  -- a scalar field, or the element of an array
  unfoldable pub accessed : Layout S → ℕ → List (Object S) → StobjList S → Effect S
  accessed (Scalar t o) f args l = reads (scalar_of k (item f l))
  accessed (Array t o n resizable) f args l =
      let i = argument k args 0 in when (is_index i (size (item f l))) (reads (scalar_of k (item (natural_of i) (item f l))))
  accessed (Hash test) f args l = Refuses
  accessed (Children n child) f args l = Refuses
  accessed NoField f args l = Refuses
  accessed (Field first others) f args l = Refuses

  unfoldable pub changed : Layout S → ℕ → List (Object S) → StobjList S → Effect S
  changed (Scalar t o) f args l = let new = argument k args 0 in when (meets k t new) (Writes (with_item f (Value new) l))
  changed (Array t o n resizable) f args l =
      let i = argument k args 0 in
      let new = argument k args 1 in
      when (is_index i (size (item f l)) && meets k t new) (Writes (with_item f (with_item (natural_of i) (Value new) (item f l)) l))
  changed (Hash test) f args l = Refuses
  changed (Children n child) f args l = Refuses
  changed NoField f args l = Refuses
  changed (Field first others) f args l = Refuses

  -- the length of an array, of children too
  abbrev pub measured : ℕ → StobjList S → Effect S
  measured f l = reads_number (size (item f l))

  -- an array cut to a length, or lengthened with its initial value
  unfoldable pub lengthened : Layout S → ℕ → List (Object S) → StobjList S → Effect S
  lengthened (Array t o n resizable) f args l =
      let new = argument k args 0 in
      when (resizable && is_up_to most_elements new) (Writes (with_item f (resized (natural_of new) (Value o) (item f l)) l))
  lengthened (Scalar t o) f args l = Refuses
  lengthened (Hash test) f args l = Refuses
  lengthened (Children n child) f args l = Refuses
  lengthened NoField f args l = Refuses
  lengthened (Field first others) f args l = Refuses

  -- whether the first argument may be a key of the field
  abbrev pub with_key : Layout S → Object S → Effect S → Effect S
  with_key (Hash test) key e = when (may_be_key test key) e
  with_key (Scalar t o) key e = Refuses
  with_key (Array t o n resizable) key e = Refuses
  with_key (Children n child) key e = Refuses
  with_key NoField key e = Refuses
  with_key (Field first others) key e = Refuses

  -- the value of a key, `NIL` where it is not bound
  abbrev pub value_or_nil : Object S → StobjList S → Object S
  value_or_nil key field = unwrap_or (value_at k key (pairs_of field)) (nil_of k)

  abbrev pub is_bound : Object S → StobjList S → Object S
  is_bound key field = truth_of k (has_key k key (pairs_of field))

  unfoldable pub hash_read : Layout S → ℕ → List (Object S) → StobjList S → Effect S
  hash_read layout f args l = let key = argument k args 0 in with_key layout key (reads (value_or_nil key (item f l)))

  unfoldable pub hash_bound : Layout S → ℕ → List (Object S) → StobjList S → Effect S
  hash_bound layout f args l = let key = argument k args 0 in with_key layout key (reads (is_bound key (item f l)))

  -- the value, and whether the key is bound
  unfoldable pub hash_looked_up : Layout S → ℕ → List (Object S) → StobjList S → Effect S
  hash_looked_up layout f args l =
      let key = argument k args 0 in with_key layout key (Reads (value_or_nil key (item f l) ∷ is_bound key (item f l) ∷ []))

  unfoldable pub hash_put : Layout S → ℕ → List (Object S) → StobjList S → Effect S
  hash_put layout f args l =
      let key = argument k args 0 in with_key layout key (Writes (with_item f (Pairs ((key, argument k args 1) ∷ pairs_of (item f l))) l))

  unfoldable pub hash_removed : Layout S → ℕ → List (Object S) → StobjList S → Effect S
  hash_removed layout f args l =
      let key = argument k args 0 in with_key layout key (Writes (with_item f (Pairs (without_key k key (pairs_of (item f l)))) l))

  abbrev pub hash_counted : ℕ → StobjList S → Effect S
  hash_counted f l = reads_number (key_count k (pairs_of (item f l)))

  abbrev pub hash_cleared : ℕ → StobjList S → Effect S
  hash_cleared f l = Writes (with_item f (Pairs []) l)
