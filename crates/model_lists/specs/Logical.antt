-- The functions of an object in the logic: on any objects in place of lists, without a guard (ACL2's manual, topic DEFSTOBJ).
use Rattle.std.specs.Prelude.{ℕ, zero, suc, ◌+◌, Bool, ◌&&◌, pos, if◌then◌else◌}
use Rattle.model_objects.specs.Object.{Object, Integer, Symbol, Text, Pair}
use Rattle.model_prims.specs.Kinds.{SymbolKind, nil_of, truth_of, is_pair, same_object}
use Rattle.model_prims.specs.Numbers.{natural_of}
use Rattle.model_prims.specs.Lists.{car, cdr, len, element, updated}

module _ {S : Type 0} (k : SymbolKind S) where
  -- ---- arrays

  -- the first n elements, and more that are `fill` where there are fewer
  abbrev pub with_length : ℕ → Object S → Object S → Object S
  with_length zero fill l = nil_of k
  with_length (suc n) fill (Integer m) = Pair fill (with_length n fill (nil_of k))
  with_length (suc n) fill (Symbol s) = Pair fill (with_length n fill (nil_of k))
  with_length (suc n) fill (Text bytes) = Pair fill (with_length n fill (nil_of k))
  with_length (suc n) fill (Pair a d) = Pair a (with_length n fill d)

  -- ---- hash fields: association lists, in which only pairs count

  abbrev pub has_this_key : Object S → Object S → Bool
  has_this_key key o = is_pair o && same_object k key (car k o)

  -- the first pair with the key, else `NIL`
  abbrev pub pair_with : Object S → Object S → Object S
  pair_with key (Integer n) = nil_of k
  pair_with key (Symbol s) = nil_of k
  pair_with key (Text bytes) = nil_of k
  pair_with key (Pair a d) = if has_this_key key a then a else pair_with key d

  -- a true list of the other elements
  abbrev pub without_pairs : Object S → Object S → Object S
  without_pairs key (Integer n) = nil_of k
  without_pairs key (Symbol s) = nil_of k
  without_pairs key (Text bytes) = nil_of k
  without_pairs key (Pair a d) = if has_this_key key a then without_pairs key d else Pair a (without_pairs key d)

  -- how many different keys there are
  abbrev pub keys_in : Object S → ℕ
  keys_in (Integer n) = 0
  keys_in (Symbol s) = 0
  keys_in (Text bytes) = 0
  keys_in (Pair a d) = if is_pair a then (if is_pair (pair_with (car k a) d) then keys_in d else keys_in d + 1) else keys_in d

  -- ---- fields of a stobj

  abbrev pub field_of : ℕ → Object S → Object S
  field_of f st = element k f st

  abbrev pub with_field : ℕ → Object S → Object S → Object S
  with_field f new st = updated k f new st

  abbrev pub array_length : ℕ → Object S → Object S
  array_length f st = Integer (pos (len (field_of f st)))

  abbrev pub array_resized : ℕ → Object S → Object S → Object S → Object S
  array_resized f fill n st = with_field f (with_length (natural_of n) fill (field_of f st)) st

  abbrev pub array_element : ℕ → Object S → Object S → Object S
  array_element f i st = element k (natural_of i) (field_of f st)

  abbrev pub with_element : ℕ → Object S → Object S → Object S → Object S
  with_element f i new st = with_field f (updated k (natural_of i) new (field_of f st)) st

  abbrev pub hash_value : ℕ → Object S → Object S → Object S
  hash_value f key st = cdr k (pair_with key (field_of f st))

  abbrev pub hash_bound : ℕ → Object S → Object S → Object S
  hash_bound f key st = truth_of k (is_pair (pair_with key (field_of f st)))

  abbrev pub with_hash_value : ℕ → Object S → Object S → Object S → Object S
  with_hash_value f key value st = with_field f (Pair (Pair key value) (field_of f st)) st

  abbrev pub without_hash_key : ℕ → Object S → Object S → Object S
  without_hash_key f key st = with_field f (without_pairs key (field_of f st)) st

  abbrev pub hash_count : ℕ → Object S → Object S
  hash_count f st = Integer (pos (keys_in (field_of f st)))

  abbrev pub hash_cleared : ℕ → Object S → Object S
  hash_cleared f st = with_field f (nil_of k) st
