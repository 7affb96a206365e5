-- What the functions of a stobj write has the fields of the layout.
use Rattle.std.proofs.Common.{◌≡◌, ℕ, List, [], ◌∷◌, Bool, true, false}
use Rattle.std.specs.Prelude.{◌&&◌}
use Rattle.model_objects.specs.Object.{Object}
use Rattle.model_prims.specs.Kinds.{SymbolKind}
use Rattle.model_prims.specs.Numbers.{natural_of}
use Rattle.model_prims.specs.Applied.{argument}
use Rattle.model_lists.specs.Lists.{StobjList, Value, Pairs, size, item, with_item, resized, pairs_of, without_key, scalar_of}
use Rattle.model_lists.specs.Types.{meets}
use Rattle.model_lists.specs.Layouts.{Layout, Scalar, Array, Hash, Children, NoField, Field, field_layout}
use Rattle.model_lists.specs.LiveLists.{HasFields}
use Rattle.model_lists.specs.Effects.{Effect, Reads, is_index, is_up_to, may_be_key, most_elements, reads, when, with_key, accessed, hash_read, hash_bound, hash_looked_up, changed, lengthened, hash_put, hash_removed, hash_cleared}
use Rattle.model_lists_laws.specs.LiveListLaws.{KeepsFields, IsHashField, WritesKeepFields}
use Rattle.model_lists_laws.proofs.StandingLemmas.{field_of_layout, with_field_of_layout, values_with, values_resized}

module _ {S : Type 0} (k : SymbolKind S) where
  when_keeps : (whole : Layout S) (b : Bool) (e : Effect S) → KeepsFields whole e → KeepsFields whole (when k b e)
  when_keeps whole true e h = h
  when_keeps whole false e h = tt

  -- what is read with a key
  read_keeps : (whole layout : Layout S) (key : Object S) (os : List (Object S)) → KeepsFields whole (with_key k layout key (Reads os))
  read_keeps whole (Hash test) key os = when_keeps whole (may_be_key test key) (Reads os) tt
  read_keeps whole (Scalar t o) key os = tt
  read_keeps whole (Array t o n resizable) key os = tt
  read_keeps whole (Children n child) key os = tt
  read_keeps whole NoField key os = tt
  read_keeps whole (Field first others) key os = tt

  -- ---- scalars and arrays

  pub accessed_keeps : (layout : Layout S) (f : ℕ) (args : List (Object S)) (whole : Layout S) (l : StobjList S) → KeepsFields whole (accessed k layout f args l)
  unfolding accessed
  accessed_keeps (Scalar t o) f args whole l = tt
  accessed_keeps (Array t o n resizable) f args whole l =
      when_keeps whole (is_index (argument k args 0) (size (item f l))) (reads k (scalar_of k (item (natural_of (argument k args 0)) (item f l)))) tt
  accessed_keeps (Hash test) f args whole l = tt
  accessed_keeps (Children n child) f args whole l = tt
  accessed_keeps NoField f args whole l = tt
  accessed_keeps (Field first others) f args whole l = tt

  pub changed_keeps : (layout : Layout S) (f : ℕ) (args : List (Object S)) (whole : Layout S) (l : StobjList S) → field_layout f whole ≡ layout → HasFields whole l → KeepsFields whole (changed k layout f args l)
  unfolding changed
  changed_keeps (Scalar t o) f args whole l e h = when_keeps whole (meets k t (argument k args 0)) _ (with_field_of_layout (Scalar t o) f whole (Value (argument k args 0)) l e tt h tt)
  changed_keeps (Array t o n resizable) f args whole l e h =
      when_keeps whole (is_index (argument k args 0) (size (item f l)) && meets k t (argument k args 1)) _
      (with_field_of_layout (Array t o n resizable) f whole (with_item (natural_of (argument k args 0)) (Value (argument k args 1)) (item f l)) l e tt h
      (values_with (natural_of (argument k args 0)) (Value (argument k args 1)) (item f l) tt (field_of_layout (Array t o n resizable) f whole l e tt h)))
  changed_keeps (Hash test) f args whole l e h = tt
  changed_keeps (Children n child) f args whole l e h = tt
  changed_keeps NoField f args whole l e h = tt
  changed_keeps (Field first others) f args whole l e h = tt

  pub lengthened_keeps : (layout : Layout S) (f : ℕ) (args : List (Object S)) (whole : Layout S) (l : StobjList S) → field_layout f whole ≡ layout → HasFields whole l → KeepsFields whole (lengthened k layout f args l)
  unfolding lengthened
  lengthened_keeps (Scalar t o) f args whole l e h = tt
  lengthened_keeps (Array t o n resizable) f args whole l e h =
      when_keeps whole (resizable && is_up_to most_elements (argument k args 0)) _
      (with_field_of_layout (Array t o n resizable) f whole (resized (natural_of (argument k args 0)) (Value o) (item f l)) l e tt h
      (values_resized (natural_of (argument k args 0)) (Value o) (item f l) tt (field_of_layout (Array t o n resizable) f whole l e tt h)))
  lengthened_keeps (Hash test) f args whole l e h = tt
  lengthened_keeps (Children n child) f args whole l e h = tt
  lengthened_keeps NoField f args whole l e h = tt
  lengthened_keeps (Field first others) f args whole l e h = tt

  -- ---- hash fields

  pub hash_read_keeps : (layout : Layout S) (f : ℕ) (args : List (Object S)) (whole : Layout S) (l : StobjList S) → KeepsFields whole (hash_read k layout f args l)
  unfolding hash_read
  hash_read_keeps layout f args whole l = read_keeps whole layout (argument k args 0) _

  pub hash_bound_keeps : (layout : Layout S) (f : ℕ) (args : List (Object S)) (whole : Layout S) (l : StobjList S) → KeepsFields whole (hash_bound k layout f args l)
  unfolding hash_bound
  hash_bound_keeps layout f args whole l = read_keeps whole layout (argument k args 0) _

  pub hash_looked_up_keeps : (layout : Layout S) (f : ℕ) (args : List (Object S)) (whole : Layout S) (l : StobjList S) → KeepsFields whole (hash_looked_up k layout f args l)
  unfolding hash_looked_up
  hash_looked_up_keeps layout f args whole l = read_keeps whole layout (argument k args 0) _

  pub put_keeps : (layout : Layout S) (f : ℕ) (args : List (Object S)) (whole : Layout S) (l : StobjList S) → field_layout f whole ≡ layout → HasFields whole l → KeepsFields whole (hash_put k layout f args l)
  unfolding hash_put
  put_keeps (Scalar t o) f args whole l e h = tt
  put_keeps (Array t o n resizable) f args whole l e h = tt
  put_keeps (Hash test) f args whole l e h =
      when_keeps whole (may_be_key test (argument k args 0)) _
      (with_field_of_layout (Hash test) f whole (Pairs ((argument k args 0, argument k args 1) ∷ pairs_of (item f l))) l e tt h tt)
  put_keeps (Children n child) f args whole l e h = tt
  put_keeps NoField f args whole l e h = tt
  put_keeps (Field first others) f args whole l e h = tt

  pub removed_keeps : (layout : Layout S) (f : ℕ) (args : List (Object S)) (whole : Layout S) (l : StobjList S) → field_layout f whole ≡ layout → HasFields whole l → KeepsFields whole (hash_removed k layout f args l)
  unfolding hash_removed
  removed_keeps (Scalar t o) f args whole l e h = tt
  removed_keeps (Array t o n resizable) f args whole l e h = tt
  removed_keeps (Hash test) f args whole l e h =
      when_keeps whole (may_be_key test (argument k args 0)) _
      (with_field_of_layout (Hash test) f whole (Pairs (without_key k (argument k args 0) (pairs_of (item f l)))) l e tt h tt)
  removed_keeps (Children n child) f args whole l e h = tt
  removed_keeps NoField f args whole l e h = tt
  removed_keeps (Field first others) f args whole l e h = tt

  pub cleared_keeps : (layout : Layout S) (f : ℕ) (whole : Layout S) (l : StobjList S) → field_layout f whole ≡ layout → IsHashField layout → HasFields whole l → KeepsFields whole (hash_cleared k f l)
  cleared_keeps (Scalar t o) f whole l e i h = absurd i
  cleared_keeps (Array t o n resizable) f whole l e i h = absurd i
  cleared_keeps (Hash test) f whole l e i h = with_field_of_layout (Hash test) f whole (Pairs []) l e tt h tt
  cleared_keeps (Children n child) f whole l e i h = absurd i
  cleared_keeps NoField f whole l e i h = absurd i
  cleared_keeps (Field first others) f whole l e i h = absurd i

pub writes_keep_fields : {S : Type 0} (k : SymbolKind S) → WritesKeepFields k
writes_keep_fields k = record {
  accessed = accessed_keeps k;
  changed = changed_keeps k;
  measured = λ f whole l. tt;
  lengthened = lengthened_keeps k;
  hash_read = hash_read_keeps k;
  hash_bound = hash_bound_keeps k;
  hash_looked_up = hash_looked_up_keeps k;
  hash_put = put_keeps k;
  hash_removed = removed_keeps k;
  hash_counted = λ f whole l. tt;
  hash_cleared = cleared_keeps k;
}
