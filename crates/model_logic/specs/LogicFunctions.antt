-- The functions of a concrete object in the logic, called on any objects (ACL2's manual, topic DEFSTOBJ).
use Rattle.std.specs.Prelude.{ℕ, List, [], ◌∷◌, Option, Some, None, unwrap_or}
use Rattle.model_objects.specs.Object.{Object, list_onto}
use Rattle.model_prims.specs.Kinds.{SymbolKind, nil_of, truth_of}
use Rattle.model_prims.specs.Applied.{argument}
use Rattle.model_lists.specs.Lists.{as_object}
use Rattle.model_lists.specs.Layouts.{Layout, Scalar, Array, Hash, Children, NoField, Field, initial, field_layout, recognizes, field_recognizes}
use Rattle.model_lists.specs.Logical.{field_of, with_field, array_length, array_resized, array_element, with_element, hash_value, hash_bound, with_hash_value, without_hash_key, hash_count, hash_cleared}
use Rattle.model_terms.specs.Worlds.{GeneratedFunction}
use Rattle.model_terms.specs.declared.role.Role.{Role}
use Rattle.model_terms.specs.declared.role.Role.TheVariants as role

module _ {S : Type 0} (k : SymbolKind S) where
  -- several values as one
  abbrev pub as_list : List (Object S) → Object S
  as_list os = list_onto os (nil_of k)

  -- a field, or the element of an array, of children too
  unfoldable pub logic_access : Layout S → ℕ → List (Object S) → Object S
  logic_access (Scalar t o) f args = field_of k f (argument k args 0)
  logic_access (Array t o n resizable) f args = array_element k f (argument k args 0) (argument k args 1)
  logic_access (Hash test) f args = field_of k f (argument k args 0)
  logic_access (Children n child) f args = array_element k f (argument k args 0) (argument k args 1)
  logic_access NoField f args = field_of k f (argument k args 0)
  logic_access (Field first others) f args = field_of k f (argument k args 0)

  unfoldable pub logic_update : Layout S → ℕ → List (Object S) → Object S
  logic_update (Scalar t o) f args = with_field k f (argument k args 0) (argument k args 1)
  logic_update (Array t o n resizable) f args = with_element k f (argument k args 0) (argument k args 1) (argument k args 2)
  logic_update (Hash test) f args = with_field k f (argument k args 0) (argument k args 1)
  logic_update (Children n child) f args = with_element k f (argument k args 0) (argument k args 1) (argument k args 2)
  logic_update NoField f args = with_field k f (argument k args 0) (argument k args 1)
  logic_update (Field first others) f args = with_field k f (argument k args 0) (argument k args 1)

  -- the element that an array is lengthened with; of children, a new child
  abbrev pub filling : Layout S → Object S
  filling (Scalar t o) = o
  filling (Array t o n resizable) = o
  filling (Hash test) = nil_of k
  filling (Children n child) = as_object k (initial child)
  filling NoField = nil_of k
  filling (Field first others) = nil_of k

  -- the value of a function; the layout is that of the stobj, and the field's number is 0 where there is none
  unfoldable pub logic_effect : Role → Layout S → ℕ → List (Object S) → Object S
  logic_effect role.Recognizer layout f args = truth_of k (recognizes k layout (argument k args 0))
  logic_effect role.Creator layout f args = as_object k (initial layout)
  logic_effect role.FieldRecognizer layout f args = truth_of k (field_recognizes k (field_layout f layout) (argument k args 0))
  logic_effect role.Access layout f args = logic_access (field_layout f layout) f args
  logic_effect role.Update layout f args = logic_update (field_layout f layout) f args
  logic_effect role.Length layout f args = array_length k f (argument k args 0)
  logic_effect role.Resize layout f args = array_resized k f (filling (field_layout f layout)) (argument k args 0) (argument k args 1)
  logic_effect role.HashGet layout f args = hash_value k f (argument k args 0) (argument k args 1)
  logic_effect role.HashBoundp layout f args = hash_bound k f (argument k args 0) (argument k args 1)
  logic_effect role.HashGetBound layout f args =
      as_list (hash_value k f (argument k args 0) (argument k args 1) ∷ hash_bound k f (argument k args 0) (argument k args 1) ∷ [])
  logic_effect role.HashPut layout f args = with_hash_value k f (argument k args 0) (argument k args 1) (argument k args 2)
  logic_effect role.HashRem layout f args = without_hash_key k f (argument k args 0) (argument k args 1)
  logic_effect role.HashCount layout f args = hash_count k f (argument k args 0)
  logic_effect role.HashClear layout f args = hash_cleared k f (argument k args 0)

  abbrev pub logic_generated : GeneratedFunction → Layout S → List (Object S) → Object S
  logic_generated g layout args = logic_effect g.role layout (unwrap_or g.field 0) args

  -- a child as an ordinary object: of a field, or with an index of an array
  abbrev pub child_stobj : ℕ → Option (Object S) → Object S → Object S
  child_stobj f None parent = field_of k f parent
  child_stobj f (Some i) parent = array_element k f i parent

  abbrev pub with_child_stobj : ℕ → Option (Object S) → Object S → Object S → Object S
  with_child_stobj f None child parent = with_field k f child parent
  with_child_stobj f (Some i) child parent = with_element k f i child parent
