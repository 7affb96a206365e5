-- What a stobj's list looks like: its fields, with their types and initial values, and those of its children (ACL2's manual,
-- topic DEFSTOBJ).
use Rattle.std.specs.Prelude.{ℕ, zero, suc, [], Bool, true, false, ◌&&◌, ◌||◌, nat_eq}
use Rattle.acl_base.specs.declared.layout.Test.{Test}
use Rattle.model_objects.specs.Object.{Object, Integer, Symbol, Text, Pair}
use Rattle.model_prims.specs.Kinds.{SymbolKind, is_nil, is_pair}
use Rattle.model_prims.specs.Lists.{len, car, cdr}
use Rattle.model_lists.specs.Lists.{StobjList, Value, Pairs, End, Item}
use Rattle.model_lists.specs.Types.{ValueType, meets}

-- a field, or a stobj, which is fields before an end
pub data Layout (S : Type 0) : Type 0 where
  Scalar : ValueType S → Object S → Layout S  -- its type and its initial value
  Array : ValueType S → Object S → ℕ → Bool → Layout S  -- of how many elements at first, and whether it is resizable
  Hash : Test → Layout S
  Children : ℕ → Layout S → Layout S  -- an array of so many children
  NoField : Layout S
  Field : Layout S → Layout S → Layout S

abbrev pub repeated : {S : Type 0} → ℕ → StobjList S → StobjList S
repeated zero x = End
repeated (suc n) x = Item x (repeated n x)

-- the list of a new stobj
abbrev pub initial : {S : Type 0} → Layout S → StobjList S
initial (Scalar t o) = Value o
initial (Array t o n resizable) = repeated n (Value o)
initial (Hash test) = Pairs []
initial (Children n child) = repeated n (initial child)
initial NoField = End
initial (Field first others) = Item (initial first) (initial others)

-- the layout of the field of this number
abbrev pub field_layout : {S : Type 0} → ℕ → Layout S → Layout S
field_layout n (Scalar t o) = NoField
field_layout n (Array t o m resizable) = NoField
field_layout n (Hash test) = NoField
field_layout n (Children m child) = NoField
field_layout n NoField = NoField
field_layout zero (Field first others) = first
field_layout (suc n) (Field first others) = field_layout n others

module _ {S : Type 0} (k : SymbolKind S) where
  -- a true list, each element of which passes
  abbrev pub every : (Object S → Bool) → Object S → Bool
  every passes (Integer n) = false
  every passes (Symbol s) = k.same s k.nil
  every passes (Text bytes) = false
  every passes (Pair a d) = passes a && every passes d

  -- whether an ordinary object is as the layout says, in the logic; an array that is not resizable has its length
  abbrev pub recognizes : Layout S → Object S → Bool
  recognizes (Scalar t o) x = meets k t x
  recognizes (Array t o n resizable) x = every (meets k t) x && (resizable || nat_eq (len x) n)
  recognizes (Hash test) x = true
  recognizes (Children n child) x = every (recognizes child) x && nat_eq (len x) n
  recognizes NoField x = is_nil k x
  recognizes (Field first others) x = is_pair x && (recognizes first (car k x) && recognizes others (cdr k x))

  -- the recognizer of a field, which tests no length of the field itself
  abbrev pub field_recognizes : Layout S → Object S → Bool
  field_recognizes (Scalar t o) x = meets k t x
  field_recognizes (Array t o n resizable) x = every (meets k t) x
  field_recognizes (Hash test) x = true
  field_recognizes (Children n child) x = every (recognizes child) x
  field_recognizes NoField x = recognizes NoField x
  field_recognizes (Field first others) x = recognizes (Field first others) x
