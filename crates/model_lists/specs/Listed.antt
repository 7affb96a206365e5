-- The shape of a list that is shown: in the printed object a pair of a hash field and a list of two look alike, and here they
-- do not (ACL2's manual, topic STOBJ).
use Rattle.std.specs.Prelude.{List, [], ◌∷◌, map}
use Rattle.model_objects.specs.Object.{Object, Pair}
use Rattle.model_prims.specs.Kinds.{SymbolKind, nil_of}
use Rattle.model_lists.specs.Lists.{StobjList, Value, Pairs, End, Item}

-- a list is its parts before an end; an empty hash field and an empty array are both no part and an end
pub data Listed (S : Type 0) : Type 0 where
  OneValue : Object S → Listed S  -- an ordinary value
  OnePair : Object S → Object S → Listed S  -- a key of a hash field, and its value
  NoMore : Listed S
  More : Listed S → Listed S → Listed S

-- a list of these
abbrev pub list_of_parts : {S : Type 0} → List (Listed S) → Listed S
list_of_parts [] = NoMore
list_of_parts (part ∷ parts) = More part (list_of_parts parts)

abbrev pub pair_part : {S : Type 0} → Object S × Object S → Listed S
pair_part p = OnePair p.0 p.1

abbrev pub listed : {S : Type 0} → StobjList S → Listed S
listed (Value o) = OneValue o
listed (Pairs ps) = list_of_parts (map pair_part ps)
listed End = NoMore
listed (Item first rest) = More (listed first) (listed rest)

-- the object that is printed
abbrev pub printed : {S : Type 0} → SymbolKind S → Listed S → Object S
printed k (OneValue o) = o
printed k (OnePair key value) = Pair key value
printed k NoMore = nil_of k
printed k (More part parts) = Pair (printed k part) (printed k parts)
