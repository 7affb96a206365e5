-- The list of a stobj, with the fields that it has: what a single-threaded object stands for (ACL2's manual, topic STOBJ).
use Rattle.std.specs.Prelude.{ℕ, zero, suc, ◌+◌, List, [], ◌∷◌, map, Bool, Option, Some, None, if◌then◌else◌}
use Rattle.std.specs.Option.{is_some}
use Rattle.model_objects.specs.Object.{Object, Pair, list_onto}
use Rattle.model_prims.specs.Kinds.{SymbolKind, nil_of, same_object}

-- the fields of a stobj, the elements of an array, or the children in one, are items before an end
pub data StobjList (S : Type 0) : Type 0 where
  Value : Object S → StobjList S  -- a scalar field, or an element
  Pairs : List (Object S × Object S) → StobjList S  -- a hash field: keys with their values, the newest pair first
  End : StobjList S
  Item : StobjList S → StobjList S → StobjList S

-- ---- items

abbrev pub size : {S : Type 0} → StobjList S → ℕ
size (Value o) = 0
size (Pairs ps) = 0
size End = 0
size (Item first rest) = size rest + 1

-- the item of this number
abbrev pub item : {S : Type 0} → ℕ → StobjList S → StobjList S
item n (Value o) = End
item n (Pairs ps) = End
item n End = End
item zero (Item first rest) = first
item (suc n) (Item first rest) = item n rest

-- the list with another item of this number, where it has one
abbrev pub with_item : {S : Type 0} → ℕ → StobjList S → StobjList S → StobjList S
with_item n new (Value o) = Value o
with_item n new (Pairs ps) = Pairs ps
with_item n new End = End
with_item zero new (Item first rest) = Item new rest
with_item (suc n) new (Item first rest) = Item first (with_item n new rest)

abbrev pub first_of : {S : Type 0} → StobjList S → StobjList S → StobjList S
first_of fill (Value o) = fill
first_of fill (Pairs ps) = fill
first_of fill End = fill
first_of fill (Item first rest) = first

abbrev pub rest_of : {S : Type 0} → StobjList S → StobjList S
rest_of (Value o) = End
rest_of (Pairs ps) = End
rest_of End = End
rest_of (Item first rest) = rest

-- the list cut to n items, or lengthened to them
abbrev pub resized : {S : Type 0} → ℕ → StobjList S → StobjList S → StobjList S
resized zero fill l = End
resized (suc n) fill l = Item (first_of fill l) (resized n fill (rest_of l))

-- ---- pairs of a hash field

abbrev pub pairs_of : {S : Type 0} → StobjList S → List (Object S × Object S)
pairs_of (Value o) = []
pairs_of (Pairs ps) = ps
pairs_of End = []
pairs_of (Item first rest) = []

module _ {S : Type 0} (k : SymbolKind S) where
  -- the value in the first pair with the key
  abbrev pub value_at : Object S → List (Object S × Object S) → Option (Object S)
  value_at key [] = None
  value_at key (p ∷ ps) = if same_object k key p.0 then Some p.1 else value_at key ps

  abbrev pub has_key : Object S → List (Object S × Object S) → Bool
  has_key key ps = is_some (value_at key ps)

  -- the pairs without those that have the key
  abbrev pub without_key : Object S → List (Object S × Object S) → List (Object S × Object S)
  without_key key [] = []
  without_key key (p ∷ ps) = if same_object k key p.0 then without_key key ps else p ∷ without_key key ps

  -- how many different keys there are
  abbrev pub key_count : List (Object S × Object S) → ℕ
  key_count [] = 0
  key_count (p ∷ ps) = if has_key p.0 ps then key_count ps else key_count ps + 1

  -- ---- scalars

  -- the value of a scalar field or of an element
  abbrev pub scalar_of : StobjList S → Object S
  scalar_of (Value o) = o
  scalar_of (Pairs ps) = nil_of k
  scalar_of End = nil_of k
  scalar_of (Item first rest) = nil_of k

  -- ---- the list as an ordinary object

  abbrev pub as_object : StobjList S → Object S
  as_object (Value o) = o
  as_object (Pairs ps) = list_onto (map (λ p. Pair p.0 p.1) ps) (nil_of k)
  as_object End = nil_of k
  as_object (Item first rest) = Pair (as_object first) (as_object rest)
