-- What a live stobj stands for, and the lists that a stobj of a layout may have (ACL2's manual, topic STOBJ).
use Rattle.std.specs.Prelude.{◌≡◌, List, [], ◌∷◌}
use Rattle.model_objects.specs.Object.{Object}
use Rattle.model_objects.specs.Named.{Symbols}
use Rattle.std.specs.declared.cmp.Ordering.{Ordering}
use Rattle.model_lists.specs.Lists.{StobjList, Value, Pairs, End, Item}
use Rattle.model_lists.specs.Layouts.{Layout, Scalar, Array, Hash, Children, NoField, Field}
use Rattle.model_lists.specs.Normal.{normal}

-- an array's elements or children, each as this says
abbrev pub AllItems : {S : Type 0} → (StobjList S → Type 0) → StobjList S → Type 0
AllItems Is (Value o) = ⊥
AllItems Is (Pairs ps) = ⊥
AllItems Is End = Unit {0}
AllItems Is (Item first rest) = Is first × AllItems Is rest

abbrev pub IsValue : {S : Type 0} → StobjList S → Type 0
IsValue (Value o) = Unit {0}
IsValue (Pairs ps) = ⊥
IsValue End = ⊥
IsValue (Item first rest) = ⊥

abbrev pub IsPairs : {S : Type 0} → StobjList S → Type 0
IsPairs (Value o) = ⊥
IsPairs (Pairs ps) = Unit {0}
IsPairs End = ⊥
IsPairs (Item first rest) = ⊥

abbrev pub IsEnd : {S : Type 0} → StobjList S → Type 0
IsEnd (Value o) = ⊥
IsEnd (Pairs ps) = ⊥
IsEnd End = Unit {0}
IsEnd (Item first rest) = ⊥

-- a first item and the items behind it
abbrev pub IsSplit : {S : Type 0} → (StobjList S → Type 0) → (StobjList S → Type 0) → StobjList S → Type 0
IsSplit First Rest (Value o) = ⊥
IsSplit First Rest (Pairs ps) = ⊥
IsSplit First Rest End = ⊥
IsSplit First Rest (Item first rest) = First first × Rest rest

-- the list has the fields of the layout, whatever their values are
abbrev pub HasFields : {S : Type 0} → Layout S → StobjList S → Type 0
HasFields (Scalar t o) = IsValue
HasFields (Array t o n resizable) = AllItems IsValue
HasFields (Hash test) = IsPairs
HasFields (Children n child) = AllItems (HasFields child)
HasFields NoField = IsEnd
HasFields (Field first others) = IsSplit (HasFields first) (HasFields others)

-- in checked evaluation and in what is kept between commands, `names` is `nat_cmp`, and the normal list the canonical one
module _ {S : Type 0} (names : S → S → Ordering) where
  -- a live stobj with these scalars, elements, children and pairs, each key once and in the order of keys, stands for the list
  abbrev pub StandsFor : StobjList S → StobjList S → Type 0
  StandsFor live l = live ≡ normal names l

  -- what stands for the one stands for the other
  abbrev pub AreAlike : StobjList S → StobjList S → Type 0
  AreAlike l m = normal names l ≡ normal names m

-- ---- symbols

-- each symbol in the pairs, or in the list, has the property
abbrev pub PairSymbols : {S : Type 0} → (S → Type 0) → List (Object S × Object S) → Type 0
PairSymbols P [] = Unit {0}
PairSymbols P (p ∷ ps) = Symbols P p.0 × Symbols P p.1 × PairSymbols P ps

abbrev pub ListSymbols : {S : Type 0} → (S → Type 0) → StobjList S → Type 0
ListSymbols P (Value o) = Symbols P o
ListSymbols P (Pairs ps) = PairSymbols P ps
ListSymbols P End = Unit {0}
ListSymbols P (Item first rest) = ListSymbols P first × ListSymbols P rest
