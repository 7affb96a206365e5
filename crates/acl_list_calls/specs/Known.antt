-- Lists and effects whose symbols are known.
use Rattle.std.specs.Prelude.{◌≡◌, ℕ, List, [], ◌∷◌, Some}
use Rattle.model_objects.specs.Object.{Object}
use Rattle.model_objects.specs.Named.{Knows}
use Rattle.model_lists.specs.Lists.{StobjList, Value, Pairs, End, Item}
use Rattle.model_lists.specs.Layouts.{Layout, Scalar, Array, Hash, Children, NoField, Field}
use Rattle.model_lists.specs.Effects.{Effect, Refuses, Reads, Writes}
use Rattle.model_terms.specs.Worlds as worlds

abbrev pub KnowsAll : ℕ → List (Object ℕ) → Type 0
KnowsAll n [] = Unit {0}
KnowsAll n (o ∷ os) = Knows n o × KnowsAll n os

abbrev pub KnowsPairs : ℕ → List (Object ℕ × Object ℕ) → Type 0
KnowsPairs n [] = Unit {0}
KnowsPairs n (p ∷ ps) = Knows n p.0 × (Knows n p.1 × KnowsPairs n ps)

abbrev pub KnowsList : ℕ → StobjList ℕ → Type 0
KnowsList n (Value o) = Knows n o
KnowsList n (Pairs ps) = KnowsPairs n ps
KnowsList n End = Unit {0}
KnowsList n (Item first rest) = KnowsList n first × KnowsList n rest

abbrev pub KnowsEffect : ℕ → Effect ℕ → Type 0
KnowsEffect n Refuses = Unit {0}
KnowsEffect n (Reads os) = KnowsAll n os
KnowsEffect n (Writes l) = KnowsList n l

-- the initial values of a layout
abbrev pub KnowsLayout : ℕ → Layout ℕ → Type 0
KnowsLayout n (Scalar t o) = Knows n o
KnowsLayout n (Array t o m resizable) = Knows n o
KnowsLayout n (Hash test) = Unit {0}
KnowsLayout n (Children m child) = KnowsLayout n child
KnowsLayout n NoField = Unit {0}
KnowsLayout n (Field first others) = KnowsLayout n first × KnowsLayout n others

-- those of a world
abbrev pub KnowsShape : ℕ → worlds.Shape → Type 0
KnowsShape n (worlds.Scalar written initial) = Knows n initial
KnowsShape n (worlds.Array written initial length resizable) = Knows n initial
KnowsShape n (worlds.Hash test) = Unit {0}
KnowsShape n (worlds.Child stobj) = Unit {0}
KnowsShape n (worlds.Children stobj length) = Unit {0}

abbrev pub KnowsFields : ℕ → List worlds.Field → Type 0
KnowsFields n [] = Unit {0}
KnowsFields n (f ∷ fs) = KnowsShape n f.shape × KnowsFields n fs

pub record KnowsWorld (n : ℕ) (w : worlds.World) : Type 0 where
  pub each : (x : ℕ) (d : worlds.Descriptor) (class : ℕ) → worlds.definition w x ≡ Some (worlds.Concrete d class) → KnowsFields n d.fields
