-- The symbols in what stobjs hold, in what they begin as, and in what is read and written: each has a number below n.
use Rattle.std.specs.Prelude.{◌≡◌, ℕ, List, [], ◌∷◌, Some}
use Rattle.model_objects.specs.Object.{Object}
use Rattle.model_objects.specs.Named.{Knows}
use Rattle.model_lists.specs.Lists.{StobjList, Value, Pairs, End, Item}
use Rattle.model_lists.specs.Layouts.{Layout, Scalar, Array, Hash, Children, NoField, Field}
use Rattle.model_lists.specs.Effects.{Effect, Refuses, Reads, Writes}
use Rattle.model_terms.specs.Worlds as worlds
use Rattle.model_terms.specs.Accessors.{descriptor_in}
use Rattle.model_eval.specs.Outcomes.{Stobjs}

abbrev pub KnowsAll : ℕ → List (Object ℕ) → Type 0
KnowsAll n [] = Unit {0}
KnowsAll n (o ∷ os) = Knows n o × KnowsAll n os

abbrev pub KnowsPairs : ℕ → List (Object ℕ × Object ℕ) → Type 0
KnowsPairs n [] = Unit {0}
KnowsPairs n (p ∷ ps) = (Knows n p.0 × Knows n p.1) × KnowsPairs n ps

-- those of a list
abbrev pub KnowsList : ℕ → StobjList ℕ → Type 0
KnowsList n (Value o) = Knows n o
KnowsList n (Pairs ps) = KnowsPairs n ps
KnowsList n End = Unit {0}
KnowsList n (Item first rest) = KnowsList n first × KnowsList n rest

-- those of the stobjs in scope, and of those that calls have left behind
abbrev pub KnowsStobjs : ℕ → Stobjs ℕ → Type 0
KnowsStobjs n [] = Unit {0}
KnowsStobjs n (o ∷ os) = KnowsList n o.1 × KnowsStobjs n os

abbrev pub KnowsLeft : ℕ → List (Stobjs ℕ) → Type 0
KnowsLeft n [] = Unit {0}
KnowsLeft n (k ∷ ks) = KnowsStobjs n k × KnowsLeft n ks

-- those of what is read, or of the list that is written
abbrev pub KnowsEffect : ℕ → Effect ℕ → Type 0
KnowsEffect n Refuses = Unit {0}
KnowsEffect n (Reads os) = KnowsAll n os
KnowsEffect n (Writes l) = KnowsList n l

-- ---- initial values

abbrev pub KnowsLayout : ℕ → Layout ℕ → Type 0
KnowsLayout n (Scalar t o) = Knows n o
KnowsLayout n (Array t o m resizable) = Knows n o
KnowsLayout n (Hash test) = Unit {0}
KnowsLayout n (Children m child) = KnowsLayout n child
KnowsLayout n NoField = Unit {0}
KnowsLayout n (Field first others) = KnowsLayout n first × KnowsLayout n others

abbrev pub KnowsShape : ℕ → worlds.Shape → Type 0
KnowsShape n (worlds.Scalar written initial) = Knows n initial
KnowsShape n (worlds.Array written initial len resizable) = Knows n initial
KnowsShape n (worlds.Hash test) = Unit {0}
KnowsShape n (worlds.Child stobj) = Unit {0}
KnowsShape n (worlds.Children stobj len) = Unit {0}

abbrev pub KnowsFields : ℕ → List worlds.Field → Type 0
KnowsFields n [] = Unit {0}
KnowsFields n (f ∷ fs) = KnowsShape n f.shape × KnowsFields n fs

-- those of what the fields of each concrete stobj of a world begin as
pub record KnowsStarts (n : ℕ) (w : worlds.World) : Type 0 where
  pub each : (x : ℕ) (e : worlds.Definition) (d : worlds.Descriptor) → Some e ≡ worlds.definition w x → Some d ≡ descriptor_in e → KnowsFields n d.fields
