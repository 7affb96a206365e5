-- Objects that nest in each other: 64 are accepted, and no more.
use Rattle.std.specs.Prelude.{◌≡◌, ℕ, zero, suc, ◌+◌, List, [], ◌∷◌, false, Option, Some, None}
use Rattle.model_objects.specs.Object.{Symbol}
use Rattle.model_terms.specs.Worlds.{World, Field, Child, Concrete}
use Rattle.model_expansion.specs.Faults.{BadType}
use Rattle.model_stobjs.specs.Descriptors.{WrittenField, shape_of, bad_type}

-- a number of a symbol that no type is written with
abbrev pub first_stobj : ℕ
first_stobj = 1000

abbrev pub child_field : Option ℕ → List Field
child_field None = []
child_field (Some stobj) = record { name = 999; shape = Child stobj; made = [] } ∷ []

abbrev pub below : ℕ → Option ℕ
below zero = None
below (suc n) = Some (first_stobj + n)

-- so many stobjs, each but the first with the one before it as its child
unfoldable pub ladder : ℕ → World
ladder zero = []
ladder (suc n) = Concrete (record { name = first_stobj + n; recognizer = 999; creator = 999; fields = child_field (below n); congruent_to = None }) n ∷ ladder n

-- a field whose type is this stobj
abbrev pub field_with : ℕ → WrittenField
field_with stobj = record { name = 998; type = Symbol stobj; initial = None; resizable = false }

-- a stobj whose child nests 63 stobjs nests 64; one whose child nests 64 is refused
pub record NestingIsLimited : Type 0 where
  pub accepted : shape_of (ladder 63) (field_with (first_stobj + 62)) ≡ Some (Child (first_stobj + 62))
  pub refused : bad_type (ladder 64) (field_with (first_stobj + 63)) ≡ Some (BadType 998)
