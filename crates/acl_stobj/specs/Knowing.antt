-- The names in a stobj as it is written are known.
use Rattle.std.specs.Prelude.{ℕ, ◌<◌, List, [], ◌∷◌}
use Rattle.model_objects.specs.Object.{Object}
use Rattle.model_objects.specs.Named.{Knows}
use Rattle.model_stobjs.specs.Descriptors.{WrittenField, WrittenStobj}
use Rattle.acl_stobj.specs.Renames.{AreOld}

abbrev pub AllKnown : ℕ → List (Object ℕ) → Type 0
AllKnown n [] = Unit {0}
AllKnown n (o ∷ os) = Knows n o × AllKnown n os

abbrev pub FieldsKnown : ℕ → List WrittenField → Type 0
FieldsKnown n [] = Unit {0}
FieldsKnown n (f ∷ fs) = (f.name < n) × FieldsKnown n fs

pub record NamesKnown (n : ℕ) (o : WrittenStobj) : Type 0 where
  pub name : Knows n o.name
  pub fields : FieldsKnown n o.fields
  pub renaming : AreOld n o.renaming
