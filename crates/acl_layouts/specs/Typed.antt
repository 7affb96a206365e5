-- Worlds whose fields have accepted types.
use Rattle.std.specs.Prelude.{◌≡◌, ℕ, true, List, [], ◌∷◌, Some, is_some}
use Rattle.model_terms.specs.Worlds.{World, Shape, Scalar, Array, Hash, Child, Children, Field, Descriptor, Concrete, definition}
use Rattle.model_expansion.specs.TypeTerms.{accepted_type}

-- the type of a field is accepted
abbrev pub IsTyped : Shape → Type 0
IsTyped (Scalar written initial) = is_some (accepted_type written) ≡ true
IsTyped (Array written initial length resizable) = is_some (accepted_type written) ≡ true
IsTyped (Hash test) = Unit {0}
IsTyped (Child stobj) = Unit {0}
IsTyped (Children stobj length) = Unit {0}

abbrev pub AreTyped : List Field → Type 0
AreTyped [] = Unit {0}
AreTyped (f ∷ fs) = IsTyped f.shape × AreTyped fs

-- each field of a concrete stobj has such a type
pub record AcceptsTypes (w : World) : Type 0 where
  pub each : (x : ℕ) (d : Descriptor) (class : ℕ) → definition w x ≡ Some (Concrete d class) → AreTyped d.fields
