-- Fields with the names of their functions.
use Rattle.std.specs.Prelude.{◌≡◌, ℕ, List, [], ◌∷◌, length, map}
use Rattle.std.specs.List.{flat_map}
use Rattle.model_stobjs.specs.Descriptors as written
use Rattle.model_stobjs.specs.Descriptors.{made_count}
use Rattle.acl_heap.specs.Objects.{Objects}
use Rattle.acl_terms.specs.Forms.{numbers, most}
use Rattle.acl_terms.specs.Definitions.{seen_shape, shape_reach}
use Rattle.acl_terms.specs.declared.stobj.FieldDescriptor.{FieldDescriptor}

abbrev pub made_reach : List FieldDescriptor → ℕ
made_reach fs = most (map (λ (f : FieldDescriptor). shape_reach f.shape) fs)

-- a field without the names of its functions
abbrev pub unnamed : Objects → FieldDescriptor → written.ShapedField
unnamed h f = (f.name.0, seen_shape h f.shape)

-- the names of all functions of fields
abbrev pub names_in : List FieldDescriptor → List ℕ
names_in fs = flat_map (λ (f : FieldDescriptor). numbers f.made) fs

-- each field has as many names as its shape takes
abbrev pub AreCounted : Objects → List FieldDescriptor → Type 0
AreCounted h [] = Unit {0}
AreCounted h (f ∷ fs) = (length (numbers f.made) ≡ made_count (seen_shape h f.shape)) × AreCounted h fs
