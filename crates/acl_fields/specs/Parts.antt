-- The parts of nodes, as they lie in memory.
use Rattle.std.specs.Prelude.{◌≡◌, ℕ, ◌<◌, List, [], ◌∷◌, map, length, slice_get, pos, Option, Some, None}
use Rattle.acl_base.specs.declared.layout.Kind.TheVariants.{Byte, I32, I64}
use Rattle.acl_nodes.specs.Nodes.{Part, Own, Child, Children}
use Rattle.acl_fields.specs.Fields.{Field, One, Many, Any, Anys, Table}
use Rattle.acl_fields.specs.declared.slot.Slot.{Slot}
use Rattle.acl_fields.specs.declared.slot.Slot.TheVariants as slots

-- a field
abbrev pub part_of : Slot → Part Field
part_of (slots.Scalar v) = Own (One v)
part_of (slots.Bytes a) = Own (Many Byte (pos a.initial) (map pos a.elements))
part_of (slots.Ints a) = Own (Many I32 a.initial a.elements)
part_of (slots.Longs a) = Own (Many I64 a.initial a.elements)
part_of (slots.General o) = Own (Any o)
part_of (slots.Generals a) = Own (Anys a.initial a.elements.items)
part_of (slots.Table m) = Own (Table m)
part_of (slots.Child c) = Child c
part_of (slots.Children cs) = Children cs.items

-- ---- children

abbrev pub HasChild : {O : Type 0} → Part O → ℕ → Type 0
HasChild (Own o) i = ⊥
HasChild (Child c) i = i ≡ 0
HasChild (Children cs) i = i < length cs

-- the number of a child's node
abbrev pub child_of : {O : Type 0} → Part O → ℕ → Option ℕ
child_of (Own o) i = None
child_of (Child c) i = Some c
child_of (Children cs) i = slice_get cs i

-- the path from an object to a value or a child in one of its fields
abbrev pub path_in : Part Field → ℕ → ℕ → List ℕ
path_in (Own (One v)) f i = f ∷ []
path_in (Own (Many kind initial vs)) f i = f ∷ i ∷ []
path_in (Own (Any o)) f i = f ∷ []
path_in (Own (Anys initial os)) f i = f ∷ i ∷ []
path_in (Own (Table cs)) f i = f ∷ []
path_in (Child c) f i = f ∷ []
path_in (Children cs) f i = f ∷ i ∷ []
