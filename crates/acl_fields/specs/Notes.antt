-- What is noted of a field, and how it is put back.
use Rattle.std.specs.Prelude.{◌≡◌, ℕ, List, [], ◌∷◌, pos, Option, Some, None, IsSomeAnd, IfSome}
use Rattle.acl_heap.specs.Objects.{nothing}
use Rattle.model_objects.specs.Object.{Object}
use Rattle.model_lists.specs.Lists.{StobjList}
use Rattle.acl_nodes.specs.Nodes.{Part, Own, Child, Children, IsOwn}
use Rattle.acl_maps.specs.Cells.{Cells, with_cell, IsSuited}
use Rattle.acl_fields.specs.Fields.{Field, One, Many, Any, Anys, Table, IsTable, table_in, shown, integer, plain, IsElement, IsKept, IsHeld, IsSized, with_element, with_held, value_in}
use Rattle.acl_fields.specs.Parts.{part_of, path_in}
use Rattle.acl_fields.specs.declared.notes.OldPart.{OldPart}
use Rattle.acl_fields.specs.declared.notes.OldPart.TheVariants.{Element, Held, Entry, Whole}

-- the field with another cell for a key, where it is a hash field
abbrev pub retabled : Option Cells → Object ℕ × Option (Object ℕ) → Part Field → Part Field
retabled None h p = p
retabled (Some cs) h p = Own (Table (with_cell h.0 h.1 cs))

-- the field once the note is put back
abbrev pub back : OldPart → Part Field → Part Field
back (Element i v) p = with_element p i v
back (Held i o) p = with_held p i o
back (Entry h) p = retabled (table_in p) h p
back (Whole s) p = part_of s

abbrev pub path_noted : OldPart → ℕ → List ℕ
path_noted (Element i v) f = f ∷ i ∷ []
path_noted (Held i o) f = f ∷ i ∷ []
path_noted (Entry h) f = f ∷ []
path_noted (Whole s) f = f ∷ []

-- a field of a node's own shows the list
abbrev pub ShowsOwn : Part Field → StobjList ℕ → Type 0
ShowsOwn (Own o) l = shown o l
ShowsOwn (Child c) l = ⊥
ShowsOwn (Children cs) l = ⊥

-- the list is what stands at the place of the note, once it is put back into the field
abbrev pub Restored : OldPart → Part Field → StobjList ℕ → Type 0
Restored (Element i v) p l = l ≡ integer v
Restored (Held i o) p l = l ≡ plain o
Restored (Entry h) p l = IfSome (table_in p) (λ cs. IsTable (with_cell h.0 h.1 cs) l)
Restored (Whole s) p l = ShowsOwn (part_of s) l

-- a field without its values
abbrev pub bare : Part Field → Part Field
bare (Own (One v)) = Own (One (pos 0))
bare (Own (Many kind x vs)) = Own (Many kind x [])
bare (Own (Any o)) = Own (Any nothing)
bare (Own (Anys x os)) = Own (Anys x [])
bare (Own (Table cs)) = Own (Table [])
bare (Child c) = Child c
bare (Children cs) = Children cs

-- it may be put back into the field
abbrev pub SuitsPart : OldPart → Part Field → Type 0
SuitsPart (Element i v) p = IsSized p × IsElement p i × IsKept p v
SuitsPart (Held i o) p = IsSized p × IsHeld p i
SuitsPart (Entry h) p = IsSomeAnd (table_in p) (λ cs. IsSuited h cs)
SuitsPart (Whole s) p = IsOwn p × IsOwn (part_of s) × (bare (part_of s) ≡ bare p)

-- it is a note of what is at this index, as it is
pub record IsNote (q : OldPart) (p : Part Field) (i : ℕ) : Type 0 where
  pub suits : SuitsPart q p
  pub same : back q p ≡ p
  pub path : (f : ℕ) → path_noted q f ≡ path_in p f i
  pub shows : Restored q p (value_in p i)

-- it is a note of the whole field, as it is
abbrev pub IsWhole : OldPart → Part Field → Type 0
IsWhole (Element i v) p = ⊥
IsWhole (Held i o) p = ⊥
IsWhole (Entry h) p = ⊥
IsWhole (Whole s) p = part_of s ≡ p
