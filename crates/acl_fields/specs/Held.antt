-- How many cells fields, notes and nodes hold.
use Rattle.std.specs.Prelude.{ℕ, ◌+◌, List}
use Rattle.std.specs.List.{sum_by}
use Rattle.model_objects.specs.Object.{cells}
use Rattle.acl_nodes.specs.Nodes.{Part, Own, Child, Children, Node}
use Rattle.acl_maps.specs.Held.{cells_held, place_cells}
use Rattle.acl_fields.specs.Fields.{Field, One, Many, Any, Anys, Table}
use Rattle.acl_fields.specs.Parts.{part_of}
use Rattle.acl_fields.specs.declared.change.Change.{Change}
use Rattle.acl_fields.specs.declared.change.Change.TheVariants.{Put, Empty, Clear}
use Rattle.acl_fields.specs.declared.notes.OldPart.{OldPart}
use Rattle.acl_fields.specs.declared.notes.OldPart.TheVariants as noted

-- those of the objects that a field owns
abbrev pub part_cells : Part Field → ℕ
part_cells (Own (One v)) = 0
part_cells (Own (Many kind initial vs)) = 0
part_cells (Own (Any o)) = cells o
part_cells (Own (Anys initial os)) = sum_by cells os
part_cells (Own (Table cs)) = cells_held cs
part_cells (Child c) = 0
part_cells (Children cs) = 0

abbrev pub parts_cells : List (Part Field) → ℕ
parts_cells ps = sum_by part_cells ps

abbrev pub node_cells : Node Field → ℕ
node_cells n = parts_cells n.parts

-- those of all nodes
abbrev pub nodes_cells : List (Node Field) → ℕ
nodes_cells ns = sum_by node_cells ns

-- those of the objects that a note owns
abbrev pub noted_cells : OldPart → ℕ
noted_cells (noted.Element i v) = 0
noted_cells (noted.Held i o) = cells o
noted_cells (noted.Entry h) = place_cells h
noted_cells (noted.Whole s) = part_cells (part_of s)

-- those that a change of a hash field brings
abbrev pub change_cells : Change → ℕ
change_cells (Put k e) = cells e.key + cells e.value
change_cells (Empty k) = 0
change_cells Clear = 0
