-- How many cells a store holds.
use Rattle.std.specs.Prelude.{◌≡◌, ℕ, ◌+◌, List}
use Rattle.std.specs.List.{sum_by}
use Rattle.acl_fields.specs.Held.{nodes_cells, noted_cells}
use Rattle.acl_store.specs.Calls.{Nodes}
use Rattle.acl_store.specs.declared.notes.Old.{Old}

-- those of the objects in the journal
abbrev pub notes_cells : List Old → ℕ
notes_cells os = sum_by (λ o. noted_cells o.part) os

-- those of all objects that fields and notes own
abbrev pub cells_in : Nodes → List Old → ℕ
cells_in ns os = nodes_cells ns + notes_cells os

-- the number that is kept is that of these
abbrev pub IsCounted : ℕ → Nodes → List Old → Type 0
IsCounted held ns os = held ≡ cells_in ns os
