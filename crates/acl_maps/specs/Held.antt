-- How many cells keys and values take.
use Rattle.std.specs.Prelude.{ℕ, ◌+◌, Option, Some, None}
use Rattle.std.specs.Ordering.{nat_cmp}
use Rattle.model_objects.specs.Object.{Object, cells}
use Rattle.model_lists.specs.Normal.{normal_pairs, pair_cells}
use Rattle.acl_maps.specs.Cells.{Cells, opened_in, pairs_in}
use Rattle.acl_maps.specs.declared.entry.OwnedEntry.{OwnedEntry}

-- those of a key and its value, where it has one
abbrev pub entry_cells : Object ℕ → Option (Object ℕ) → ℕ
entry_cells k None = 0
entry_cells k (Some v) = cells k + cells v

-- those of all keys that have a value: of the normal list of the pairs
unfoldable pub cells_held : Cells → ℕ
cells_held cs = pair_cells (normal_pairs nat_cmp (pairs_in cs))

-- those of what stood at a key
abbrev pub place_cells : Object ℕ × Option (Object ℕ) → ℕ
place_cells h = entry_cells h.0 (opened_in h.1)

-- those of a place
abbrev pub own_cells : Option (Option OwnedEntry) → ℕ
own_cells None = 0
own_cells (Some None) = 0
own_cells (Some (Some e)) = cells e.key + cells e.value
