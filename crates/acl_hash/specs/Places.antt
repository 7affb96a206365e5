-- What a hash field holds: places by their keys. A place has an entry, or is empty.
use Rattle.std.specs.Prelude.{◌≡◌, ℕ, ◌+◌, List, Bool, true, false, Option, Some, None, if◌then◌else◌}
use Rattle.std.specs.Option.{option_flatten}
use Rattle.std.specs.List.{sum_by}
use Rattle.std.specs.Map.{lookup, values_of}
use Rattle.model_objects.specs.Object.{Object}
use Rattle.acl_pool.specs.declared.Root.{Root}
use Rattle.acl_hash.specs.declared.entry.Entry.{Entry}
use Rattle.acl_hash.specs.Same.{same_key}

abbrev pub Places : Type 0
Places = List (Object ℕ × Option Entry)

-- the place of a key, if there is one
abbrev pub place_at : Places → Object ℕ → Option (Option Entry)
place_at ps k = lookup (same_key k) ps

-- the entry of a key, if there is one
abbrev pub entry_at : Places → Object ℕ → Option Entry
entry_at ps k = option_flatten (place_at ps k)

-- the root of an entry's key, or of its value
abbrev pub part_of : Bool → Option Entry → Option Root
part_of is_key None = None
part_of true (Some e) = Some e.key
part_of false (Some e) = Some e.value

-- a sum over the places
abbrev pub sum_of : (Option Entry → ℕ) → Places → ℕ
sum_of f ps = sum_by f (values_of ps)

abbrev pub one_of : Option Entry → ℕ
one_of None = 0
one_of (Some e) = 1

-- how many entries there are
abbrev pub entry_count : Places → ℕ
entry_count ps = sum_of one_of ps

-- the cells of an entry's roots
abbrev pub entry_cells : Option Entry → ℕ
entry_cells None = 0
entry_cells (Some e) = e.key.cells + e.value.cells

-- the cells of all roots
abbrev pub field_cells : Places → ℕ
field_cells ps = sum_of entry_cells ps

-- the key has this place now, or none; all other keys have what they had
pub record Changes (old new : Places) (k : Object ℕ) (place : Option (Option Entry)) : Type 0 where
  pub at : (q : Object ℕ) → place_at new q ≡ (if same_key k q then place else place_at old q)
  pub sums : (f : Option Entry → ℕ) → f None ≡ 0 → sum_of f new + f (entry_at old k) ≡ sum_of f old + f (option_flatten place)

-- every key has what it had
pub record AreSame (old new : Places) : Type 0 where
  pub at : (q : Object ℕ) → place_at new q ≡ place_at old q
  pub sums : (f : Option Entry → ℕ) → sum_of f new ≡ sum_of f old

-- a place that is empty is none
abbrev pub tidied : Option (Option Entry) → Option (Option Entry)
tidied None = None
tidied (Some None) = None
tidied (Some (Some e)) = Some (Some e)

-- there is a place, and it is empty
abbrev pub is_hole : Option (Option Entry) → Bool
is_hole None = false
is_hole (Some None) = true
is_hole (Some (Some e)) = false
