-- What a map holds: places by their keys. A place has an entry, or is empty. Contracts see a cell for each place.
use Rattle.std.specs.Prelude.{◌≡◌, ℕ, pos, List, [], ◌∷◌, true, Option, Some, None, if◌then◌else◌}
use Rattle.std.specs.Option.{option_map}
use Rattle.std.specs.Ordering.{nat_cmp}
use Rattle.std.specs.Map.{lookup}
use Rattle.model_objects.specs.Object.{Object, Integer, Symbol, Text, Pair}
use Rattle.model_prims.specs.Kinds.{by_number}
use Rattle.model_lists.specs.Lists.{value_at, has_key, without_key, key_count}
use Rattle.model_lists.specs.Normal.{put_in_order, normal_pairs}
use Rattle.acl_base.specs.declared.Word.{Word}
use Rattle.acl_heap.specs.Objects.{Objects, Denotes}
use Rattle.acl_hash.specs.Same.{same_key}
use Rattle.acl_maps.specs.declared.entry.OwnedEntry.{OwnedEntry}

-- ---- places

abbrev pub Places : Type 0
Places = List (Object ℕ × Option OwnedEntry)

-- the place of a key, if there is one
abbrev pub place_at : Places → Object ℕ → Option (Option OwnedEntry)
place_at ps k = lookup (same_key k) ps

-- the key has this place now, or none; all other keys have what they had
pub record Changes (old new : Places) (k : Object ℕ) (place : Option (Option OwnedEntry)) : Type 0 where
  pub at : (q : Object ℕ) → place_at new q ≡ (if same_key k q then place else place_at old q)

-- an entry at the key has it for its own
abbrev pub HasKey : Object ℕ → Option (Option OwnedEntry) → Type 0
HasKey k None = Unit {0}
HasKey k (Some None) = Unit {0}
HasKey k (Some (Some e)) = e.key ≡ k

pub record AreKeyed (ps : Places) : Type 0 where
  pub each : (k : Object ℕ) → HasKey k (place_at ps k)

-- ---- cells

abbrev pub Cells : Type 0
Cells = List (Object ℕ × Object ℕ)

-- the cell of a value, and a cell without one
abbrev pub full : Object ℕ → Object ℕ
full v = Pair v (Integer (pos 0))

abbrev pub hole : Object ℕ
hole = Integer (pos 0)

abbrev pub cell : Option OwnedEntry → Object ℕ
cell None = hole
cell (Some e) = full e.value

-- the value of a cell
abbrev pub opened : Object ℕ → Option (Object ℕ)
opened (Integer n) = None
opened (Symbol s) = None
opened (Text bytes) = None
opened (Pair v rest) = Some v

abbrev pub listing : Places → Cells
listing [] = []
listing (p ∷ ps) = (p.0, cell p.1) ∷ listing ps

-- the cells in the order of keys
unfoldable pub cells_of : Places → Cells
cells_of ps = normal_pairs nat_cmp (listing ps)

-- the key has this cell now, or none
unfoldable pub with_cell : Object ℕ → Option (Object ℕ) → Cells → Cells
with_cell k None cs = without_key by_number k cs
with_cell k (Some c) cs = put_in_order nat_cmp (k, c) cs

-- a hole in place of what the key has
abbrev pub emptied : Object ℕ → Cells → Cells
emptied k cs = with_cell k (option_map (λ c. hole) (value_at by_number k cs)) cs

abbrev pub opened_in : Option (Object ℕ) → Option (Object ℕ)
opened_in None = None
opened_in (Some c) = opened c

-- the value of a key
abbrev pub found_in : Object ℕ → Cells → Option (Object ℕ)
found_in k cs = opened_in (value_at by_number k cs)

abbrev pub opened_pair : Object ℕ → Option (Object ℕ) → Cells → Cells
opened_pair k None ps = without_key by_number k ps
opened_pair k (Some v) ps = (k, v) ∷ ps

-- the pairs in cells
abbrev pub pairs_in : Cells → Cells
pairs_in [] = []
pairs_in (c ∷ cs) = opened_pair c.0 (opened c.1) (pairs_in cs)

-- how many keys have a value
unfoldable pub count_in : Cells → ℕ
count_in cs = key_count by_number (pairs_in cs)

-- a cell may be put back where its key has one
abbrev pub IsSuitedTo : Option (Object ℕ) → Object ℕ → Cells → Type 0
IsSuitedTo None k cs = Unit {0}
IsSuitedTo (Some c) k cs = has_key by_number k cs ≡ true

abbrev pub IsSuited : Object ℕ × Option (Object ℕ) → Cells → Type 0
IsSuited h cs = IsSuitedTo h.1 h.0 cs

-- the word of a value that was found, in a heap
abbrev pub Finds : Objects → Option (Object ℕ) → Option Word → Type 0
Finds h None None = Unit {0}
Finds h None (Some w) = ⊥
Finds h (Some v) None = ⊥
Finds h (Some v) (Some w) = Denotes h w v

-- the entries have their keys, and so many of them have a value
pub record Fits (ps : Places) (count : ℕ) : Type 0 where
  pub keyed : AreKeyed ps
  pub counted : count ≡ count_in (cells_of ps)

abbrev pub one_of : Option (Object ℕ) → ℕ
one_of None = 0
one_of (Some v) = 1

-- the value of a place
abbrev pub value_of : Option (Option OwnedEntry) → Option (Object ℕ)
value_of None = None
value_of (Some None) = None
value_of (Some (Some e)) = Some e.value
