-- A hash field beside a pool: its roots are live there, and what becomes of them and of the others.
use Rattle.std.specs.Prelude.{◌≡◌, ℕ, ◌+◌, ◌-◌, ◌<◌, ◌≤◌, List, Bool, true, false, Option, Some, None, ◌⊎◌, if◌then◌else◌}
use Rattle.std.specs.Option.{option_map}
use Rattle.model_objects.specs.Object.{Object, cells}
use Rattle.model_prims.specs.Kinds.{by_number}
use Rattle.model_lists.specs.Lists.{value_at}
use Rattle.acl_pool.specs.Roots.{Held, IsLive, object_at, used, Stays}
use Rattle.acl_pool.specs.declared.Root.{Root}
use Rattle.acl_hash.specs.declared.entry.Entry.{Entry}
use Rattle.acl_hash.specs.Same.{same_key}
use Rattle.acl_hash.specs.Places.{Places, entry_at, part_of, entry_cells, field_cells, Changes, AreSame}

-- the root stands in the field
abbrev pub IsRootOf : Places → Root → Type 0
IsRootOf ps r = (k : Object ℕ) × (b : Bool) × (part_of b (entry_at ps k) ≡ Some r)

-- the field fits the pool: its roots are live there, each of one cell or more stands once, and a key's root stands for the key
pub record Fits (p : Held) (ps : Places) : Type 0 where
  pub live : (k : Object ℕ) (b : Bool) (r : Root) → part_of b (entry_at ps k) ≡ Some r → IsLive p r
  pub key : (k : Object ℕ) (r : Root) → part_of true (entry_at ps k) ≡ Some r → object_at p r ≡ k
  pub once : (k q : Object ℕ) (b c : Bool) (r : Root) → 0 < r.cells → part_of b (entry_at ps k) ≡ Some r → part_of c (entry_at ps q) ≡ Some r → (k ≡ q) × (b ≡ c)

-- what a key's value stands for
abbrev pub shown_at : Held → Places → Object ℕ → Option (Object ℕ)
shown_at p ps k = option_map (object_at p) (part_of false (entry_at ps k))

-- the field shows these pairs: each key has the value that it has among them
abbrev pub Shows : Held → Places → List (Object ℕ × Object ℕ) → Type 0
Shows p ps pairs = (k : Object ℕ) → shown_at p ps k ≡ value_at by_number k pairs

-- the roots that are not the field's stay, and stand for what they stood for
abbrev pub OthersStay : Held → Held → Places → Type 0
OthersStay old new ps = (r : Root) → IsLive old r → (0 < r.cells → IsRootOf ps r → ⊥) → Stays old new r

-- the pool holds what it held; its spare cells are no fewer
pub record Holds (old new : Held) : Type 0 where
  pub stays : (r : Root) → IsLive old r → Stays old new r
  pub no_more : (r : Root) → 0 < r.cells → IsLive new r → IsLive old r
  pub uses : used new ≡ used old
  pub spares : old.spare ≤ new.spare

-- an entry's roots are live, and are two
pub record EntryFits (p : Held) (e : Option Entry) : Type 0 where
  pub live : (b : Bool) (r : Root) → part_of b e ≡ Some r → IsLive p r
  pub two : (r : Root) → 0 < r.cells → part_of true e ≡ Some r → part_of false e ≡ Some r → ⊥

-- an entry's roots are put in, for a key and a value
pub record PutsEntry (old new : Held) (e : Entry) (key value : Object ℕ) : Type 0 where
  pub fits : EntryFits new (Some e)
  pub is_key : object_at new e.key ≡ key
  pub is_value : object_at new e.value ≡ value
  pub fresh : (b : Bool) (r : Root) → part_of b (Some e) ≡ Some r → 0 < r.cells → IsLive old r → ⊥
  pub stays : (r : Root) → IsLive old r → Stays old new r
  pub no_more : (r : Root) → 0 < r.cells → IsLive new r → IsLive old r ⊎ ((b : Bool) × (part_of b (Some e) ≡ Some r))
  pub takes : entry_cells (Some e) ≡ cells key + cells value
  pub uses : used new ≡ used old + (cells key + cells value)
  pub spares : new.spare ≡ old.spare - (cells key + cells value)

-- an entry's roots are given back
pub record GivesEntry (old new : Held) (e : Option Entry) : Type 0 where
  pub stays : (r : Root) → IsLive old r → (0 < r.cells → (b : Bool) → part_of b e ≡ Some r → ⊥) → Stays old new r
  pub no_more : (r : Root) → 0 < r.cells → IsLive new r → IsLive old r
  pub uses : used new + entry_cells e ≡ used old
  pub spares : new.spare ≡ old.spare + entry_cells e

-- the key has this value now; what it had before is given back
pub record Puts (old new : Held) (ps qs : Places) (key value : Object ℕ) : Type 0 where
  pub entry : Entry
  pub changes : Changes ps qs key (Some (Some entry))
  pub fits : Fits new qs
  pub shows : (q : Object ℕ) → shown_at new qs q ≡ (if same_key key q then Some value else shown_at old ps q)
  pub others : OthersStay old new ps
  pub no_more : (r : Root) → 0 < r.cells → IsLive new r → IsLive old r ⊎ IsRootOf qs r
  pub uses : used new + entry_cells (entry_at ps key) ≡ used old + (cells key + cells value)
  pub spares : new.spare ≡ (old.spare - (cells key + cells value)) + entry_cells (entry_at ps key)

-- the key has nothing now; what it had is given back
pub record Removes (old new : Held) (ps qs : Places) (key : Object ℕ) : Type 0 where
  pub changes : Changes ps qs key None
  pub fits : Fits new qs
  pub shows : (q : Object ℕ) → shown_at new qs q ≡ (if same_key key q then None else shown_at old ps q)
  pub others : OthersStay old new ps
  pub no_more : (r : Root) → 0 < r.cells → IsLive new r → IsLive old r
  pub uses : used new + entry_cells (entry_at ps key) ≡ used old
  pub spares : new.spare ≡ old.spare + entry_cells (entry_at ps key)

-- everything that the field had is given back
pub record Clears (old new : Held) (ps : Places) : Type 0 where
  pub others : OthersStay old new ps
  pub no_more : (r : Root) → 0 < r.cells → IsLive new r → IsLive old r
  pub uses : used new + field_cells ps ≡ used old
  pub spares : new.spare ≡ old.spare + field_cells ps

-- a refused put: every key has what it had, and the pool holds what it held
pub record Refuses (old new : Held) (ps qs : Places) : Type 0 where
  pub places : AreSame ps qs
  pub pool : Holds old new
