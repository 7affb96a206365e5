-- Hash fields: what a change makes of one, and what is read from it.
use Rattle.std.specs.Prelude.{◌≡◌, ℕ, List, [], ◌∷◌, Option, Some, None, IsSomeAnd, IfSome}
use Rattle.model_objects.specs.Object.{Object}
use Rattle.model_lists.specs.Lists.{StobjList}
use Rattle.acl_base.specs.declared.Word.{Word}
use Rattle.acl_heap.specs.Objects.{Objects}
use Rattle.acl_hash.specs.Sorting.{KnowsPairs}
use Rattle.model_symbols.specs.Symbols.{QualifiedName}
use Rattle.acl_maps.specs.Listing.{IsListing}
use Rattle.acl_maps.specs.Cells.{Cells, full, with_cell, emptied, found_in, pairs_in, count_in, Finds}
use Rattle.acl_nodes.specs.Nodes.{Part, Own}
use Rattle.acl_fields.specs.Fields.{Field, Table, table_in}
use Rattle.acl_fields.specs.Notes.{ShowsOwn, Restored, SuitsPart, back, path_noted}
use Rattle.acl_fields.specs.declared.change.Change.{Change}
use Rattle.acl_fields.specs.declared.change.Change.TheVariants.{Put, Empty, Clear}
use Rattle.acl_fields.specs.declared.notes.OldPart.{OldPart}

-- ---- changes

-- the entry of a key has it for its own
abbrev pub IsChange : Change → Type 0
IsChange (Put k e) = e.key ≡ k
IsChange (Empty k) = Unit {0}
IsChange Clear = Unit {0}

abbrev pub changed : Change → Cells → Cells
changed (Put k e) cs = with_cell k (Some (full e.value)) cs
changed (Empty k) cs = emptied k cs
changed Clear cs = []

-- ---- one field

abbrev pub tabled_in : Option Cells → (Cells → Cells) → Part Field → Part Field
tabled_in None u p = p
tabled_in (Some cs) u p = Own (Table (u cs))

-- a hash field with other cells
abbrev pub tabled : (Cells → Cells) → Part Field → Part Field
tabled u p = tabled_in (table_in p) u p

-- what the key finds in the field, in a heap
abbrev pub FindsIn : Part Field → Object ℕ → Objects → Option Word → Type 0
FindsIn p k h r = IfSome (table_in p) (λ cs. Finds h (found_in k cs) r)

-- how many keys of the field have a value
abbrev pub Counts : Part Field → ℕ → Type 0
Counts p m = IfSome (table_in p) (λ cs. m ≡ count_in cs)

-- each symbol in the keys and the values of the field is known
abbrev pub IsKnownTable : List QualifiedName → Part Field → Type 0
IsKnownTable symbols p = IsSomeAnd (table_in p) (λ cs. KnowsPairs symbols (pairs_in cs))

-- the words are the pairs of the field in order
abbrev pub Lists : List QualifiedName → Part Field → Objects → List (Word × Word) → Type 0
Lists symbols p h ws = IfSome (table_in p) (λ cs. IsListing symbols cs h ws)

-- the note gives the old field back in place of the new one, and its list
pub record GivesBack (q : OldPart) (new old : Part Field) : Type 0 where
  pub suits : SuitsPart q new
  pub is : back q new ≡ old
  pub path : (f : ℕ) → path_noted q f ≡ f ∷ []
  pub restored : (l : StobjList ℕ) → ShowsOwn old l → Restored q new l
