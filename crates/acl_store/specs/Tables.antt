-- Hash fields: what the calls on them make of their cells and of their lists.
use Rattle.std.specs.Prelude.{◌≡◌, ℕ, List, [], ◌∷◌, ◌++◌, Option, IsSome, IsSomeAnd, IfSome}
use Rattle.model_objects.specs.Object.{Object}
use Rattle.model_prims.specs.Kinds.{by_number}
use Rattle.model_lists.specs.Lists.{Pairs, pairs_of, value_at, without_key, key_count}
use Rattle.model_eval.specs.PlacesKeeping.{list_at}
use Rattle.acl_base.specs.declared.Word.{Word}
use Rattle.acl_heap.specs.Objects.{Objects}
use Rattle.acl_heap.specs.Equal.{AllLie}
use Rattle.acl_hash.specs.Sorting.{pairs_in as pairs_of_words, named_pairs, KnowsPairs}
use Rattle.model_symbols.specs.Symbols.{QualifiedName}
use Rattle.acl_maps.specs.Cells.{Cells, Finds}
use Rattle.acl_nodes.specs.Kept.{Kept, field_at, with_field}
use Rattle.acl_nodes.specs.Nodes.{part_at, with_part}
use Rattle.acl_fields.specs.Fields.{table_in}
use Rattle.acl_store.specs.Calls.{Nodes, Holds}
use Rattle.acl_fields.specs.Notes.{back}
use Rattle.acl_store.specs.Journals.{Remembers}
use Rattle.acl_fields.specs.declared.change.Change.{Change}
use Rattle.acl_fields.specs.declared.change.Change.TheVariants.{Put, Empty, Clear}
use Rattle.acl_fields.specs.Changes.{tabled, IsKnownTable, GivesBack}
use Rattle.acl_store.specs.declared.notes.Old.{Old}

-- ---- changes

abbrev pub pairs_changed : Change → Cells → Cells
pairs_changed (Put k e) ps = (k, e.value) ∷ ps
pairs_changed (Empty k) ps = without_key by_number k ps
pairs_changed Clear ps = []

-- ---- calls

abbrev pub IsHash : Nodes → ℕ → ℕ → Type 0
IsHash ns n f = IsSomeAnd (part_at ns n f) (λ p. IsSome (table_in p))

-- the pairs in the list of a field
abbrev pub pairs_at : Kept → ℕ → ℕ → List (Object ℕ × Object ℕ)
pairs_at kept n f = pairs_of (list_at kept.roots (field_at kept.places n f))

-- what the key finds in the list at the place, in a heap
abbrev pub FindsAt : Nodes → ℕ → ℕ → Object ℕ → Objects → Option Word → Type 0
FindsAt ns n f k h r = (kept : Kept) → Holds ns kept → Finds h (value_at by_number k (pairs_at kept n f)) r

-- how many different keys there are in the list at the place
abbrev pub CountsAt : Nodes → ℕ → ℕ → ℕ → Type 0
CountsAt ns n f m = (kept : Kept) → Holds ns kept → key_count by_number (pairs_at kept n f) ≡ m

abbrev pub IsKnownHash : List QualifiedName → Nodes → ℕ → ℕ → Type 0
IsKnownHash symbols ns n f = IsSomeAnd (part_at ns n f) (λ p. IsKnownTable symbols p)

-- the words are the pairs of the list at the place in its normal form, where its symbols are known
pub record ListsAt (symbols : List QualifiedName) (ns : Nodes) (n f : ℕ) (h : Objects) (ws : List (Word × Word)) : Type 0 where
  pub lie : AllLie h ws
  pub pairs : (kept : Kept) → Holds ns kept → KnowsPairs symbols (pairs_at kept n f) → pairs_of_words h ws ≡ named_pairs symbols (pairs_at kept n f)

-- a hash field has other cells, and all else is as it was
abbrev pub IsTabled : Nodes → ℕ → ℕ → (Cells → Cells) → Nodes → Type 0
IsTabled ns n f u after = IfSome (part_at ns n f) (λ p. after ≡ with_part n f (tabled u p) ns)

-- the roots have other pairs at the place
unfoldable pub WritesPairs : Nodes → ℕ → ℕ → (Cells → Cells) → Nodes → Type 0
WritesPairs ns n f g after = (kept : Kept) → Holds ns kept → Holds after (with_field n f (Pairs (g (pairs_at kept n f))) kept)

-- what gives the old field back was noted, behind the others
pub record IsTableNoted (ns : Nodes) (n f : ℕ) (u : Cells → Cells) (olds news : List Old) : Type 0 where
  pub note : Old
  pub last : news ≡ olds ++ note ∷ []
  pub is_node : note.node ≡ n
  pub is_field : note.field ≡ f
  pub is : IfSome (part_at ns n f) (λ p. GivesBack note.part (tabled u p) p)

-- other pairs leave what is remembered
unfoldable pub PairsRemember : Nodes → List Old → ℕ → ℕ → ℕ → (Cells → Cells) → Nodes → List Old → Type 0
PairsRemember ns olds first n f g after others =
    (kept before : Kept) → Remembers ns olds first kept before → Remembers after others first (with_field n f (Pairs (g (pairs_at kept n f))) kept) before
