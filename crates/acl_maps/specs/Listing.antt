-- The pairs of a map in the order of its places.
use Rattle.std.specs.Prelude.{◌≡◌, List, [], ◌∷◌, ℕ, Some, None}
use Rattle.model_objects.specs.Object.{Object}
use Rattle.model_symbols.specs.Symbols.{QualifiedName}
use Rattle.model_prims.specs.Kinds.{by_number}
use Rattle.model_lists.specs.Lists.{value_at}
use Rattle.acl_base.specs.declared.Word.{Word}
use Rattle.acl_heap.specs.Objects.{Objects}
use Rattle.acl_heap.specs.Equal.{AllLie}
use Rattle.acl_hash.specs.Sorting.{pairs_in as pairs_of_words, named_pairs, KnowsPairs}
use Rattle.acl_maps.specs.Cells.{Places, Cells, found_in}

-- the keys and the values of the entries
abbrev pub listed : Places → List (Object ℕ × Object ℕ)
listed [] = []
listed ((k, None) ∷ ps) = listed ps
listed ((k, Some e) ∷ ps) = (e.key, e.value) ∷ listed ps

-- the words are the pairs of the cells in order: those of the normal list of each list of known pairs in which keys find the same
pub record IsListing (symbols : List QualifiedName) (cs : Cells) (h : Objects) (ws : List (Word × Word)) : Type 0 where
  pub lie : AllLie h ws
  pub normal : (list : Cells) → ((k : Object ℕ) → value_at by_number k list ≡ found_in k cs) → KnowsPairs symbols list → pairs_of_words h ws ≡ named_pairs symbols list
