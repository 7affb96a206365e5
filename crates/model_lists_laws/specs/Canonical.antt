-- What is said of canonical lists, as laws.
use Rattle.std.specs.Prelude.{◌≡◌, ℕ, ◌<◌, List, length}
use Rattle.std.specs.Ordering.{nat_cmp}
use Rattle.model_objects.specs.Object.{Object}
use Rattle.model_symbols.specs.Symbols.{QualifiedName}
use Rattle.model_symbols.specs.Growth.{AreDistinct}
use Rattle.model_prims.specs.Kinds.{by_number}
use Rattle.model_lists.specs.Lists.{StobjList, Pairs, pairs_of, value_at}
use Rattle.model_lists.specs.Normal.{number_cmp, normal, canonical, list_cells, held_cells}
use Rattle.model_lists.specs.LiveLists.{AreAlike, ListSymbols}

-- each symbol in the list is known
abbrev pub IsKnownList : List QualifiedName → StobjList ℕ → Type 0
IsKnownList symbols l = ListSymbols (λ s. s < length symbols) l

pub record CanonicalLists : Type 0 where
  pub twice : (l : StobjList ℕ) → canonical (canonical l) ≡ canonical l
  -- where the symbols are distinct and those of a list known, it is put in the order of names as well from its canonical list
  pub named : (symbols : List QualifiedName) (l : StobjList ℕ) → AreDistinct symbols → IsKnownList symbols l
      → normal (number_cmp symbols) (canonical l) ≡ normal (number_cmp symbols) l
  pub alike : (symbols : List QualifiedName) (l m : StobjList ℕ) → AreDistinct symbols → IsKnownList symbols l → IsKnownList symbols m
      → AreAlike nat_cmp l m → AreAlike (number_cmp symbols) l m
  -- what an object holds asks for no names
  pub held : (symbols : List QualifiedName) (l : StobjList ℕ) → AreDistinct symbols → IsKnownList symbols l → list_cells (canonical l) ≡ held_cells symbols l
  -- a hash field may be kept as any pairs in which each key finds the same
  pub values : (key : Object ℕ) (l : StobjList ℕ) → value_at by_number key (pairs_of (canonical l)) ≡ value_at by_number key (pairs_of l)
  pub found : (ps qs : List (Object ℕ × Object ℕ)) → ((key : Object ℕ) → value_at by_number key ps ≡ value_at by_number key qs) → canonical (Pairs ps) ≡ canonical (Pairs qs)
