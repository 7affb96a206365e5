-- The lists that the cells of a table stand for.
use Rattle.std.specs.Prelude.{◌≡◌, ℕ, ◌<◌, ◌≤◌, List, [], ◌∷◌, ◌++◌, length, map, take, get_or, Some, slice_get}
use Rattle.std.specs.List.{AllByRecursion}
use Rattle.model_lists.specs.Lists as lists
use Rattle.model_lists.specs.Lists.{StobjList, pairs_of, scalar_of}
use Rattle.model_prims.specs.Kinds.{by_number}
use Rattle.acl_lists.specs.declared.cell.ListId.{ListId}
use Rattle.acl_lists.specs.declared.cell.Cell.{Cell}
use Rattle.acl_lists.specs.declared.cell.Cell.TheVariants as cell

abbrev pub list_in : List (StobjList ℕ) → ListId → StobjList ℕ
list_in done n = get_or done n.0 lists.End

-- the list of a cell over those of the cells before it
abbrev pub list_over : List (StobjList ℕ) → Cell → StobjList ℕ
list_over done (cell.Value o) = lists.Value o
list_over done cell.NoPairs = lists.Pairs []
list_over done (cell.Pair key value older) =
    lists.Pairs ((scalar_of by_number (list_in done key), scalar_of by_number (list_in done value)) ∷ pairs_of (list_in done older))
list_over done cell.End = lists.End
list_over done (cell.Item first rest) = lists.Item (list_in done first) (list_in done rest)

-- the lists of some cells, the oldest first, after those of earlier cells
abbrev pub lists_after : List (StobjList ℕ) → List Cell → List (StobjList ℕ)
lists_after done [] = done
lists_after done (c ∷ cs) = lists_after (done ++ list_over done c ∷ []) cs

-- the lists of all cells of a table, in order
unfoldable pub forest : List Cell → List (StobjList ℕ)
forest cs = lists_after [] cs

-- the list that a number of the table stands for
abbrev pub list_at : List Cell → ListId → StobjList ℕ
list_at cs n = list_in (forest cs) n

-- ---- what holds of every table

-- the parts of a cell stand below this number
abbrev pub StandsOver : ℕ → Cell → Type 0
StandsOver n (cell.Value o) = Unit {0}
StandsOver n cell.NoPairs = Unit {0}
StandsOver n (cell.Pair key value older) = (key.0 < n) × (value.0 < n) × (older.0 < n)
StandsOver n cell.End = Unit {0}
StandsOver n (cell.Item first rest) = (first.0 < n) × (rest.0 < n)

-- each cell stands over its parts
pub record IsTable (cs : List Cell) : Type 0 where
  pub over : (i : ℕ) (c : Cell) → slice_get cs i ≡ Some c → StandsOver i c

-- ---- growth

-- more cells behind those that were there
pub record Grown (old new : List Cell) : Type 0 where
  pub longer : length old ≤ length new
  pub same : take (length old) new ≡ old

-- numbers below one
abbrev pub AllBelow : ℕ → List ListId → Type 0
AllBelow n ns = AllByRecursion (λ (m : ListId). m.0 < n) ns

-- numbers of the table
abbrev pub AllIn : List Cell → List ListId → Type 0
AllIn cs ns = AllBelow (length cs) ns

-- these items before a list
abbrev pub onto : List (StobjList ℕ) → StobjList ℕ → StobjList ℕ
onto [] l = l
onto (x ∷ xs) l = lists.Item x (onto xs l)

-- these are the first items of a list, and the list behind them
pub record Passed (cs : List Cell) (list : ListId) (firsts : List ListId) (rest : ListId) : Type 0 where
  pub items_in : AllIn cs firsts
  pub rest_in : rest.0 < length cs
  pub same : onto (map (list_at cs) firsts) (list_at cs rest) ≡ list_at cs list
