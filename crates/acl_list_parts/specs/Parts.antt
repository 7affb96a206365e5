-- Lists by a number of a table, or by none where they are empty.
use Rattle.std.specs.Prelude.{ℕ, List, Option, Some, None}
use Rattle.acl_base.specs.declared.Word.{Word}
use Rattle.acl_heap.specs.Objects.{Objects, Lies}
use Rattle.model_lists.specs.Lists.{StobjList, End}
use Rattle.acl_lists.specs.declared.cell.ListId.{ListId}
use Rattle.acl_lists.specs.declared.cell.Cell.{Cell}
use Rattle.acl_lists.specs.Tables.{list_at}

-- without a number, the empty list
abbrev pub list_given : List Cell → Option ListId → StobjList ℕ
list_given cs None = End
list_given cs (Some n) = list_at cs n

-- an index, where there is one, lies in the heap
abbrev pub IndexLies : Objects → Option Word → Type 0
IndexLies h None = Unit {0}
IndexLies h (Some w) = Lies h w
