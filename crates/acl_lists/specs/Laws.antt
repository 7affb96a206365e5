-- What is said of tables, as laws.
use Rattle.std.specs.Prelude.{◌≡◌, ◌<◌, List, Some, length, map, slice_get}
use Rattle.acl_lists.specs.declared.cell.ListId.{ListId}
use Rattle.acl_lists.specs.declared.cell.Cell.{Cell}
use Rattle.acl_lists.specs.Tables.{list_at, list_over, forest, IsTable, AllIn, Grown}

pub record ListsStay : Type 0 where
  -- as a table grows, a number goes on to stand for its list, and so do several
  pub list : (old new : List Cell) (n : ListId) → Grown old new → n.0 < length old → list_at new n ≡ list_at old n
  pub lists : (old new : List Cell) (ns : List ListId) → Grown old new → AllIn old ns → map (list_at new) ns ≡ map (list_at old) ns
  pub within : (old new : List Cell) (ns : List ListId) → Grown old new → AllIn old ns → AllIn new ns
  -- a table that grows and grows again has grown
  pub same : (cs : List Cell) → Grown cs cs
  pub then : (first second third : List Cell) → Grown first second → Grown second third → Grown first third
  -- a number stands for its cell over the lists of the table
  pub over : (cs : List Cell) (c : Cell) (n : ListId) → IsTable cs → slice_get cs n.0 ≡ Some c → list_at cs n ≡ list_over (forest cs) c
