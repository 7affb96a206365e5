use Rattle.std.proofs.Common.{◌<◌, length}
use Rattle.acl_lists.specs.Tables.{list_at}
use Rattle.acl_lists.proofs.WalkLemmas.{Walked}
use Rattle.acl_lists.proofs.table.Lists.item.Given as goal

abbrev pub invariant-loop : goal.invariant-loop
invariant-loop l = (l.at.0 < length l.self) × Walked (list_at l.self l.fn.list) (list_at l.self l.at) l.index l.counter
