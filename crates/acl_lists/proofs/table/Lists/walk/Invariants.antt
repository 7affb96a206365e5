use Rattle.std.proofs.Common.{◌≡◌, length}
use Rattle.acl_lists.specs.Tables.{Passed}
use Rattle.acl_lists.proofs.table.Lists.walk.Given as goal

abbrev pub invariant-loop : goal.invariant-loop
invariant-loop l = Passed l.self l.fn.list l.firsts.items l.rest × (length l.firsts.items ≡ l.counter)
