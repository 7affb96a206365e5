use Rattle.std.proofs.Common.{◌≡◌, ◌<◌, length}
use Rattle.model_prims.specs.Kinds.{by_number}
use Rattle.model_lists.specs.Lists.{pairs_of, value_at}
use Rattle.acl_lists.specs.Tables.{list_at}
use Rattle.acl_lists.proofs.table.Lists.find.Given as goal

abbrev pub invariant-loop-newest : goal.invariant-loop-newest
invariant-loop-newest l = (l.at.0 < length l.self) × (value_at by_number l.wanted (pairs_of (list_at l.self l.at)) ≡ value_at by_number l.wanted (pairs_of (list_at l.self l.fn.list)))

abbrev pub decreases-loop-newest : goal.decreases-loop-newest
decreases-loop-newest l = l.at.0
