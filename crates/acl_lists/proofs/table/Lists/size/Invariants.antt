use Rattle.std.proofs.Common.{◌≡◌, ◌<◌, ◌≤◌, ◌+◌, length}
use Rattle.model_lists.specs.Lists.{size}
use Rattle.acl_lists.specs.Tables.{list_at}
use Rattle.acl_lists.proofs.table.Lists.size.Given as goal

abbrev pub invariant-loop-split : goal.invariant-loop-split
invariant-loop-split l =
    (l.at.0 < length l.self) × (size (list_at l.self l.at) + l.count ≡ size (list_at l.self l.fn.list)) × (l.at.0 + l.count ≤ l.fn.list.0)

abbrev pub decreases-loop-split : goal.decreases-loop-split
decreases-loop-split l = l.at.0
