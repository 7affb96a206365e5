use Rattle.std.proofs.Common.{◌≡◌, length, take}
use Rattle.acl_names.proofs.Names.cut.Given as goal

abbrev pub invariant-loop-self : goal.invariant-loop-self
invariant-loop-self l = take l.to l.self ≡ take l.to l.fn.self

abbrev pub decreases-loop-self : goal.decreases-loop-self
decreases-loop-self l = length l.self
