use Rattle.std.specs.Prelude.{map}
use Rattle.std.specs.Prelude.{vec_len}
use Rattle.acl_lists.specs.Tables.{list_at, onto}
use Rattle.acl_lists.proofs.BuildLemmas.{OntoSoFar}
use Rattle.acl_lists.proofs.table.Lists.put_onto.Given as goal

abbrev pub invariant-loop-first : goal.invariant-loop-first
invariant-loop-first l = OntoSoFar l.fn.self l.self l.left.items l.at (onto (map (list_at l.fn.self) l.fn.firsts.items) (list_at l.fn.self l.fn.rest))

abbrev pub decreases-loop-first : goal.decreases-loop-first
decreases-loop-first l = vec_len l.left
