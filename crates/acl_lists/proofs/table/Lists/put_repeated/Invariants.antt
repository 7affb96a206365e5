use Rattle.acl_lists.proofs.BuildLemmas.{RepeatedSoFar}
use Rattle.acl_lists.proofs.table.Lists.put_repeated.Given as goal

abbrev pub invariant-loop : goal.invariant-loop
invariant-loop l = RepeatedSoFar l.fn.self l.self l.item l.at l.counter
