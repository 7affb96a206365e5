use Rattle.acl_heap.specs.Objects.{Lies}
use Rattle.acl_heap.proofs.tests.a_million_conses.Given as goal

abbrev pub invariant-loop-2 : goal.invariant-loop-2
invariant-loop-2 g l = Lies l.heap l.list
