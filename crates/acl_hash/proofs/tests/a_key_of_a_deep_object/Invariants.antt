use Rattle.acl_heap.specs.Objects.{Lies}
use Rattle.acl_hash.proofs.tests.a_key_of_a_deep_object.Given as goal

abbrev pub invariant-loop : goal.invariant-loop
invariant-loop g l = Lies l.heap l.deep

abbrev pub invariant-loop-2 : goal.invariant-loop-2
invariant-loop-2 g l = Lies l.heap l.deep × Lies l.heap l.long
