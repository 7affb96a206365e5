use Rattle.acl_heap.specs.Objects.{object_of}
use Rattle.acl_declare.proofs.ShapeLemmas.{joined_more}
use Rattle.acl_declare.proofs.reading.listed_from.Goals as goal

pub returns-in-Pair-clause-is : goal.returns-in-Pair-clause-is
returns-in-Pair-clause-is c = joined_more c.args._name.0 c.args.join (object_of c.args.heap.now c.args.a) _ _ _ c.in-Pair.ensures.sees.0
