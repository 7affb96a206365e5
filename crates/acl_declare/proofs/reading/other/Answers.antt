use Rattle.acl_declare.proofs.ShapeLemmas.{not_is}
use Rattle.acl_declare.proofs.reading.other.Goals as goal

pub returns-in-Some-clause-is : goal.returns-in-Some-clause-is
returns-in-Some-clause-is c = not_is _ _ _ c.in-Some.ensures.0
