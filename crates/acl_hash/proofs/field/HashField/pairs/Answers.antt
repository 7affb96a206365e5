use Rattle.acl_heap.specs.Growth.{reset_grown}
use Rattle.acl_hash.proofs.field.HashField.pairs.Goals as goal

pub returns-in-Err-clause-err : goal.returns-in-Err-clause-err
returns-in-Err-clause-err c = reset_grown c.in-Err.ensures.grows c.mark-mark.ensures c.reset.ensures
