use Rattle.acl_heap.specs.Growth.{reset_grown}
use Rattle.acl_maps.proofs.map.ObjectMap.pairs.Goals as goal

pub returns-in-Err-clause-refused : goal.returns-in-Err-clause-refused
returns-in-Err-clause-refused c = reset_grown c.in-Err.ensures.grows c.mark-mark.ensures c.reset.ensures
