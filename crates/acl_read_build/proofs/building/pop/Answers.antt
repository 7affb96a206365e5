use Rattle.acl_read_build.proofs.SlotLemmas.{popped}
use Rattle.acl_read_build.proofs.building.pop.Goals as goal

pub returns-in-Some : goal.returns-in-Some
returns-in-Some c = popped _ _ _ _ c.in-Some.slot c.in-Some.ensures.items c.requires
