use Rattle.acl_read_build.proofs.GrowthLemmas.{grown}
use Rattle.acl_read_build.proofs.building.integer.Goals as goal

pub returns-in-Ok-clause-grows : goal.returns-in-Ok-clause-grows
returns-in-Ok-clause-grows c = grown c.in-Ok.ensures.grows
