use Rattle.acl_new_lists.proofs.FindLemmas.{found_none}
use Rattle.acl_layouts.proofs.finding.definition_of.Goals as goal

pub returns-in-None-clause-found : goal.returns-in-None-clause-found
returns-in-None-clause-found c = found_none c.args.heap.now c.args.world.now c.args.name.0 c.in-None.ensures.found
