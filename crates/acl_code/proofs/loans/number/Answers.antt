use Rattle.std.proofs.Common.{◌∙◌}
use Rattle.acl_code.proofs.ChildLemmas.{number_seen}
use Rattle.acl_code.proofs.loans.number.Goals as goal

pub returns : goal.returns
returns c = c.find.ensures.found ∙ number_seen c.args._heap.now c.args.world.now c.args.f.0
