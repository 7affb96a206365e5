use Rattle.acl_expand.proofs.KnownLemmas.{supplies_there}
use Rattle.acl_expand_rows.proofs.rows.once.Goals as goal

pub returns-in-Ok-clause-supplies : goal.returns-in-Ok-clause-supplies
returns-in-Ok-clause-supplies c = supplies_there c.expand.ensures.grows c.args.world.now c.requires.world c.requires.supplies

pub returns-clause-supplies : goal.returns-clause-supplies
returns-clause-supplies c = supplies_there c.expand.ensures.grows c.args.world.now c.requires.world c.requires.supplies
