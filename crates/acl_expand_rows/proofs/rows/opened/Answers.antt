use Rattle.acl_expand.proofs.KnownLemmas.{supplies_there}
use Rattle.acl_expand_rows.proofs.rows.opened.Goals as goal

pub returns-in-Some-clause-supplies : goal.returns-in-Some-clause-supplies
returns-in-Some-clause-supplies c = supplies_there c.in-Ok-read.ensures.grows c.in-Ok.world c.in-Ok.ensures.lies c.in-Ok.ensures.supplies
