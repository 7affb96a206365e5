use Rattle.acl_store.proofs.LawLemmas.{updates}
use Rattle.acl_store.proofs.laws.writes_are_updates.Goals as goal

pub returns : goal.returns
returns c = updates
