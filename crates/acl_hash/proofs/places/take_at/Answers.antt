use Rattle.acl_hash.proofs.PlaceLemmas.{changes_remove}
use Rattle.acl_hash.proofs.places.take_at.Goals as goal

pub returns-clause-changes : goal.returns-clause-changes
returns-clause-changes c = changes_remove c.args.places.now c.remove.new.self c.args.k.now c.remove.ensures.updates c.remove.ensures.entries
