use Rattle.acl_hash.proofs.PlaceLemmas.{same_reordered}
use Rattle.acl_hash.proofs.places.make_room.Goals as goal

pub returns-clause-same : goal.returns-clause-same
returns-clause-same c = same_reordered c.args.places.now c.reserve.new.self c.reserve.ensures.entries
