use Rattle.std.proofs.Common.{arith, Some}
use Rattle.acl_hash.proofs.PlaceLemmas.{changes_put, few}
use Rattle.acl_hash.proofs.places.put_at.Goals as goal

pub returns-clause-changes : goal.returns-clause-changes
returns-clause-changes c =
    changes_put c.args.places.now c.insert.new.self c.args.k (Some c.args.e) c.in-Ok.old c.in-Ok.ensures.old c.in-Ok.ensures.updates c.in-Ok.ensures.entries

pub returns-clause-few : goal.returns-clause-few
returns-clause-few c = few c.args.places.now.entries (omega (arith, c.len-count.ensures.len, c.len-count.ensures.small))
