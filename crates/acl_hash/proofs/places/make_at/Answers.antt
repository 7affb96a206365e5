use Rattle.std.proofs.Common.{rules}
use Rattle.acl_hash.proofs.PlaceLemmas.{place_is_there, place_is_made}
use Rattle.acl_hash.proofs.places.make_at.Goals as goal

pub returns-in_ok-insert-clause-ok : goal.returns-in_ok-insert-clause-ok
returns-in_ok-insert-clause-ok c =
    place_is_made c.args.places.now c.insert.new.self c.args.k c.in_ok-insert.field-0 (search rules) c.in_ok-insert.ensures.old c.in_ok-insert.ensures.updates c.in_ok-insert.ensures.entries

pub returns-else-not-contains_key-clause-ok : goal.returns-else-not-contains_key-clause-ok
returns-else-not-contains_key-clause-ok c = place_is_there c.args.places.now.entries c.args.k (search rules)
