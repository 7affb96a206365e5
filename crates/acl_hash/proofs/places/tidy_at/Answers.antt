use Rattle.std.proofs.Common.{rules}
use Rattle.acl_hash.proofs.PlaceLemmas.{tidies_hole, tidies_nothing}
use Rattle.acl_hash.proofs.places.tidy_at.Goals as goal

pub returns-then-is_empty_at : goal.returns-then-is_empty_at
returns-then-is_empty_at c = tidies_hole c.args.places.now c.remove.new.self c.args.k.now (search rules) c.remove.ensures.updates c.remove.ensures.entries

pub returns-else-is_empty_at : goal.returns-else-is_empty_at
returns-else-is_empty_at c = tidies_nothing c.args.places.now.entries c.args.k.now (search rules)
