use Rattle.std.specs.Prelude.{◌≡◌, ◌++◌, length, map}
use Rattle.acl_candidates.specs.Names.{named}
use Rattle.acl_candidates.proofs.naming.named_entries.Given as goal

abbrev pub invariant-drafts : goal.invariant-drafts
invariant-drafts l = l.entries.items ++ map named l.rest ≡ map named l.drafts

abbrev pub decreases-drafts : goal.decreases-drafts
decreases-drafts l = length l.rest
