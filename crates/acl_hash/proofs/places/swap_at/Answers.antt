use Rattle.std.proofs.Common.{arith, subst, Some}
use Rattle.acl_hash.specs.Places.{Changes}
use Rattle.acl_hash.proofs.PlaceLemmas.{changes_write, few}
use Rattle.acl_hash.proofs.places.swap_at.Goals as goal

pub returns-clause-changes : goal.returns-clause-changes
returns-clause-changes c =
    let new = c.get_mut.follows.lender c.replace.new.dest in
    subst (λ w. Changes c.args.places.now.entries new.entries c.args.k.now (Some w)) c.replace.ensures.after
    (changes_write c.args.places.now new c.args.k.now c.replace.new.dest (c.get_mut.follows.holds c.replace.new.dest) c.requires)

pub returns-clause-few : goal.returns-clause-few
returns-clause-few c = few c.args.places.now.entries (omega (arith, c.len-count.ensures.len, c.len-count.ensures.small))
