use Rattle.std.specs.Prelude.{◌≡◌, ◌++◌, length}
use Rattle.acl_stobj.proofs.refusing.push_all.Given as goal

abbrev pub invariant-names : goal.invariant-names
invariant-names l = l.names ++ l.rest ≡ l.fn.names ++ l.more

abbrev pub decreases-names : goal.decreases-names
decreases-names l = length l.rest
