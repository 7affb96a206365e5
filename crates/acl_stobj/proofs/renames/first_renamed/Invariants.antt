use Rattle.std.specs.Prelude.{length}
use Rattle.acl_stobj.proofs.RenameLemmas.{IsEntered}
use Rattle.acl_stobj.proofs.renames.first_renamed.Given as goal

abbrev pub invariant-pairs : goal.invariant-pairs
invariant-pairs l = IsEntered l.first l.rest l.renaming

abbrev pub decreases-pairs : goal.decreases-pairs
decreases-pairs l = length l.rest
