use Rattle.std.specs.Prelude.{◌≡◌, length}
use Rattle.model_terms.specs.Classes.{has}
use Rattle.acl_stobj.proofs.in_use.is_among.Given as goal

abbrev pub invariant-heads : goal.invariant-heads
invariant-heads l = has l.heads l.s ≡ has l.rest l.s

abbrev pub decreases-heads : goal.decreases-heads
decreases-heads l = length l.rest
