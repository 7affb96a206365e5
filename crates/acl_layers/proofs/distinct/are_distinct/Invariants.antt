use Rattle.std.specs.Prelude.{◌≡◌, length}
use Rattle.model_expansion.specs.Forms.{are_different}
use Rattle.acl_terms.specs.Forms.{numbers}
use Rattle.acl_layers.proofs.DistinctLemmas.{apart_from}
use Rattle.acl_layers.proofs.distinct.are_distinct.Given as goal

abbrev pub invariant-names : goal.invariant-names
invariant-names l = are_different (numbers l.names) ≡ apart_from l.earlier (numbers l.rest)

abbrev pub decreases-names : goal.decreases-names
decreases-names l = length l.rest
