use Rattle.std.specs.Prelude.{◌≡◌, [], length}
use Rattle.model_events.specs.Declarations.{repeated_among}
use Rattle.acl_terms.specs.Forms.{numbers}
use Rattle.acl_declare.proofs.table.repeated.Given as goal

abbrev pub invariant-names : goal.invariant-names
invariant-names l = repeated_among [] (numbers l.names) ≡ repeated_among l.table (numbers l.rest)

abbrev pub decreases-names : goal.decreases-names
decreases-names l = length l.rest
