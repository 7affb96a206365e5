use Rattle.std.specs.Prelude.{◌≡◌, ◌++◌, length}
use Rattle.acl_terms.specs.Forms.{numbers}
use Rattle.acl_declare.proofs.table.table_of.Given as goal

abbrev pub invariant-names : goal.invariant-names
invariant-names l = numbers l.names ≡ l.table ++ numbers l.rest

abbrev pub decreases-names : goal.decreases-names
decreases-names l = length l.rest
