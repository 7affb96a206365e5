use Rattle.std.specs.Prelude.{◌≡◌, ◌++◌, length}
use Rattle.acl_terms.specs.Forms.{numbers}
use Rattle.acl_stobj.specs.MadeFields.{names_in}
use Rattle.acl_stobj.proofs.refusing.push_made.Given as goal

abbrev pub invariant-fields : goal.invariant-fields
invariant-fields l = numbers l.names ++ names_in l.rest ≡ numbers l.fn.names ++ names_in l.fields

abbrev pub decreases-fields : goal.decreases-fields
decreases-fields l = length l.rest
