use Rattle.std.specs.Prelude.{◌≡◌, ◌++◌, length}
use Rattle.acl_enter_stobj.specs.Laid.{fields_laid}
use Rattle.acl_enter_stobj.proofs.laying.laid.Given as goal

abbrev pub invariant-fields : goal.invariant-fields
invariant-fields l = l.all.items ++ fields_laid l.world l.rest ≡ fields_laid l.world l.fields

abbrev pub decreases-fields : goal.decreases-fields
decreases-fields l = length l.rest
