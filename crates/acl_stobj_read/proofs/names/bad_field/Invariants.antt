use Rattle.std.specs.Prelude.{◌≡◌, length}
use Rattle.model_stobjs.specs.Answers.{first_given}
use Rattle.model_stobjs.specs.Heads.{bad_name_at}
use Rattle.acl_stobj_read.specs.Written.{field_names}
use Rattle.acl_stobj_read.proofs.names.bad_field.Given as goal

abbrev pub invariant-fields : goal.invariant-fields
invariant-fields l = first_given (bad_name_at l.syms.symbols) (field_names l.fields) ≡ first_given (bad_name_at l.syms.symbols) (field_names l.rest)

abbrev pub decreases-fields : goal.decreases-fields
decreases-fields l = length l.rest
