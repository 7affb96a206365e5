use Rattle.std.specs.Prelude.{◌≡◌, length}
use Rattle.model_stobjs.specs.Answers.{first_given}
use Rattle.model_stobjs.specs.Heads.{bad_name_at}
use Rattle.acl_stobj_read.specs.Written.{renamed_names}
use Rattle.acl_stobj_read.proofs.names.bad_renamed.Given as goal

abbrev pub invariant-names : goal.invariant-names
invariant-names l = first_given (bad_name_at l.syms.symbols) (renamed_names l.renaming) ≡ first_given (bad_name_at l.syms.symbols) (renamed_names l.rest)

abbrev pub decreases-names : goal.decreases-names
decreases-names l = length l.rest
