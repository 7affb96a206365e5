use Rattle.std.specs.Prelude.{length}
use Rattle.acl_stobj_read.specs.Written.{seen_renaming}
use Rattle.acl_stobj.specs.Fields.{IsMaking}
use Rattle.acl_stobj.proofs.fields.make_fields.Given as goal

abbrev pub invariant-fields : goal.invariant-fields
invariant-fields l = IsMaking l.heap (seen_renaming l.renaming) l.fn.syms l.syms l.fields l.rest l.made

abbrev pub decreases-fields : goal.decreases-fields
decreases-fields l = length l.rest
