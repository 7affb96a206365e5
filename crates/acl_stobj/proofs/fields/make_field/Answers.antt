use Rattle.acl_terms.specs.Definitions.{seen_shape}
use Rattle.acl_terms.specs.Forms.{numbers}
use Rattle.acl_stobj_read.specs.Written.{seen_renaming}
use Rattle.acl_stobj.proofs.FieldLemmas.{field_made}
use Rattle.acl_stobj.proofs.fields.make_field.Goals as goal

pub returns-clause-ok : goal.returns-clause-ok
returns-clause-ok c =
    field_made (seen_renaming c.args.renaming.now) c.args.syms.now c.args.field.now.written.name.0 (seen_shape c.args.heap.now c.args.field.now.shape) c.purposes.result.now (numbers c.in_ok-made.made) c.make_names.new.syms c.purposes.ensures c.in_ok-made.ensures.ok
