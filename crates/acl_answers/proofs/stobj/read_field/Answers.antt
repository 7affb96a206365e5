use Rattle.std.proofs.Common.{◌∙◌}
use Rattle.acl_answers.proofs.StobjLemmas.{read_position}
use Rattle.acl_answers.proofs.stobj.read_field.Goals as goal

pub returns-clause-is : goal.returns-clause-is
returns-clause-is c = c.reader_place.ensures.is ∙ read_position c.args.syms.now c.is_table.ensures c.args.f c.requires.f c.args.fields.now c.requires.fields
