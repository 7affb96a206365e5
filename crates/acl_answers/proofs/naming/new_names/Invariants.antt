use Rattle.std.proofs.Common.{take}
use Rattle.acl_commands.specs.Views.{field_views}
use Rattle.acl_answers.specs.Making.{Makes, HasFields}
use Rattle.acl_answers.proofs.NewNameLemmas.{all_names}
use Rattle.acl_answers.proofs.naming.new_names.Given as goal

abbrev pub invariant-loop-field : goal.invariant-loop-field
invariant-loop-field l = record {
  makes : Makes l.fn.syms l.syms (all_names l.fn.syms l.fn.object (take l.field-index l.fields)) l.names.items;
  fields : HasFields l.syms (field_views l.fn.syms (take l.field-index l.fields)) l.made.items;
}
