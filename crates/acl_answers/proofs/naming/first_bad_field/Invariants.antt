use Rattle.std.proofs.Common.{◌≡◌, drop}
use Rattle.model_output_so_far.specs.Events.{first_bad, names_of}
use Rattle.acl_commands.specs.Views.{field_views}
use Rattle.acl_answers.proofs.naming.first_bad_field.Given as goal

abbrev pub invariant-loop-field : goal.invariant-loop-field
invariant-loop-field l = first_bad (names_of (field_views l.syms (drop l.field-index l.fields))) ≡ first_bad (names_of (field_views l.syms l.fields))
