use Rattle.std.proofs.Common.{◌≡◌, drop}
use Rattle.model_output_so_far.specs.Commands.{fields_of}
use Rattle.acl_forms.specs.Forms.{forms_at, AreWhole}
use Rattle.acl_commands.specs.Views.{field_views}
use Rattle.acl_commands.specs.Whole.{AreKnownFields}
use Rattle.acl_commands.proofs.PartLemmas.{behind}
use Rattle.acl_commands.proofs.definitions.fields_of.Given as goal

abbrev pub invariant-loop-form : goal.invariant-loop-form
invariant-loop-form l = record {
  left : AreWhole l.syms l.heap (drop l.form-index l.forms);
  done : AreKnownFields l.syms l.fields.items;
  same : behind (field_views l.syms l.fields.items) (fields_of (forms_at l.syms l.heap (drop l.form-index l.forms))) ≡ fields_of (forms_at l.syms l.heap l.forms);
}
