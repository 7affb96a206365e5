use Rattle.std.proofs.Common.{◌≡◌, ◌++◌, map, drop}
use Rattle.model_output_so_far.specs.Commands.{actual_of}
use Rattle.acl_forms.specs.Forms.{forms_at, AreWhole}
use Rattle.acl_commands.specs.Views.{actual_views}
use Rattle.acl_commands.specs.Whole.{AreWholeActuals}
use Rattle.acl_commands.proofs.actuals_of.Given as goal

abbrev pub invariant-loop-form : goal.invariant-loop-form
invariant-loop-form l = record {
  left : AreWhole l.syms l.heap (drop l.form-index l.forms);
  done : AreWholeActuals l.syms l.heap l.actuals.items;
  same : actual_views l.syms l.heap l.actuals.items ++ map actual_of (forms_at l.syms l.heap (drop l.form-index l.forms)) ≡ map actual_of (forms_at l.syms l.heap l.forms);
}
