use Rattle.std.proofs.Common.{◌≡◌, drop}
use Rattle.model_output_so_far.specs.Calls.{constants}
use Rattle.acl_forms.specs.Forms.{forms_at, AreWhole}
use Rattle.acl_commands.specs.Views.{actual_views}
use Rattle.acl_commands.proofs.PartLemmas.{behind}
use Rattle.acl_answers.proofs.primitives.constants.Given as goal

abbrev pub invariant-loop-actual : goal.invariant-loop-actual
invariant-loop-actual l = record {
  words : AreWhole l.syms l.heap l.words.items;
  same : behind (forms_at l.syms l.heap l.words.items) (constants (actual_views l.syms l.heap (drop l.actual-index l.actuals))) ≡ constants (actual_views l.syms l.heap l.actuals);
}
