use Rattle.std.proofs.Common.{sym, ◌∙◌}
use Rattle.acl_heap.specs.Objects.{object_of}
use Rattle.acl_drafts.proofs.ShapeLemmas.{function_bad}
use Rattle.acl_drafts.proofs.shapes.written_function.Goals as goal

pub returns-then-not-is_true_list : goal.returns-then-not-is_true_list
returns-then-not-is_true_list c = function_bad c.args.executable (object_of c.args.heap.now c.args.d) (sym c.is_true_list.ensures ∙ c.if-not-is_true_list.true)
