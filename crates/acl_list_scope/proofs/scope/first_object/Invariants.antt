use Rattle.std.proofs.Common.{◌≡◌, drop}
use Rattle.model_eval.specs.Variables.{first_stobj}
use Rattle.acl_heap.specs.Objects.{Objects}
use Rattle.acl_keep.specs.Seen.{all_seen}
use Rattle.acl_list_scope.proofs.scope.first_object.Given as goal

abbrev pub invariant-loop-i : goal.invariant-loop-i
invariant-loop-i l = (h : Objects) → first_stobj (all_seen h (drop l.i l.actuals)) ≡ first_stobj (all_seen h l.actuals)
