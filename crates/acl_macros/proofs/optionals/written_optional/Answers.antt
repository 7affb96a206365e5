use Rattle.std.proofs.Common.{sym, ◌∙◌}
use Rattle.acl_heap.specs.Objects.{object_of}
use Rattle.acl_macros.proofs.OptionalLemmas.{listed_bad}
use Rattle.acl_macros.proofs.optionals.written_optional.Goals as goal

pub returns-then-not-is_true_list : goal.returns-then-not-is_true_list
returns-then-not-is_true_list c = listed_bad (object_of c.args.heap.now c.args.x) _ _ c.in-Pair.ensures.sees.0 (sym c.is_true_list.ensures ∙ c.if-not-is_true_list.true)
