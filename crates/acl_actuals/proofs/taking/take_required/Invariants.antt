use Rattle.std.specs.Prelude.{◌≡◌, ◌≤◌, length}
use Rattle.acl_heap.specs.Objects.{Lies}
use Rattle.acl_terms.specs.Forms.{numbers}
use Rattle.model_expansion.specs.Expansion.{required_taken}
use Rattle.acl_actuals.specs.Values.{words_at, words_reach, IsList, items_at, prefixed}
use Rattle.acl_actuals.proofs.taking.take_required.Given as goal

abbrev pub invariant-formals : goal.invariant-formals
invariant-formals l = record {
  lies : Lies l.heap l.at;
  list : IsList l.heap l.at;
  reach : words_reach l.values ≤ length l.heap;
  same : required_taken (numbers l.formals) (items_at l.heap l.fn.list) ≡ prefixed (words_at l.heap l.values) (required_taken (numbers l.rest) (items_at l.heap l.at));
}

abbrev pub decreases-formals : goal.decreases-formals
decreases-formals l = length l.rest
