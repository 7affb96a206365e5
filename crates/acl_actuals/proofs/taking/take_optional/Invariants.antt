use Rattle.std.specs.Prelude.{◌≡◌, ◌≤◌, ◌++◌, length, drop}
use Rattle.acl_heap.specs.Objects.{Lies}
use Rattle.model_expansion.specs.Expansion.{all_optional_values}
use Rattle.acl_actuals.specs.Values.{words_at, words_reach, IsList, items_at, optionals_at, defaults_reach}
use Rattle.acl_actuals.proofs.taking.take_optional.Given as goal

abbrev pub invariant-formals : goal.invariant-formals
invariant-formals l = record {
  lies : Lies l.heap l.at;
  list : IsList l.heap l.at;
  reach : words_reach l.values ≤ length l.heap;
  defaults : defaults_reach l.rest ≤ length l.heap;
  same : words_at l.heap l.initial.values ++ all_optional_values (optionals_at l.heap l.formals) (items_at l.heap l.fn.list)
      ≡ words_at l.heap l.values ++ all_optional_values (optionals_at l.heap l.rest) (items_at l.heap l.at);
  left : drop (length l.formals) (items_at l.heap l.fn.list) ≡ drop (length l.rest) (items_at l.heap l.at);
}

abbrev pub decreases-formals : goal.decreases-formals
decreases-formals l = length l.rest
