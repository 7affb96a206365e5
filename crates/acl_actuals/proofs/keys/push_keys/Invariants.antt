use Rattle.std.specs.Prelude.{◌≡◌, ◌≤◌, ◌++◌, length}
use Rattle.model_expansion.specs.Expansion.{all_key_values}
use Rattle.acl_actuals.specs.Values.{words_at, words_reach, optionals_at, defaults_reach, pairs_at}
use Rattle.acl_actuals.proofs.keys.push_keys.Given as goal

abbrev pub invariant-formals : goal.invariant-formals
invariant-formals l = record {
  reach : words_reach l.values ≤ length l.heap;
  defaults : defaults_reach l.rest ≤ length l.heap;
  same : words_at l.heap l.initial.values ++ all_key_values l.syms.symbols (optionals_at l.heap l.formals) (pairs_at l.heap l.pairs)
      ≡ words_at l.heap l.values ++ all_key_values l.syms.symbols (optionals_at l.heap l.rest) (pairs_at l.heap l.pairs);
}

abbrev pub decreases-formals : goal.decreases-formals
decreases-formals l = length l.rest
