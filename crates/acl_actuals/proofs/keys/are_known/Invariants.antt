use Rattle.std.specs.Prelude.{◌≡◌, ◌≤◌, length}
use Rattle.acl_actuals.specs.Values.{optionals_at, pairs_at, pairs_reach, all_known}
use Rattle.acl_actuals.proofs.keys.are_known.Given as goal

abbrev pub invariant-pairs : goal.invariant-pairs
invariant-pairs l = record {
  reach : pairs_reach l.rest ≤ length l.heap;
  same : all_known l.syms.symbols (optionals_at l.heap l.formals) (pairs_at l.heap l.pairs) ≡ all_known l.syms.symbols (optionals_at l.heap l.formals) (pairs_at l.heap l.rest);
}

abbrev pub decreases-pairs : goal.decreases-pairs
decreases-pairs l = length l.rest
