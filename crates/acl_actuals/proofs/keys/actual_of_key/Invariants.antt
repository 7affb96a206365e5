use Rattle.std.specs.Prelude.{◌≡◌, ◌≤◌, length}
use Rattle.model_expansion.specs.Expansion.{actual_of_key}
use Rattle.acl_terms.specs.Definitions.{seen_optional}
use Rattle.acl_actuals.specs.Values.{pairs_at, pairs_reach}
use Rattle.acl_actuals.proofs.keys.actual_of_key.Given as goal

abbrev pub invariant-pairs : goal.invariant-pairs
invariant-pairs l = record {
  reach : pairs_reach l.rest ≤ length l.heap;
  same : actual_of_key l.syms.symbols (pairs_at l.heap l.pairs) (seen_optional l.heap l.formal) ≡ actual_of_key l.syms.symbols (pairs_at l.heap l.rest) (seen_optional l.heap l.formal);
}

abbrev pub decreases-pairs : goal.decreases-pairs
decreases-pairs l = length l.rest
