use Rattle.std.specs.Prelude.{◌≡◌, ◌≤◌, ◌+◌, length}
use Rattle.model_expansion.specs.Expansion.{key_count}
use Rattle.acl_terms.specs.Definitions.{seen_optional}
use Rattle.acl_actuals.specs.Values.{pairs_at, pairs_reach}
use Rattle.acl_actuals.proofs.keys.stands_once.Given as goal

abbrev pub invariant-pairs : goal.invariant-pairs
invariant-pairs l = record {
  reach : pairs_reach l.rest ≤ length l.heap;
  few : l.found ≤ 1;
  same : key_count l.syms.symbols (seen_optional l.heap l.formal) (pairs_at l.heap l.pairs) ≡ l.found + key_count l.syms.symbols (seen_optional l.heap l.formal) (pairs_at l.heap l.rest);
}

abbrev pub decreases-pairs : goal.decreases-pairs
decreases-pairs l = length l.rest
