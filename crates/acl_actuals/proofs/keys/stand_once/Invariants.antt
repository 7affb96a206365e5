use Rattle.std.specs.Prelude.{◌≡◌, length}
use Rattle.acl_actuals.specs.Values.{optionals_at, pairs_at, all_once}
use Rattle.acl_actuals.proofs.keys.stand_once.Given as goal

abbrev pub invariant-formals : goal.invariant-formals
invariant-formals l = all_once l.syms.symbols (optionals_at l.heap l.formals) (pairs_at l.heap l.pairs) ≡ all_once l.syms.symbols (optionals_at l.heap l.rest) (pairs_at l.heap l.pairs)

abbrev pub decreases-formals : goal.decreases-formals
decreases-formals l = length l.rest
