use Rattle.std.specs.Prelude.{◌≡◌, length}
use Rattle.model_expansion.specs.Expansion.{is_known_key}
use Rattle.acl_heap.specs.Objects.{object_of}
use Rattle.acl_actuals.specs.Values.{optionals_at}
use Rattle.acl_actuals.proofs.keys.is_known.Given as goal

abbrev pub invariant-formals : goal.invariant-formals
invariant-formals l = is_known_key l.syms.symbols (optionals_at l.heap l.formals) (object_of l.heap l.key) ≡ is_known_key l.syms.symbols (optionals_at l.heap l.rest) (object_of l.heap l.key)

abbrev pub decreases-formals : goal.decreases-formals
decreases-formals l = length l.rest
