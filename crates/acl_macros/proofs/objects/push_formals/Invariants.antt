use Rattle.std.specs.Prelude.{◌≡◌, ◌≤◌, ◌++◌, length}
use Rattle.model_events.specs.Macros.{optional_objects}
use Rattle.acl_declare.specs.Said.{words_at, words_reach}
use Rattle.acl_macros.specs.Written.{seen_optionals, optionals_reach}
use Rattle.acl_macros.proofs.objects.push_formals.Given as goal

abbrev pub invariant-formals : goal.invariant-formals
invariant-formals l = record {
  lies : optionals_reach l.rest ≤ length l.heap;
  reach : words_reach l.all ≤ length l.heap;
  same : words_at l.heap l.fn.all ++ optional_objects (seen_optionals l.heap l.formals) ≡ words_at l.heap l.all ++ optional_objects (seen_optionals l.heap l.rest);
}

abbrev pub decreases-formals : goal.decreases-formals
decreases-formals l = length l.rest
