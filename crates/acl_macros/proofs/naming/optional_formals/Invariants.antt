use Rattle.std.specs.Prelude.{◌≡◌, ◌≤◌, ◌++◌, length, map}
use Rattle.model_events.specs.Macros.{optional_formal}
use Rattle.acl_macros.specs.Written.{seen_optionals, optionals_reach}
use Rattle.acl_macros.specs.Drafts.{named_formals, defaults_reach}
use Rattle.acl_macros.proofs.naming.optional_formals.Given as goal

abbrev pub invariant-formals : goal.invariant-formals
invariant-formals l = record {
  lies : optionals_reach l.rest ≤ length l.heap;
  reach : defaults_reach l.named ≤ length l.heap;
  same : map optional_formal (seen_optionals l.heap l.formals) ≡ named_formals l.heap l.named ++ map optional_formal (seen_optionals l.heap l.rest);
}

abbrev pub decreases-formals : goal.decreases-formals
decreases-formals l = length l.rest
