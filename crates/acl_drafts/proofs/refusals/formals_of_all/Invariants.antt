use Rattle.std.specs.Prelude.{◌≡◌, ◌≤◌, length}
use Rattle.acl_drafts.specs.Functions.{seen_functions, functions_reach}
use Rattle.acl_drafts.specs.Refusals.{formals_refusal}
use Rattle.acl_drafts.proofs.refusals.formals_of_all.Given as goal

abbrev pub invariant-functions : goal.invariant-functions
invariant-functions l = record {
  lies : functions_reach l.rest ≤ length l.heap;
  same : formals_refusal l.syms.symbols (seen_functions l.heap l.functions) ≡ formals_refusal l.syms.symbols (seen_functions l.heap l.rest);
}

abbrev pub decreases-functions : goal.decreases-functions
decreases-functions l = length l.rest
