use Rattle.std.specs.Prelude.{◌≡◌, ◌≤◌, length}
use Rattle.model_stobjs.specs.Heads.{bad_name}
use Rattle.acl_drafts.specs.Functions.{functions_reach}
use Rattle.acl_drafts.specs.Names.{names_at}
use Rattle.acl_drafts.proofs.refusals.bad_name.Given as goal

abbrev pub invariant-functions : goal.invariant-functions
invariant-functions l = record {
  lies : functions_reach l.rest ≤ length l.heap;
  same : bad_name l.syms.symbols (names_at l.heap l.functions) ≡ bad_name l.syms.symbols (names_at l.heap l.rest);
}

abbrev pub decreases-functions : goal.decreases-functions
decreases-functions l = length l.rest
