use Rattle.std.specs.Prelude.{◌≡◌, ◌≤◌, ◌++◌, length}
use Rattle.model_stobjs.specs.Answers.{first_given}
use Rattle.model_events.specs.Functions.{bad_declaration, drafts_of}
use Rattle.acl_heap.specs.Objects.{Extends}
use Rattle.acl_drafts.specs.Functions.{seen_functions, functions_reach}
use Rattle.acl_drafts.specs.Drafts.{seen_drafts, drafts_reach}
use Rattle.acl_drafts.proofs.drafts.drafts_of.Given as goal

abbrev pub invariant-functions : goal.invariant-functions
invariant-functions l = record {
  grows : Extends l.fn.heap l.heap;
  lies : functions_reach l.rest ≤ length l.fn.heap;
  reach : drafts_reach l.drafts ≤ length l.heap;
  right : first_given (bad_declaration l.syms.symbols) (seen_functions l.fn.heap l.functions) ≡ first_given (bad_declaration l.syms.symbols) (seen_functions l.fn.heap l.rest);
  same : drafts_of l.syms.symbols (seen_functions l.fn.heap l.functions) ≡ seen_drafts l.heap l.drafts ++ drafts_of l.syms.symbols (seen_functions l.fn.heap l.rest);
}

abbrev pub decreases-functions : goal.decreases-functions
decreases-functions l = length l.rest
