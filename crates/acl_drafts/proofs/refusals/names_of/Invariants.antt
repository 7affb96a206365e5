use Rattle.std.specs.Prelude.{◌≡◌, ◌≤◌, ◌++◌, length}
use Rattle.acl_terms.specs.Forms.{numbers}
use Rattle.acl_drafts.specs.Functions.{functions_reach}
use Rattle.acl_drafts.specs.Names.{numbers_at}
use Rattle.acl_drafts.proofs.refusals.names_of.Given as goal

abbrev pub invariant-functions : goal.invariant-functions
invariant-functions l = record {
  lies : functions_reach l.rest ≤ length l.heap;
  same : numbers_at l.heap l.functions ≡ numbers l.names ++ numbers_at l.heap l.rest;
}

abbrev pub decreases-functions : goal.decreases-functions
decreases-functions l = length l.rest
