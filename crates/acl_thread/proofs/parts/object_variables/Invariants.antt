use Rattle.std.proofs.Common.{◌≡◌, ◌++◌, drop}
use Rattle.model_terms.specs.Cores as cores
use Rattle.acl_terms.specs.Forms.{numbers, seen_cores}
use Rattle.acl_terms.specs.Signatures.{seen_outs}
use Rattle.acl_thread.specs.Own.{object_variables}
use Rattle.acl_thread.proofs.parts.object_variables.Given as goal

abbrev pub invariant-loop-i : goal.invariant-loop-i
invariant-loop-i l =
    object_variables (seen_outs l.ins) (cores.cores (seen_cores l.heap l.actuals))
    ≡ numbers l.found ++ object_variables (seen_outs (drop l.i l.ins)) (cores.cores (seen_cores l.heap (drop l.i l.actuals)))
