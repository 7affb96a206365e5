use Rattle.model_terms.specs.Cores as cores
use Rattle.model_terms.specs.Outputs.{stobj_actuals, all_there}
use Rattle.acl_terms.specs.Forms.{numbers, seen_cores}
use Rattle.acl_terms.specs.Signatures.{seen_outs}
use Rattle.acl_outputs.proofs.PartLemmas.{ActualsSoFar}
use Rattle.acl_outputs.proofs.parts.stobj_actuals.Given as goal

abbrev pub invariant-loop-i : goal.invariant-loop-i
invariant-loop-i l = ActualsSoFar (all_there (stobj_actuals (seen_outs l.ins) (cores.cores (seen_cores l.heap l.parts)))) l.heap l.ins l.parts l.i (numbers l.found)
