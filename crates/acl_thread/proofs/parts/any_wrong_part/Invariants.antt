use Rattle.std.proofs.Common.{◌≡◌, drop}
use Rattle.model_terms.specs.Cores as cores
use Rattle.model_terms.specs.Rules.{any_wrong_part}
use Rattle.acl_terms.specs.Forms.{seen_cores}
use Rattle.acl_terms.specs.Signatures.{seen_outs}
use Rattle.acl_thread.proofs.parts.any_wrong_part.Given as goal

abbrev pub invariant-loop-i : goal.invariant-loop-i
invariant-loop-i l =
    any_wrong_part (seen_outs l.kinds) (cores.cores (seen_cores l.heap l.parts))
    ≡ any_wrong_part (seen_outs (drop l.i l.kinds)) (cores.cores (seen_cores l.heap (drop l.i l.parts)))
