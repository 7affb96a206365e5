use Rattle.std.proofs.Common.{◌≡◌, ◌++◌, drop}
use Rattle.model_terms.specs.Cores as cores
use Rattle.model_terms.specs.Outputs.{part_kinds}
use Rattle.acl_terms.specs.Forms.{seen_cores}
use Rattle.acl_terms.specs.Signatures.{seen_outs, seen_scope}
use Rattle.acl_outputs.proofs.parts.part_kinds.Given as goal

abbrev pub invariant-loop-part : goal.invariant-loop-part
invariant-loop-part l =
    part_kinds (seen_scope l.scope) (cores.cores (seen_cores l.heap l.parts)) ≡ seen_outs l.kinds ++ part_kinds (seen_scope l.scope) (cores.cores (seen_cores l.heap (drop l.part-index l.parts)))
