use Rattle.std.proofs.Common.{◌≡◌, drop}
use Rattle.model_terms.specs.Nested.{same_kinds}
use Rattle.acl_terms.specs.Signatures.{seen_outs}
use Rattle.acl_nest.proofs.kinds.same_kinds.Given as goal

abbrev pub invariant-loop-i : goal.invariant-loop-i
invariant-loop-i l = same_kinds (seen_outs l.first) (seen_outs l.second) ≡ same_kinds (seen_outs (drop l.i l.first)) (seen_outs (drop l.i l.second))
