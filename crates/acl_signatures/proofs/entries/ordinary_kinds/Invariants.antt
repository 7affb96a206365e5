use Rattle.std.specs.Prelude.{◌++◌, drop}
use Rattle.std.proofs.Common.{◌≡◌}
use Rattle.acl_terms.specs.Forms.{numbers}
use Rattle.acl_terms.specs.Signatures.{seen_outs}
use Rattle.acl_signatures.specs.Candidates.{ordinary_kinds}
use Rattle.acl_signatures.proofs.entries.ordinary_kinds.Given as goal

abbrev pub invariant-loop-formal : goal.invariant-loop-formal
invariant-loop-formal l = ordinary_kinds (numbers l.formals) ≡ seen_outs l.kinds ++ ordinary_kinds (numbers (drop l._formal-index l.formals))
