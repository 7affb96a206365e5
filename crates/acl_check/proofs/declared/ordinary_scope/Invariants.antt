use Rattle.std.proofs.Common.{◌≡◌, ◌++◌, drop}
use Rattle.model_terms.specs.Faults.{ordinary_scope}
use Rattle.acl_terms.specs.Forms.{numbers}
use Rattle.acl_terms.specs.Signatures.{seen_scope}
use Rattle.acl_check.proofs.declared.ordinary_scope.Given as goal

abbrev pub invariant-loop-name : goal.invariant-loop-name
invariant-loop-name l = ordinary_scope (numbers l.names) ≡ seen_scope l.scope ++ ordinary_scope (numbers (drop l.name-index l.names))
