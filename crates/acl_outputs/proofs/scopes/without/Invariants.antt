use Rattle.std.proofs.Common.{◌≡◌, ◌++◌, drop}
use Rattle.model_terms.specs.Scopes.{without}
use Rattle.acl_terms.specs.Forms.{numbers}
use Rattle.acl_terms.specs.Signatures.{seen_scope}
use Rattle.acl_outputs.proofs.scopes.without.Given as goal

abbrev pub invariant-loop-entry : goal.invariant-loop-entry
invariant-loop-entry l =
    without (numbers l.names) (seen_scope l.entry-items) ≡ seen_scope l.rest ++ without (numbers l.names) (seen_scope (drop l.entry-index l.entry-items))
