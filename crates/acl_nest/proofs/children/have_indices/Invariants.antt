use Rattle.std.proofs.Common.{◌≡◌, drop}
use Rattle.model_terms.specs.Nested.{have_indices}
use Rattle.acl_terms.specs.Forms.{numbers}
use Rattle.acl_terms.specs.Signatures.{seen_scope}
use Rattle.acl_nest.specs.Bindings.{seen_children}
use Rattle.acl_nest.proofs.children.have_indices.Given as goal

abbrev pub invariant-loop-child : goal.invariant-loop-child
invariant-loop-child l =
    have_indices (seen_scope l.scope) (numbers l.vars) (seen_children l.children) ≡ have_indices (seen_scope l.scope) (numbers l.vars) (seen_children (drop l.child-index l.children))
