use Rattle.std.proofs.Common.{◌≡◌, drop}
use Rattle.model_terms.specs.Nested.{have_parent}
use Rattle.acl_terms.specs.Signatures.{seen_scope}
use Rattle.acl_worlds.specs.Contents.{seen_world}
use Rattle.acl_nest.specs.Bindings.{seen_children}
use Rattle.acl_nest.proofs.children.have_parent.Given as goal

abbrev pub invariant-loop-child : goal.invariant-loop-child
invariant-loop-child l =
    have_parent (seen_world l.heap l.world) (seen_scope l.scope) l.parent.0 (seen_children l.children)
    ≡ have_parent (seen_world l.heap l.world) (seen_scope l.scope) l.parent.0 (seen_children (drop l.child-index l.children))
