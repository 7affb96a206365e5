use Rattle.std.specs.List.{list_any}
use Rattle.std.proofs.Common.{◌≡◌, drop}
use Rattle.model_terms.specs.Nested.{same_child}
use Rattle.acl_nest.specs.Bindings.{seen_child, seen_children}
use Rattle.acl_nest.proofs.children.bound_again.Given as goal

abbrev pub invariant-loop-child : goal.invariant-loop-child
invariant-loop-child l =
    list_any (same_child (seen_child l.first)) (seen_children l.children) ≡ list_any (same_child (seen_child l.first)) (seen_children (drop l.child-index l.children))
