use Rattle.std.specs.Prelude.{map}
use Rattle.std.proofs.Common.{◌≡◌, ◌++◌, drop}
use Rattle.model_terms.specs.Nested as nested
use Rattle.acl_terms.specs.Forms.{numbers}
use Rattle.acl_nest.specs.Bindings.{seen_children}
use Rattle.acl_nest.proofs.children.names_of.Given as goal

abbrev pub invariant-loop-child : goal.invariant-loop-child
invariant-loop-child l =
    map (λ (b : nested.BoundChild). b.name) (seen_children l.children) ≡ numbers l.names ++ map (λ (b : nested.BoundChild). b.name) (seen_children (drop l.child-index l.children))
