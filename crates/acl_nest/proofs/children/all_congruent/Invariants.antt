use Rattle.std.specs.List.{list_all}
use Rattle.std.proofs.Common.{◌≡◌, drop}
use Rattle.model_terms.specs.Classes.{congruent}
use Rattle.model_terms.specs.Nested as nested
use Rattle.model_terms.specs.Nested.{child_stobj}
use Rattle.acl_worlds.specs.Contents.{seen_world}
use Rattle.acl_nest.specs.Bindings.{seen_children}
use Rattle.acl_nest.proofs.children.all_congruent.Given as goal

abbrev pub invariant-loop-child : goal.invariant-loop-child
invariant-loop-child l =
    list_all (λ (b : nested.BoundChild). congruent (seen_world l.heap l.world) (child_stobj b.accessor.holds) b.name) (seen_children l.children)
    ≡ list_all (λ (b : nested.BoundChild). congruent (seen_world l.heap l.world) (child_stobj b.accessor.holds) b.name) (seen_children (drop l.child-index l.children))
