use Rattle.model_terms.specs.Cores as cores
use Rattle.model_terms.specs.Nested.{bound_children}
use Rattle.acl_terms.specs.Forms.{bound_names, seen_bound}
use Rattle.acl_worlds.specs.Contents.{seen_world}
use Rattle.acl_nest.specs.Bindings.{plain_children, seen_children}
use Rattle.acl_nest.proofs.BindingLemmas.{FoundSoFar}
use Rattle.acl_nest.proofs.bindings.bound_children.Given as goal

abbrev pub invariant-loop-binding : goal.invariant-loop-binding
invariant-loop-binding l =
    FoundSoFar (plain_children (bound_children (seen_world l.heap l.world) (bound_names l.bindings) (cores.cores (seen_bound l.heap l.bindings)))) (seen_world l.heap l.world) l.heap l.bindings l.binding-index (seen_children l.found)
