use Rattle.std.proofs.Common.{◌≡◌, drop}
use Rattle.model_terms.specs.Nested.{bind_twice}
use Rattle.acl_nest.specs.Bindings.{seen_children}
use Rattle.acl_nest.proofs.children.bind_twice.Given as goal

abbrev pub invariant-loop-i : goal.invariant-loop-i
invariant-loop-i l = bind_twice (seen_children l.children) ≡ bind_twice (seen_children (drop l.i l.children))
