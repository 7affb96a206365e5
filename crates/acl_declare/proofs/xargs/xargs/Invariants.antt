use Rattle.std.specs.Prelude.{◌≡◌, ◌≤◌, length}
use Rattle.model_objects.specs.Object.{weight}
use Rattle.model_events.specs.Declarations.{xargs_declared}
use Rattle.acl_heap.specs.Objects.{object_of, Lies}
use Rattle.acl_layers.specs.Lists.{items_along}
use Rattle.acl_declare.specs.Said.{seen_declared, declared_reach, after_said}
use Rattle.acl_declare.proofs.xargs.xargs.Given as goal

abbrev pub invariant-pairs : goal.invariant-pairs
invariant-pairs l = record {
  lies : Lies l.heap l.at;
  reach : declared_reach l.said ≤ length l.heap;
  same : after_said (seen_declared l.heap l.fn.said) (xargs_declared l.syms.symbols (items_along (object_of l.heap l.fn.list)))
      ≡ after_said (seen_declared l.heap l.said) (xargs_declared l.syms.symbols (items_along (object_of l.heap l.at)));
}

abbrev pub decreases-pairs : goal.decreases-pairs
decreases-pairs l = weight (object_of l.heap l.at)
