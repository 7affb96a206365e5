use Rattle.std.specs.Prelude.{◌≡◌}
use Rattle.model_objects.specs.Object.{weight}
use Rattle.model_expansion.specs.Forms.{each}
use Rattle.model_events.specs.Declarations.{declared_formal}
use Rattle.acl_heap.specs.Objects.{object_of, Lies}
use Rattle.acl_terms.specs.Forms.{numbers}
use Rattle.acl_layers.specs.Lists.{items_along}
use Rattle.acl_layers.proofs.EachLemmas.{after}
use Rattle.acl_declare.proofs.typed.formals_along.Given as goal

abbrev pub invariant-names : goal.invariant-names
invariant-names l = record {
  lies : Lies l.heap l.at;
  same : each (declared_formal l.syms.symbols l.table) (items_along (object_of l.heap l.fn.list)) ≡ after (numbers l.found) (each (declared_formal l.syms.symbols l.table) (items_along (object_of l.heap l.at)));
}

abbrev pub decreases-names : goal.decreases-names
decreases-names l = weight (object_of l.heap l.at)
