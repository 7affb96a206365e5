use Rattle.std.specs.Prelude.{◌≡◌}
use Rattle.model_objects.specs.Object.{weight}
use Rattle.acl_heap.specs.Objects.{object_of, Lies}
use Rattle.acl_layers.specs.Lists.{items_along}
use Rattle.acl_stobj_read.specs.Keys.{key_name, value_along}
use Rattle.acl_stobj_read.proofs.keys.key_value.Given as goal

abbrev pub invariant-pairs : goal.invariant-pairs
invariant-pairs l = record {
  lies : Lies l.heap l.at;
  same : value_along l.syms.symbols (key_name l.key) (items_along (object_of l.heap l.fn.list)) ≡ value_along l.syms.symbols (key_name l.key) (items_along (object_of l.heap l.at));
}

abbrev pub decreases-pairs : goal.decreases-pairs
decreases-pairs l = weight (object_of l.heap l.at)
