use Rattle.std.specs.Prelude.{◌≡◌, is_some, map}
use Rattle.model_objects.specs.Object.{weight}
use Rattle.model_stobjs.specs.Keys.{keys_in}
use Rattle.acl_heap.specs.Objects.{object_of, Lies}
use Rattle.acl_layers.specs.Lists.{items_along}
use Rattle.acl_stobj_read.specs.Keys.{key_name}
use Rattle.acl_stobj_read.proofs.keys.are_keys.Given as goal

abbrev pub invariant-pairs : goal.invariant-pairs
invariant-pairs l = record {
  lies : Lies l.heap l.at;
  same : is_some (keys_in l.syms.symbols (map key_name l.known) (items_along (object_of l.heap l.fn.list))) ≡ is_some (keys_in l.syms.symbols (map key_name l.known) (items_along (object_of l.heap l.at)));
}

abbrev pub decreases-pairs : goal.decreases-pairs
decreases-pairs l = weight (object_of l.heap l.at)
