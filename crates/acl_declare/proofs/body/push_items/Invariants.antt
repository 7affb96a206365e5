use Rattle.std.specs.Prelude.{◌≡◌, ◌≤◌, ◌++◌, length}
use Rattle.model_objects.specs.Object.{weight}
use Rattle.acl_heap.specs.Objects.{object_of, Lies}
use Rattle.acl_layers.specs.Lists.{items_along}
use Rattle.acl_declare.specs.Said.{words_at, words_reach}
use Rattle.acl_declare.proofs.body.push_items.Given as goal

abbrev pub invariant-items : goal.invariant-items
invariant-items l = record {
  lies : Lies l.heap l.at;
  reach : words_reach l.items ≤ length l.heap;
  same : words_at l.heap l.fn.items ++ items_along (object_of l.heap l.fn.list) ≡ words_at l.heap l.items ++ items_along (object_of l.heap l.at);
}

abbrev pub decreases-items : goal.decreases-items
decreases-items l = weight (object_of l.heap l.at)
