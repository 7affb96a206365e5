use Rattle.std.specs.Prelude.{◌≡◌, ◌≤◌, length}
use Rattle.model_objects.specs.Object.{weight}
use Rattle.model_expansion.specs.Expansion.{key_pairs}
use Rattle.acl_heap.specs.Objects.{object_of, Lies}
use Rattle.acl_layers.proofs.EachLemmas.{after}
use Rattle.acl_actuals.specs.Values.{IsList, items_at, pairs_at, pairs_reach}
use Rattle.acl_actuals.proofs.keys.key_pairs.Given as goal

abbrev pub invariant-pairs : goal.invariant-pairs
invariant-pairs l = record {
  lies : Lies l.heap l.at;
  list : IsList l.heap l.at;
  reach : pairs_reach l.pairs ≤ length l.heap;
  same : key_pairs (items_at l.heap l.fn.list) ≡ after (pairs_at l.heap l.pairs) (key_pairs (items_at l.heap l.at));
}

abbrev pub decreases-pairs : goal.decreases-pairs
decreases-pairs l = weight (object_of l.heap l.at)
