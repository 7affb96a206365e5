use Rattle.std.specs.Prelude.{◌≡◌, ◌≤◌, length}
use Rattle.model_objects.specs.Object.{weight}
use Rattle.model_events.specs.Declarations.{items_and_body}
use Rattle.acl_heap.specs.Objects.{object_of, Lies}
use Rattle.acl_layers.specs.Lists.{items_along}
use Rattle.acl_declare.specs.Said.{words_at, words_reach}
use Rattle.acl_declare.specs.Bodies.{after_items}
use Rattle.acl_declare.proofs.body.items_and_body.Given as goal

abbrev pub invariant-forms : goal.invariant-forms
invariant-forms l = record {
  lies : Lies l.heap l.at;
  reach : words_reach l.items ≤ length l.heap;
  same : items_and_body (items_along (object_of l.heap l.fn.list)) ≡ after_items (words_at l.heap l.items) (items_and_body (items_along (object_of l.heap l.at)));
}

abbrev pub decreases-forms : goal.decreases-forms
decreases-forms l = weight (object_of l.heap l.at)
