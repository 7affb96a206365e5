use Rattle.std.specs.Prelude.{◌≡◌, ◌≤◌, ◌++◌, length}
use Rattle.model_objects.specs.Object.{weight}
use Rattle.model_stobjs.specs.Descriptors.{before_first, from_first}
use Rattle.model_events.specs.Macros.{is_mark}
use Rattle.acl_heap.specs.Objects.{object_of, Lies}
use Rattle.acl_layers.specs.Lists.{items_along}
use Rattle.acl_declare.specs.Said.{words_at, words_reach}
use Rattle.acl_macros.proofs.sections.words_before.Given as goal

abbrev pub invariant-formals : goal.invariant-formals
invariant-formals l = record {
  lies : Lies l.heap l.rest;
  reach : words_reach l.found ≤ length l.heap;
  same : before_first is_mark (items_along (object_of l.heap l.fn.list)) ≡ words_at l.heap l.found ++ before_first is_mark (items_along (object_of l.heap l.rest));
  behind : from_first is_mark (items_along (object_of l.heap l.fn.list)) ≡ from_first is_mark (items_along (object_of l.heap l.rest));
}

abbrev pub decreases-formals : goal.decreases-formals
decreases-formals l = weight (object_of l.heap l.rest)
