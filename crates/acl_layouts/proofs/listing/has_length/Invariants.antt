use Rattle.std.specs.Prelude.{◌≡◌, ◌+◌}
use Rattle.model_prims.specs.Lists.{len}
use Rattle.acl_heap.specs.Objects.{object_of, Lies}
use Rattle.acl_layouts.proofs.listing.has_length.Given as goal

abbrev pub invariant-loop : goal.invariant-loop
invariant-loop l = record {
  lies : Lies l.heap l.rest;
  long : len (object_of l.heap l.rest) + l.counter ≡ len (object_of l.heap l.fn.list);
}
