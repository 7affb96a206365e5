use Rattle.std.specs.Prelude.{◌≡◌, ◌≤◌, length}
use Rattle.model_objects.specs.Object.{weight}
use Rattle.model_expansion.specs.Forms.{each_of}
use Rattle.model_expansion.specs.Layers.{binding}
use Rattle.acl_heap.specs.Objects.{object_of, Lies}
use Rattle.acl_layers.specs.Lists.{seen_bindings, bindings_reach}
use Rattle.acl_layers.proofs.EachLemmas.{after}
use Rattle.acl_layers.proofs.binding_parts.bindings.Given as goal

abbrev pub invariant-items : goal.invariant-items
invariant-items l = record {
  lies : Lies l.heap l.rest;
  reach : bindings_reach l.found ≤ length l.heap;
  same : each_of (binding l.syms.symbols) (object_of l.heap l.fn.list) ≡ after (seen_bindings l.heap l.found) (each_of (binding l.syms.symbols) (object_of l.heap l.rest));
}

abbrev pub decreases-items : goal.decreases-items
decreases-items l = weight (object_of l.heap l.rest)
