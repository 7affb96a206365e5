use Rattle.std.specs.Prelude.{◌≡◌, ◌≤◌, length}
use Rattle.model_objects.specs.Object.{weight}
use Rattle.model_expansion.specs.Forms.{each_of}
use Rattle.model_events.specs.Functions.{headed_function}
use Rattle.acl_heap.specs.Objects.{object_of, Lies}
use Rattle.acl_layers.proofs.EachLemmas.{after}
use Rattle.acl_drafts.specs.Functions.{seen_functions, functions_reach}
use Rattle.acl_drafts.proofs.shapes.functions_of.Given as goal

abbrev pub invariant-items : goal.invariant-items
invariant-items l = record {
  lies : Lies l.heap l.rest;
  reach : functions_reach l.found ≤ length l.heap;
  same : each_of headed_function (object_of l.heap l.fn.list) ≡ after (seen_functions l.heap l.found) (each_of headed_function (object_of l.heap l.rest));
}

abbrev pub decreases-items : goal.decreases-items
decreases-items l = weight (object_of l.heap l.rest)
