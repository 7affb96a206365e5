use Rattle.std.specs.Prelude.{◌≡◌, option_and_then}
use Rattle.model_objects.specs.Object.{weight}
use Rattle.model_expansion.specs.Forms.{each_of, elements}
use Rattle.model_stobjs.specs.Descriptors.{two_symbols}
use Rattle.acl_heap.specs.Objects.{object_of, Lies}
use Rattle.acl_layers.proofs.EachLemmas.{after}
use Rattle.acl_stobj_read.specs.Written.{seen_renaming}
use Rattle.acl_stobj_read.proofs.reading.pairs_of.Given as goal

abbrev pub invariant-items : goal.invariant-items
invariant-items l = record {
  lies : Lies l.heap l.rest;
  same : each_of (λ p. option_and_then two_symbols (elements p)) (object_of l.heap l.fn.list) ≡ after (seen_renaming l.found) (each_of (λ p. option_and_then two_symbols (elements p)) (object_of l.heap l.rest));
}

abbrev pub decreases-items : goal.decreases-items
decreases-items l = weight (object_of l.heap l.rest)
