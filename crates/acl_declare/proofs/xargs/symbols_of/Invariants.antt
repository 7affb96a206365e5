use Rattle.std.specs.Prelude.{◌≡◌}
use Rattle.model_objects.specs.Object.{weight}
use Rattle.model_expansion.specs.Forms.{each_of, symbol}
use Rattle.acl_heap.specs.Objects.{object_of, Lies}
use Rattle.acl_terms.specs.Forms.{numbers}
use Rattle.acl_layers.proofs.EachLemmas.{after}
use Rattle.acl_declare.proofs.xargs.symbols_of.Given as goal

abbrev pub invariant-items : goal.invariant-items
invariant-items l = record {
  lies : Lies l.heap l.rest;
  same : each_of symbol (object_of l.heap l.fn.list) ≡ after (numbers l.found) (each_of symbol (object_of l.heap l.rest));
}

abbrev pub decreases-items : goal.decreases-items
decreases-items l = weight (object_of l.heap l.rest)
