use Rattle.std.specs.Prelude.{◌≡◌, ◌++◌}
use Rattle.model_objects.specs.Object.{weight}
use Rattle.model_events.specs.Declarations.{formals_of}
use Rattle.acl_heap.specs.Objects.{object_of, Lies}
use Rattle.acl_terms.specs.Forms.{numbers}
use Rattle.acl_layers.specs.Lists.{items_along}
use Rattle.acl_declare.proofs.formals.read_formals.Given as goal

abbrev pub invariant-formals : goal.invariant-formals
invariant-formals l = record {
  lies : Lies l.heap l.at;
  same : formals_of l._syms.symbols (items_along (object_of l.heap l.fn.list)) ≡ numbers l.names ++ formals_of l._syms.symbols (items_along (object_of l.heap l.at));
}

abbrev pub decreases-formals : goal.decreases-formals
decreases-formals l = weight (object_of l.heap l.at)
