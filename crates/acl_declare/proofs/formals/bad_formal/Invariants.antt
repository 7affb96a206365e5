use Rattle.std.specs.Prelude.{◌≡◌}
use Rattle.model_objects.specs.Object.{weight}
use Rattle.model_stobjs.specs.Answers.{first_given}
use Rattle.model_events.specs.Declarations.{bad_formal}
use Rattle.acl_heap.specs.Objects.{object_of, Lies}
use Rattle.acl_layers.specs.Lists.{items_along}
use Rattle.acl_declare.proofs.formals.bad_formal.Given as goal

abbrev pub invariant-formals : goal.invariant-formals
invariant-formals l = record {
  lies : Lies l.heap l.at;
  same : first_given (bad_formal l.syms.symbols) (items_along (object_of l.heap l.fn.list)) ≡ first_given (bad_formal l.syms.symbols) (items_along (object_of l.heap l.at));
}

abbrev pub decreases-formals : goal.decreases-formals
decreases-formals l = weight (object_of l.heap l.at)
