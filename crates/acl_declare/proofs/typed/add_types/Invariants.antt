use Rattle.std.specs.Prelude.{◌≡◌, ◌≤◌, length}
use Rattle.acl_heap.specs.Objects.{object_of, Extends}
use Rattle.acl_terms.specs.Forms.{numbers}
use Rattle.acl_declare.specs.Said.{seen_declared, declared_reach, after_said, typed_all}
use Rattle.acl_declare.proofs.typed.add_types.Given as goal

abbrev pub invariant-names : goal.invariant-names
invariant-names l = record {
  grows : Extends l.fn.heap l.heap;
  reach : declared_reach l.said ≤ length l.heap;
  same : after_said (seen_declared l.fn.heap l.fn.said) (typed_all l.syms.symbols (object_of l.fn.heap l.spec) (numbers l.names))
      ≡ after_said (seen_declared l.heap l.said) (typed_all l.syms.symbols (object_of l.fn.heap l.spec) (numbers l.rest));
}

abbrev pub decreases-names : goal.decreases-names
decreases-names l = length l.rest
