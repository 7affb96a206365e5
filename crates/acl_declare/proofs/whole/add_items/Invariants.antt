use Rattle.std.specs.Prelude.{◌≡◌, ◌≤◌, length}
use Rattle.model_events.specs.Declarations.{declarations}
use Rattle.acl_heap.specs.Objects.{Extends}
use Rattle.acl_declare.specs.Said.{seen_declared, declared_reach, after_said, words_at, words_reach}
use Rattle.acl_declare.proofs.whole.add_items.Given as goal

abbrev pub invariant-items : goal.invariant-items
invariant-items l = record {
  grows : Extends l.fn.heap l.heap;
  lies : words_reach l.rest ≤ length l.fn.heap;
  reach : declared_reach l.said ≤ length l.heap;
  same : after_said (seen_declared l.fn.heap l.fn.said) (declarations l.syms.symbols l.table (words_at l.fn.heap l.items))
      ≡ after_said (seen_declared l.heap l.said) (declarations l.syms.symbols l.table (words_at l.fn.heap l.rest));
}

abbrev pub decreases-items : goal.decreases-items
decreases-items l = length l.rest
