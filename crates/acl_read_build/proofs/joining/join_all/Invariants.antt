use Rattle.std.specs.Prelude.{◌≡◌, length}
use Rattle.model_text.specs.Backquote.{joined_onto}
use Rattle.acl_read_build.specs.Slots.{item_at, items_at, IsWholeItem, AreWholeItems, Grows}
use Rattle.acl_read_build.proofs.joining.join_all.Given as goal

abbrev pub invariant-loop-item : goal.invariant-loop-item
invariant-loop-item l = record {
  grown : Grows l.syms l.fn.heap l.heap;
  items : AreWholeItems l.syms l.heap l.items.items;
  end : IsWholeItem l.syms l.heap l.end;
  same : joined_onto (items_at l.syms l.heap l.items.items) (item_at l.syms l.heap l.end) ≡ joined_onto (items_at l.syms l.fn.heap l.fn.items.items) (item_at l.syms l.fn.heap l.fn.end);
}

abbrev pub decreases-loop-item : goal.decreases-loop-item
decreases-loop-item l = length l.items.items
