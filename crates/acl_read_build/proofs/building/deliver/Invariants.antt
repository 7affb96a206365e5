use Rattle.std.specs.Prelude.{◌≡◌, length}
use Rattle.model_text.specs.Parts.{delivered}
use Rattle.acl_read_build.specs.Slots.{item_at, parts_at, IsWholeItem, AreWholeSlots, Grows}
use Rattle.acl_read_build.proofs.building.deliver.Given as goal

abbrev pub invariant-loop-slot : goal.invariant-loop-slot
invariant-loop-slot l = record {
  grown : Grows l.syms l.fn.heap l.heap;
  whole : IsWholeItem l.syms l.heap l.item;
  slots : AreWholeSlots l.syms l.heap l.slots.items;
  same : delivered (item_at l.syms l.heap l.item) (parts_at l.syms l.heap l.slots.items) ≡ delivered (item_at l.syms l.fn.heap l.fn.item) (parts_at l.syms l.fn.heap l.fn.slots.items);
}

abbrev pub decreases-loop-slot : goal.decreases-loop-slot
decreases-loop-slot l = length l.slots.items
