use Rattle.std.specs.Prelude.{◌≡◌, length, drop, map}
use Rattle.model_text.specs.Parts.{Whole, put_all}
use Rattle.acl_read_lexemes.specs.Lexemes.{placed_at, form_of, AreKnown}
use Rattle.acl_read_build.specs.Slots.{parts_at, AreWholeSlots, Grows}
use Rattle.acl_read_build.proofs.building.build_all.Given as goal

abbrev pub invariant-loop-placed : goal.invariant-loop-placed
invariant-loop-placed l = record {
  grown : Grows l.syms l.fn.heap l.heap;
  slots : AreWholeSlots l.syms l.heap l.slots.items;
  known : AreKnown (length l.syms.symbols) (drop l.placed-index l.lexemes);
  same : put_all (parts_at l.syms l.heap l.slots.items) (map (placed_at l.syms.symbols) (drop l.placed-index l.lexemes)) ≡ Whole (form_of l.syms.symbols l.lexemes);
}
