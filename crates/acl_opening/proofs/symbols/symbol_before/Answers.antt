use Rattle.std.proofs.Common.{◌-◌}
use Rattle.model_objects.specs.Object.{Pair, Symbol, weight}
use Rattle.acl_heap.specs.Objects.{object_of}
use Rattle.acl_heap.specs.Faults.{RefusedFor}
use Rattle.acl_opening.proofs.OpenedLemmas.{too_large}
use Rattle.acl_opening.proofs.symbols.symbol_before.Goals as goal

pub unreachable-requires : goal.unreachable-requires
unreachable-requires c =
    let s = (c.args.end - 1) - c.args.done in
    let told : RefusedFor (weight (Pair (Symbol s) (object_of c.args.heap.now c.args.rest))) c.in-Err-TooLarge.field-0 = c.in-Err-TooLarge.ensures.fault in
    too_large c.args.heap.now c.args.rest c.args.end c.args.done s c.in-Err-TooLarge.field-0-0 c.in-Err-TooLarge.field-0 c.requires.more c.requires.few c.requires.rest c.in-Err-TooLarge.field-0-is told
