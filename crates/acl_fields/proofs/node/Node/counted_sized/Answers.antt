use Rattle.std.proofs.Common.{◌+◌}
use Rattle.acl_owned.specs.Owned.{IsSum}
use Rattle.acl_fields.specs.Fields.{sized}
use Rattle.acl_fields.specs.Held.{part_cells}
use Rattle.acl_fields.specs.Parts.{part_of}
use Rattle.acl_fields.proofs.NodeLemmas.{slot_given}
use Rattle.acl_fields.proofs.node.Node.counted_sized.Goals as goal

pub returns : goal.returns
returns c = slot_given c.args.self.now.slots.items c.args.field c.index.result.now _ (λ s. IsSum c.counted_sized.result (c.args.start + part_cells (sized c.args.heap.now (part_of s) c.args.length))) c.index.ensures c.requires c.counted_sized.ensures
