use Rattle.std.proofs.Common.{◌≡◌}
use Rattle.acl_fields.specs.Held.{part_cells}
use Rattle.acl_fields.specs.Parts.{part_of}
use Rattle.acl_fields.proofs.NodeLemmas.{slot_given}
use Rattle.acl_fields.proofs.node.Node.cells.Goals as goal

pub returns : goal.returns
returns c = slot_given c.args.self.now.slots.items c.args.field c.index.result.now _ (λ s. c.cells.result ≡ part_cells (part_of s)) c.index.ensures c.requires c.cells.ensures
