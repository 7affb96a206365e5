use Rattle.std.proofs.Common.{◌≡◌, ◌+◌, None}
use Rattle.acl_maps.specs.Cells.{with_cell}
use Rattle.acl_fields.specs.Changes.{tabled}
use Rattle.acl_fields.specs.Held.{part_cells}
use Rattle.acl_fields.specs.Parts.{part_of}
use Rattle.acl_fields.proofs.NodeLemmas.{parts_put, slot_given}
use Rattle.acl_fields.proofs.node.Node.remove.Goals as goal

pub returns-clause-parts : goal.returns-clause-parts
returns-clause-parts c = parts_put c.args.self.now.slots.items c.args.field c.index_mut.result.now c.remove.new.self _ (λ p. tabled (with_cell c.args.k.now None) p) c.index_mut.ensures.value c.requires c.remove.ensures.removed

pub returns-clause-gone : goal.returns-clause-gone
returns-clause-gone c = slot_given c.args.self.now.slots.items c.args.field c.index_mut.result.now _ (λ s. part_cells (tabled (with_cell c.args.k.now None) (part_of s)) + c.remove.result ≡ part_cells (part_of s)) c.index_mut.ensures.value c.requires c.remove.ensures.gone
