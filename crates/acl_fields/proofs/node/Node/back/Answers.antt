use Rattle.std.proofs.Common.{◌≡◌, ◌+◌}
use Rattle.acl_fields.specs.Notes.{back}
use Rattle.acl_fields.specs.Held.{noted_cells, part_cells}
use Rattle.acl_fields.specs.Parts.{part_of}
use Rattle.acl_fields.proofs.NodeLemmas.{parts_put, slot_given}
use Rattle.acl_fields.proofs.node.Node.back.Goals as goal

pub returns-clause-parts : goal.returns-clause-parts
returns-clause-parts c = parts_put c.args.self.now.slots.items c.args.field c.index_mut.result.now c.back.new.self _ (λ p. back c.args.part p) c.index_mut.ensures.value c.requires.suits c.back.ensures.back

pub returns-clause-gone : goal.returns-clause-gone
returns-clause-gone c = slot_given c.args.self.now.slots.items c.args.field c.index_mut.result.now _ (λ s. part_cells (back c.args.part (part_of s)) + c.back.result ≡ part_cells (part_of s) + noted_cells c.args.part) c.index_mut.ensures.value c.requires.suits c.back.ensures.gone
