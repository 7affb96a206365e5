use Rattle.std.proofs.Common.{◌≡◌, ◌+◌}
use Rattle.acl_fields.specs.Held.{change_cells, noted_cells, part_cells}
use Rattle.acl_fields.specs.Parts.{part_of}
use Rattle.acl_fields.specs.Changes.{GivesBack, changed, tabled}
use Rattle.acl_fields.proofs.NodeLemmas.{parts_put, parts_kept, slot_given}
use Rattle.acl_fields.proofs.node.Node.change.Goals as goal

pub returns-in-Ok-clause-parts : goal.returns-in-Ok-clause-parts
returns-in-Ok-clause-parts c = parts_put c.args.self.now.slots.items c.args.field c.index_mut.result.now c.change.new.self _ (λ p. tabled (changed c.args.change) p) c.index_mut.ensures.value c.requires.table c.in-Ok.ensures.changed

pub returns-in-Ok-clause-noted : goal.returns-in-Ok-clause-noted
returns-in-Ok-clause-noted c = slot_given c.args.self.now.slots.items c.args.field c.index_mut.result.now _ (λ s. GivesBack c.in-Ok.part (tabled (changed c.args.change) (part_of s)) (part_of s)) c.index_mut.ensures.value c.requires.table c.in-Ok.ensures.noted

pub returns-in-Ok-clause-counted : goal.returns-in-Ok-clause-counted
returns-in-Ok-clause-counted c = slot_given c.args.self.now.slots.items c.args.field c.index_mut.result.now _ (λ s. part_cells (tabled (changed c.args.change) (part_of s)) + noted_cells c.in-Ok.part ≡ part_cells (part_of s) + change_cells c.args.change) c.index_mut.ensures.value c.requires.table c.in-Ok.ensures.counted

pub returns-in-Err-clause-refused : goal.returns-in-Err-clause-refused
returns-in-Err-clause-refused c = parts_kept c.args.self.now.slots.items c.args.field c.index_mut.result.now c.change.new.self _ c.index_mut.ensures.value c.requires.table c.in-Err.ensures.refused
