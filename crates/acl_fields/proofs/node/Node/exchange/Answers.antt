use Rattle.acl_fields.specs.Fields.{with_held}
use Rattle.acl_fields.specs.Notes.{IsNote}
use Rattle.acl_fields.specs.Parts.{part_of}
use Rattle.acl_fields.proofs.NodeLemmas.{parts_put, slot_given}
use Rattle.acl_fields.proofs.node.Node.exchange.Goals as goal

pub returns-clause-parts : goal.returns-clause-parts
returns-clause-parts c = parts_put c.args.self.now.slots.items c.args.field c.index_mut.result.now c.exchange.new.self _ (λ p. with_held p c.args.index c.args.o) c.index_mut.ensures.value c.requires c.exchange.ensures.held

pub returns-clause-noted : goal.returns-clause-noted
returns-clause-noted c = slot_given c.args.self.now.slots.items c.args.field c.index_mut.result.now _ (λ s. IsNote c.exchange.result (part_of s) c.args.index) c.index_mut.ensures.value c.requires c.exchange.ensures.noted
