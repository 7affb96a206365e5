use Rattle.acl_fields.specs.Fields.{sized}
use Rattle.acl_fields.proofs.NodeLemmas.{parts_put, parts_kept, part_given}
use Rattle.acl_fields.proofs.node.Node.renew.Goals as goal

pub returns-in-Ok-clause-parts : goal.returns-in-Ok-clause-parts
returns-in-Ok-clause-parts c = parts_put c.args.self.now.slots.items c.args.field c.index_mut.result.now c.renew.new.self _ (λ p. sized c.args.heap.now p c.args.length) c.index_mut.ensures.value c.requires c.in-Ok.ensures.elements

pub returns-in-Ok-clause-old : goal.returns-in-Ok-clause-old
returns-in-Ok-clause-old c = part_given c.args.self.now.slots.items c.args.field c.index_mut.result.now c.in-Ok.slot _ c.index_mut.ensures.value c.requires c.in-Ok.ensures.old

pub returns-in-Err-clause-refused : goal.returns-in-Err-clause-refused
returns-in-Err-clause-refused c = parts_kept c.args.self.now.slots.items c.args.field c.index_mut.result.now c.renew.new.self _ c.index_mut.ensures.value c.requires c.in-Err.ensures.refused
