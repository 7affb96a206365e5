use Rattle.acl_fields.specs.Parts.{part_of}
use Rattle.acl_fields.specs.Changes.{FindsIn}
use Rattle.acl_fields.proofs.NodeLemmas.{slot_given}
use Rattle.acl_fields.proofs.node.Node.find.Goals as goal

pub returns-in-Ok-clause-ok : goal.returns-in-Ok-clause-ok
returns-in-Ok-clause-ok c = slot_given c.args.self.now.slots.items c.args.field c.index.result.now _ (λ s. FindsIn (part_of s) c.args.k.now c.find.new.heap c.in-Ok.found) c.index.ensures c.requires c.in-Ok.ensures.ok
