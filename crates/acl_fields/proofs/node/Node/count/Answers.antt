use Rattle.acl_fields.specs.Parts.{part_of}
use Rattle.acl_fields.specs.Changes.{Counts}
use Rattle.acl_fields.proofs.NodeLemmas.{slot_given}
use Rattle.acl_fields.proofs.node.Node.count.Goals as goal

pub returns : goal.returns
returns c = slot_given c.args.self.now.slots.items c.args.field c.index.result.now _ (λ s. Counts (part_of s) c.count.result) c.index.ensures c.requires c.count.ensures
