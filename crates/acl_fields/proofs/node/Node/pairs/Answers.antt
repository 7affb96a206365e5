use Rattle.acl_fields.specs.Parts.{part_of}
use Rattle.acl_fields.specs.Changes.{Lists}
use Rattle.acl_fields.proofs.NodeLemmas.{slot_given}
use Rattle.acl_fields.proofs.node.Node.pairs.Goals as goal

pub returns-in-Ok-clause-ok : goal.returns-in-Ok-clause-ok
returns-in-Ok-clause-ok c = slot_given c.args.self.now.slots.items c.args.field c.index.result.now _ (λ s. Lists c.args.syms.now.symbols (part_of s) c.pairs.new.heap c.in-Ok.pairs.items) c.index.ensures c.requires c.in-Ok.ensures.ok
