use Rattle.std.proofs.Common.{[]}
use Rattle.acl_fields.specs.Changes.{tabled}
use Rattle.acl_fields.proofs.NodeLemmas.{parts_put}
use Rattle.acl_fields.proofs.node.Node.clear.Goals as goal

pub returns-clause-parts : goal.returns-clause-parts
returns-clause-parts c = parts_put c.args.self.now.slots.items c.args.field c.index_mut.result.now c.clear.new.self _ (λ p. tabled (λ cs. []) p) c.index_mut.ensures.value c.requires c.clear.ensures
